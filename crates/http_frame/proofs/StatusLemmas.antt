-- Lemmas on the heads of responses.
use Rattle.std.proofs.Common.{◌≡◌, ℕ, ◌+◌, ◌<◌, ◌≤◌, ◌==◌, List, [], ◌∷◌, ◌++◌, true, false, cond, length, drop, sym, ap, ◌∙◌, subst, refl, arith, length-take-le, length-append, append_assoc, Option, Some, None, Err}
use Rattle.std.specs.List.{flat_map}
use Rattle.std.specs.Char.{is_ascii_digit}
use Rattle.std.proofs.lemmas.List.{length-map}
use Rattle.std.proofs.lemmas.Bool.Decides.{nat_tests}
use Rattle.httparse.specs.Grammar.{ResponseHead, IsResponseHead, print_response, ReadsResponse, AllPass, print_end, print_blank, print_version, print_reason, reason_phrase, print_field, is_value_byte}
use Rattle.httparse.specs.Spans.{IsResponseOf, IsResponseAt, IsResponseWithin}
use Rattle.httparse.specs.declared.spans.HeaderSpan.{HeaderSpan}
use Rattle.httparse.specs.declared.spans.ResponseSpans.{ResponseSpans}
use Rattle.httparse.proofs.GrammarLemmas.{response_prefix_free, ReadsResponse-append}
use Rattle.http_frame.specs.Search.{has_mark}
use Rattle.http_frame.specs.StatusHeads.{HasNoStatusHead, ShowsStatus, BeginsWithStatus}
use Rattle.http_frame.specs.Streams.{IsStream}
use Rattle.http_frame.specs.declared.lines.Line.TheVariants.{Blank, First, Start}
use Rattle.http_frame.specs.declared.lines.Mark.{Mark}
use Rattle.http_frame.specs.declared.lines.Mark.TheVariants.{Section}
use Rattle.http_frame.specs.declared.message.StatusHead.{StatusHead}
use Rattle.http_frame.proofs.LineLemmas.{Quiet, EndsAtMark, NoneOf, quiet_then, quiet_blank, quiet_first, first_end, quiet_fields, last_mark, unmarked_of, none_behind_of, none_in_most_of}
use Rattle.http_frame.proofs.StreamLemmas.{at_end}

-- the parser counts the fields of the head
count_is : (buf : List ℕ) (spans : List HeaderSpan) (r : ResponseSpans) (h : ResponseHead)
    → IsResponseAt buf spans r h → IsResponseWithin buf spans r → length h.fields ≡ r.headers
count_is buf spans r h at within =
    let e = simp length-map at (ap length at.fields) in
    let n = length-take-le r.headers spans within.section.count_fits in
    omega arith

-- a head with too many fields leaves no other head
pub too_many : (buf : List ℕ) (spans : List HeaderSpan) (r : ResponseSpans)
    → IsResponseOf buf spans r → IsResponseWithin buf spans r → 128 < r.headers → (more : List ℕ) → HasNoStatusHead (buf ++ more)
too_many buf spans r found within many more k q x =
    let h = found.0 in
    let same = response_prefix_free buf more h k (drop r.len buf) q found.1.reads x.reads in
    let n = count_is buf spans r h found.1 within in
    let m = ap (λ (z : ResponseHead). length z.fields) same.0 in
    let few = x.few in
    absurd (omega arith)

-- no bytes are no head
pub none_in_nothing : (b : List ℕ) → length b ≡ 0 → HasNoStatusHead b
unfolding print_response
none_in_nothing b empty h rest x =
    let e = simp length-append at (ap length x.reads.1) in
    omega arith

-- the source ended, and what is there has no head
pub none_at_end : (held b : List ℕ) (left : Option (List ℕ)) → HasNoStatusHead held → ((rest : List ℕ) → left ≡ Some rest → rest ≡ [])
    → IsStream held left b → (b ≡ held) × HasNoStatusHead b
none_at_end held b left none end s =
    let same = at_end held b left end s in (same, subst HasNoStatusHead (sym same) none)

quiet_version : (minor : ℕ) → Quiet Blank (print_version minor) First
quiet_version minor =
    let other : ((48 + minor) == 10) ≡ false = grind (arith, nat_tests) in
    (refl, ap (λ z. cond z Start First) other)

quiet_reason : (reason : Option (List ℕ)) → AllPass is_value_byte (reason_phrase reason) → Quiet First (print_reason reason) First
quiet_reason None p = (refl, refl)
quiet_reason (Some phrase) p = quiet_first is_value_byte phrase refl p

-- the only end of an empty line behind the first line is the last byte
status_mark : (h : ResponseHead) → IsResponseHead h → EndsAtMark (print_response h)
unfolding print_response
status_mark h p =
    let begin = print_blank h.blank ++ print_version h.minor in
    let version = quiet_then Blank Blank First (print_blank h.blank) (print_version h.minor) (quiet_blank h.blank) (quiet_version h.minor) in
    let code = quiet_then Blank First First begin (32 ∷ h.digits) version (quiet_first is_ascii_digit h.digits refl p.digits.1) in
    let reason = quiet_then Blank First First (begin ++ 32 ∷ h.digits) (print_reason h.reason) code (quiet_reason h.reason p.reason) in
    let line = quiet_then Blank First Start (begin ++ 32 ∷ h.digits ++ print_reason h.reason) (print_end h.line_end) reason (first_end h.line_end) in
    let front = begin ++ 32 ∷ h.digits ++ print_reason h.reason ++ print_end h.line_end in
    let fields = flat_map print_field h.fields in
    let all = quiet_then Blank Start Start front fields line (quiet_fields h.fields p.fields) in
    let last = last_mark h.last (front ++ fields) all in
    (last.0, sym (append_assoc front fields (print_end h.last)) ∙ last.1, last.2, last.3)

-- the bytes of a head within the limits
abbrev IsStatusText : List ℕ → Type 0
IsStatusText p = (h : ResponseHead) × IsResponseHead h × (p ≡ print_response h) × (length (print_response h) ≤ 65536) × (length h.fields ≤ 128)

status_text_ends : (p : List ℕ) → IsStatusText p → EndsAtMark p
status_text_ends p x = subst EndsAtMark (sym x.2) (status_mark x.0 x.1)

status_text_short : (p : List ℕ) → IsStatusText p → length p ≤ 65536
status_text_short p x = let size = ap length x.2 in let short = x.3 in omega arith

no_text : (b : List ℕ) → HasNoStatusHead b → NoneOf IsStatusText b
no_text b none p rest x e = none x.0 rest (record { reads = (x.1, e ∙ ap (λ (z : List ℕ). z ++ rest) x.2); short = x.3; few = x.4 })

no_head : (b : List ℕ) → NoneOf IsStatusText b → HasNoStatusHead b
no_head b none h rest x = none (print_response h) rest (h, x.reads.0, refl, x.short, x.few) x.reads.1

-- bytes without a mark have no head
pub unmarked : (mark : Mark) (held : List ℕ) → has_mark mark Blank held ≡ false → HasNoStatusHead held
unmarked mark held e = no_head held (unmarked_of IsStatusText status_text_ends mark held e)

pub none_behind_mark : (held b : List ℕ) (left : Option (List ℕ)) → has_mark Section Blank held ≡ true → HasNoStatusHead held → IsStream held left b
    → (0 < length b) × HasNoStatusHead b
none_behind_mark held b left e none s =
    let all = none_behind_of IsStatusText status_text_ends held b left e (no_text held none) s in
    (all.0, no_head b all.1)

-- as much is there as a head may have, and it has none
pub none_in_most : (held b : List ℕ) (left : Option (List ℕ)) → HasNoStatusHead held → 65536 ≤ length held
    → IsStream held left b → (0 < length b) × HasNoStatusHead b
none_in_most held b left none most s =
    let all = none_in_most_of IsStatusText status_text_short held b left (no_text held none) most s in
    (all.0, no_head b all.1)

-- a head that was found stands at the front of the stream
pub found_begins : (held b : List ℕ) (left : Option (List ℕ)) (spans : List HeaderSpan) (r : ResponseSpans) (head : StatusHead)
    → (found : IsResponseOf held spans r) → IsResponseWithin held spans r → r.headers ≤ 128 → length held ≤ 65536
    → (s : IsStream held left b) → ShowsStatus found.0 head → BeginsWithStatus b head (drop r.len held ++ s.0)
found_begins held b left spans r head found within few room s shows =
    let h = found.0 in
    let at = found.1 in
    let n = count_is held spans r h at within in
    let long = within.section.len_fits in
    let size = at.len in
    let all = ReadsResponse-append held h (drop r.len held) s.0 at.reads in
    let reads = subst (λ (x : List ℕ). ReadsResponse x h (drop r.len held ++ s.0)) (sym s.2) all in
    record { head = h; reads = record { reads = reads; short = omega arith; few = omega arith }; shows = shows }
