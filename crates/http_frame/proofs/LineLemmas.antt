-- The lines of a head, and where a search for one looks.
use Rattle.std.proofs.Common.{◌≡◌, ℕ, ◌+◌, ◌<◌, ◌≤◌, ◌==◌, List, [], ◌∷◌, ◌++◌, Bool, true, false, cond, length, take, drop, get_or, take-append-drop, sym, ap, ap₂, ◌∙◌, subst, refl, arith, append_assoc, length-append, inl, inr, ◌||◌, IsTrue, Option}
use Rattle.std.specs.List.{flat_map, All}
use Rattle.std.proofs.lemmas.Bool.{cases_lt}
use Rattle.std.proofs.lemmas.Bool.Decides.{nat_tests}
use Rattle.std.proofs.lemmas.Grind.{fold-append, take_at_read}
use Rattle.std.proofs.lemmas.List.Elements.{All-head, All-tail}
use Rattle.httparse.specs.Grammar.{LineEnd, crlf, lf, print_end, print_blank, print_version, print_field, Field, IsField, RequestHead, IsRequestHead, print_request, AllPass, IsToken, is_token_byte, is_uri_byte, is_value_byte}
use Rattle.http_frame.specs.Heads.{HasNoHead}
use Rattle.http_frame.specs.Streams.{IsStream}
use Rattle.http_frame.specs.Search.{line_after, is_mark, line_behind, has_mark}
use Rattle.http_frame.specs.declared.lines.Line.{Line}
use Rattle.http_frame.specs.declared.lines.Line.TheVariants.{Blank, First, Start, Return, Inside}
use Rattle.http_frame.specs.declared.lines.Mark.{Mark}
use Rattle.http_frame.specs.declared.lines.Mark.TheVariants.{FirstLine, Section}
use Rattle.http_frame.proofs.StreamLemmas.{part_of_part}

or_assoc : (a b c : Bool) → ((a || b) || c) ≡ (a || (b || c))
or_assoc true b c = refl
or_assoc false b c = refl

or_true : (a : Bool) → (a || true) ≡ true
or_true true = refl
or_true false = refl

pub has_mark-append : (m : Mark) (l : Line) (xs ys : List ℕ) → has_mark m l (xs ++ ys) ≡ (has_mark m l xs || has_mark m (line_behind l xs) ys)
has_mark-append m l [] ys = refl
has_mark-append m l (x ∷ xs) ys =
    ap (λ r. is_mark m l x || r) (has_mark-append m (line_after l x) xs ys)
    ∙ sym (or_assoc (is_mark m l x) (has_mark m (line_after l x) xs) (has_mark m (line_behind (line_after l x) xs) ys))

pub line_behind-append : (l : Line) (xs ys : List ℕ) → line_behind l (xs ++ ys) ≡ line_behind (line_behind l xs) ys
line_behind-append l xs ys = fold-append line_after l xs ys

-- a mark stays, whatever follows
marked : (m : Mark) (l : Line) (xs ys : List ℕ) → has_mark m l xs ≡ true → has_mark m l (xs ++ ys) ≡ true
marked m l xs ys e = has_mark-append m l xs ys ∙ ap (λ z. z || has_mark m (line_behind l xs) ys) e

-- no empty line ends in these bytes, which leave the reader there
abbrev pub Quiet : Line → List ℕ → Line → Type 0
Quiet l bs l' = (has_mark Section l bs ≡ false) × (line_behind l bs ≡ l')

pub quiet_then : (l l' l'' : Line) (xs ys : List ℕ) → Quiet l xs l' → Quiet l' ys l'' → Quiet l (xs ++ ys) l''
quiet_then l l' l'' xs ys p q =
    let second : has_mark Section (line_behind l xs) ys ≡ false = ap (λ z. has_mark Section z ys) p.1 ∙ q.0 in (
      has_mark-append Section l xs ys ∙ ap₂ (λ a b. a || b) p.0 second,
      line_behind-append l xs ys ∙ ap (λ z. line_behind z ys) p.1 ∙ q.1,
    )

other_byte : (test : ℕ → Bool) (b c : ℕ) → test c ≡ false → test b ≡ true → (b == c) ≡ false
other_byte test b c other passes =
    let apart : b ≡ c → ⊥ = λ e. let same = ap test e in cc in
    grind (arith, nat_tests)

quiet_end : (end : LineEnd) → Quiet Blank (print_end end) Blank
quiet_end crlf = (refl, refl)
quiet_end lf = (refl, refl)

pub quiet_blank : (ends : List LineEnd) → Quiet Blank (print_blank ends) Blank
quiet_blank [] = (refl, refl)
quiet_blank (end ∷ ends) = quiet_then Blank Blank Blank (print_end end) (print_blank ends) (quiet_end end) (quiet_blank ends)

pub quiet_first : (test : ℕ → Bool) (bs : List ℕ) → test 10 ≡ false → AllPass test bs → Quiet First bs First
quiet_first test [] other p = (refl, refl)
quiet_first test (b ∷ bs) other p =
    let here : line_after First b ≡ First = ap (λ z. cond z Start First) (other_byte test b 10 other (All-head (λ c. IsTrue (test c)) b bs p)) in
    let rest = quiet_first test bs other (All-tail (λ c. IsTrue (test c)) b bs p) in
    (ap (λ z. has_mark Section z bs) here ∙ rest.0, ap (λ z. line_behind z bs) here ∙ rest.1)

quiet_inside : (test : ℕ → Bool) (bs : List ℕ) → test 10 ≡ false → AllPass test bs → Quiet Inside bs Inside
quiet_inside test [] other p = (refl, refl)
quiet_inside test (b ∷ bs) other p =
    let here : line_after Inside b ≡ Inside = ap (λ z. cond z Start Inside) (other_byte test b 10 other (All-head (λ c. IsTrue (test c)) b bs p)) in
    let rest = quiet_inside test bs other (All-tail (λ c. IsTrue (test c)) b bs p) in
    (ap (λ z. has_mark Section z bs) here ∙ rest.0, ap (λ z. line_behind z bs) here ∙ rest.1)

token_no_lf : is_token_byte 10 ≡ false
unfolding is_token_byte
token_no_lf = refl

token_no_cr : is_token_byte 13 ≡ false
unfolding is_token_byte
token_no_cr = refl

-- a token begins a line
quiet_method : (bs : List ℕ) → IsToken bs → Quiet Blank bs First
quiet_method [] p = let some = p.0 in absurd (omega arith)
quiet_method (b ∷ bs) p =
    let token = All-head (λ c. IsTrue (is_token_byte c)) b bs p.1 in
    let here : line_after Blank b ≡ First =
    ap₂ (λ y z. cond (y || z) Blank First) (other_byte is_token_byte b 10 token_no_lf token) (other_byte is_token_byte b 13 token_no_cr token) in
    let rest = quiet_first is_token_byte bs token_no_lf (All-tail (λ c. IsTrue (is_token_byte c)) b bs p.1) in
    (ap (λ z. has_mark Section z bs) here ∙ rest.0, ap (λ z. line_behind z bs) here ∙ rest.1)

quiet_name : (bs : List ℕ) → IsToken bs → Quiet Start bs Inside
quiet_name [] p = let some = p.0 in absurd (omega arith)
quiet_name (b ∷ bs) p =
    let token = All-head (λ c. IsTrue (is_token_byte c)) b bs p.1 in
    let no_lf = other_byte is_token_byte b 10 token_no_lf token in
    let here : line_after Start b ≡ Inside =
    ap₂ (λ y z. cond y Start (cond z Return Inside)) no_lf (other_byte is_token_byte b 13 token_no_cr token) in
    let rest = quiet_inside is_token_byte bs token_no_lf (All-tail (λ c. IsTrue (is_token_byte c)) b bs p.1) in
    (ap₂ (λ y z. y || has_mark Section z bs) no_lf here ∙ rest.0, ap (λ z. line_behind z bs) here ∙ rest.1)

pub quiet_version : (minor : ℕ) → Quiet First (print_version minor) First
quiet_version minor =
    let other : ((48 + minor) == 10) ≡ false = grind (arith, nat_tests) in
    (refl, ap (λ z. cond z Start First) other)

pub first_end : (end : LineEnd) → Quiet First (print_end end) Start
first_end crlf = (refl, refl)
first_end lf = (refl, refl)

inside_end : (end : LineEnd) → Quiet Inside (print_end end) Start
inside_end crlf = (refl, refl)
inside_end lf = (refl, refl)

quiet_field : (f : Field) → IsField f → Quiet Start (print_field f) Start
quiet_field f p =
    let name = quiet_name f.name p.name in
    let raw = quiet_then Start Inside Inside f.name (58 ∷ f.raw) name (quiet_inside is_value_byte f.raw refl p.raw) in
    quiet_then Start Inside Start (f.name ++ 58 ∷ f.raw) (print_end f.end) raw (inside_end f.end)

pub quiet_fields : (fs : List Field) → All IsField fs → Quiet Start (flat_map print_field fs) Start
quiet_fields [] p = (refl, refl)
quiet_fields (f ∷ fs) p =
    quiet_then Start Start Start (print_field f) (flat_map print_field fs) (quiet_field f (All-head IsField f fs p)) (quiet_fields fs (All-tail IsField f fs p))

-- the only end of an empty line behind the first line is the last byte
abbrev pub EndsAtMark : List ℕ → Type 0
EndsAtMark bs = (front : List ℕ) × (bs ≡ front ++ 10 ∷ []) × (has_mark Section Blank front ≡ false) × (is_mark Section (line_behind Blank front) 10 ≡ true)

pub last_mark : (last : LineEnd) (front : List ℕ) → Quiet Blank front Start → EndsAtMark (front ++ print_end last)
last_mark crlf front q =
    let return = quiet_then Blank Start Return front (13 ∷ []) q (refl, refl) in
    (front ++ 13 ∷ [], sym (append_assoc front (13 ∷ []) (10 ∷ [])), return.0, ap (λ z. is_mark Section z 10) return.1)
last_mark lf front q = (front, refl, q.0, ap (λ z. is_mark Section z 10) q.1)

head_mark : (h : RequestHead) → IsRequestHead h → EndsAtMark (print_request h)
unfolding print_request
head_mark h p =
    let method = quiet_then Blank Blank First (print_blank h.blank) h.method (quiet_blank h.blank) (quiet_method h.method p.method) in
    let target = quiet_then Blank First First (print_blank h.blank ++ h.method) (32 ∷ h.target) method (quiet_first is_uri_byte h.target refl p.target.1) in
    let version = quiet_then Blank First First (print_blank h.blank ++ h.method ++ 32 ∷ h.target) (32 ∷ print_version h.minor) target (quiet_version h.minor) in
    let front = print_blank h.blank ++ h.method ++ 32 ∷ h.target ++ 32 ∷ print_version h.minor ++ print_end h.line_end in
    let line = quiet_then Blank First Start (print_blank h.blank ++ h.method ++ 32 ∷ h.target ++ 32 ∷ print_version h.minor) (print_end h.line_end) version (first_end h.line_end) in
    let fields = flat_map print_field h.fields in
    let all = quiet_then Blank Start Start front fields line (quiet_fields h.fields p.fields) in
    let last = last_mark h.last (front ++ fields) all in
    (last.0, sym (append_assoc front fields (print_end h.last)) ∙ last.1, last.2, last.3)

no_section_first : (bs : List ℕ) → has_mark FirstLine First bs ≡ false → has_mark Section First bs ≡ false
no_section_first [] e = refl
no_section_first (b ∷ bs) e =
    elim (b == 10) as (λ t. (t || has_mark FirstLine (cond t Start First) bs) ≡ false → has_mark Section (cond t Start First) bs ≡ false)
    [ true ↦ λ h. cc | false ↦ λ h. no_section_first bs h ] e

-- no empty line ends where no first line does
no_section : (bs : List ℕ) → has_mark FirstLine Blank bs ≡ false → has_mark Section Blank bs ≡ false
no_section [] e = refl
no_section (b ∷ bs) e =
    elim (b == 10 || b == 13) as (λ t. has_mark FirstLine (cond t Blank First) bs ≡ false → has_mark Section (cond t Blank First) bs ≡ false)
    [ true ↦ λ h. no_section bs h | false ↦ λ h. no_section_first bs h ] e

-- no first bytes of b are such a text
abbrev pub NoneOf : (List ℕ → Type 0) → List ℕ → Type 0
NoneOf P b = (p rest : List ℕ) → P p → b ≡ p ++ rest → ⊥

no_end : (P : List ℕ → Type 0) → ((p : List ℕ) → P p → EndsAtMark p) → (held : List ℕ) → has_mark Section Blank held ≡ false → NoneOf P held
no_end P ends held e p rest x whole =
    let end = ends p x in
    let there : has_mark Section Blank (end.0 ++ 10 ∷ []) ≡ true =
    has_mark-append Section Blank end.0 (10 ∷ []) ∙ ap₂ (λ y z. y || (z || false)) end.2 end.3 in
    let all = ap (has_mark Section Blank) (whole ∙ ap (λ (z : List ℕ). z ++ rest) end.1) ∙ marked Section Blank (end.0 ++ 10 ∷ []) rest there in
    cc

-- bytes without a mark have no text that ends at one
pub unmarked_of : (P : List ℕ → Type 0) → ((p : List ℕ) → P p → EndsAtMark p) → (mark : Mark) (held : List ℕ) → has_mark mark Blank held ≡ false
    → NoneOf P held
unmarked_of P ends Section held e = no_end P ends held e
unmarked_of P ends FirstLine held e = no_end P ends held (no_section held e)

-- bytes that have the end of an empty line and no such text never have one
pub never_of : (P : List ℕ → Type 0) → ((p : List ℕ) → P p → EndsAtMark p) → (held more : List ℕ) → has_mark Section Blank held ≡ true
    → NoneOf P held → NoneOf P (held ++ more)
never_of P ends held more e none p rest x whole =
    elim (cases_lt (length held) (length p)) [
      | inl long ↦ (let end = ends p x in
          let size = simp length-append at (ap length end.1) in
          let same : end.0 ++ (10 ∷ rest) ≡ held ++ more =
          sym (whole ∙ ap (λ (z : List ℕ). z ++ rest) end.1 ∙ append_assoc end.0 (10 ∷ []) rest) in
          let inside = part_of_part end.0 (10 ∷ rest) held more same (omega arith) in
          let there = ap (has_mark Section Blank) inside ∙ marked Section Blank held (drop (length held) end.0) e in
          let front = end.2 in
          cc)
      | inr short ↦ none p (drop (length p) held) x (part_of_part held more p rest whole (omega arith))
    ]

some_mark : (m : Mark) (l : Line) (xs : List ℕ) → has_mark m l xs ≡ true → 0 < length xs
some_mark m l [] e = cc
some_mark m l (x ∷ xs) e = omega arith

-- the stream of such bytes has none
pub none_behind_of : (P : List ℕ → Type 0) → ((p : List ℕ) → P p → EndsAtMark p) → (held b : List ℕ) (left : Option (List ℕ))
    → has_mark Section Blank held ≡ true → NoneOf P held → IsStream held left b → (0 < length b) × NoneOf P b
none_behind_of P ends held b left e none s =
    let some = some_mark Section Blank held e in
    let size = simp length-append at (ap length s.2) in
    (omega arith, subst (NoneOf P) (sym s.2) (never_of P ends held s.0 e none))

-- as much is there as such a text may have, and it has none
pub none_in_most_of : (P : List ℕ → Type 0) → ((p : List ℕ) → P p → length p ≤ 65536) → (held b : List ℕ) (left : Option (List ℕ)) → NoneOf P held
    → 65536 ≤ length held → IsStream held left b → (0 < length b) × NoneOf P b
none_in_most_of P short held b left none most s =
    let e = simp length-append at (ap length s.2) in (
      omega arith,
      λ p rest x whole.
          let few = short p x in
          none p (drop (length p) held) x (part_of_part held s.0 p rest (sym s.2 ∙ whole) (omega arith)),
    )

-- the bytes of a head within the limits
abbrev IsHeadText : List ℕ → Type 0
IsHeadText p = (h : RequestHead) × IsRequestHead h × (p ≡ print_request h) × (length (print_request h) ≤ 65536) × (length h.fields ≤ 128)

head_text_ends : (p : List ℕ) → IsHeadText p → EndsAtMark p
head_text_ends p x = subst EndsAtMark (sym x.2) (head_mark x.0 x.1)

head_text_short : (p : List ℕ) → IsHeadText p → length p ≤ 65536
head_text_short p x = let size = ap length x.2 in let short = x.3 in omega arith

no_text : (b : List ℕ) → HasNoHead b → NoneOf IsHeadText b
no_text b none p rest x e = none x.0 rest (record { reads = (x.1, e ∙ ap (λ (z : List ℕ). z ++ rest) x.2); short = x.3; few = x.4 })

no_head : (b : List ℕ) → NoneOf IsHeadText b → HasNoHead b
no_head b none h rest x = none (print_request h) rest (h, x.reads.0, refl, x.short, x.few) x.reads.1

-- bytes without a mark have no head
pub unmarked : (mark : Mark) (held : List ℕ) → has_mark mark Blank held ≡ false → HasNoHead held
unmarked mark held e = no_head held (unmarked_of IsHeadText head_text_ends mark held e)

pub none_behind_mark : (held b : List ℕ) (left : Option (List ℕ)) → has_mark Section Blank held ≡ true → HasNoHead held → IsStream held left b
    → (0 < length b) × HasNoHead b
none_behind_mark held b left e none s =
    let all = none_behind_of IsHeadText head_text_ends held b left e (no_text held none) s in
    (all.0, no_head b all.1)

-- as much is there as a head may have, and it has none
pub none_in_most : (held b : List ℕ) (left : Option (List ℕ)) → HasNoHead held → 65536 ≤ length held
    → IsStream held left b → (0 < length b) × HasNoHead b
none_in_most held b left none most s =
    let all = none_in_most_of IsHeadText head_text_short held b left (no_text held none) most s in
    (all.0, no_head b all.1)

-- one more byte is followed

pub mark_at : (m : Mark) (l : Line) (xs : List ℕ) (i : ℕ) → i < length xs → is_mark m (line_behind l (take i xs)) (get_or xs i 0) ≡ true
    → has_mark m l xs ≡ true
mark_at m l xs i h e =
    let more = (take_at_read xs i 0 h).1 in
    let there : has_mark m l (take i xs ++ get_or xs i 0 ∷ []) ≡ true =
    has_mark-append m l (take i xs) (get_or xs i 0 ∷ []) ∙ ap (λ z. has_mark m l (take i xs) || (z || false)) e ∙ or_true (has_mark m l (take i xs)) in
    ap (has_mark m l) (sym (take-append-drop (i + 1) xs) ∙ ap (λ (z : List ℕ). z ++ drop (i + 1) xs) more)
    ∙ marked m l (take i xs ++ get_or xs i 0 ∷ []) (drop (i + 1) xs) there

pub no_mark_at : (m : Mark) (l : Line) (xs : List ℕ) (i : ℕ) → i < length xs → has_mark m l (take i xs) ≡ false
    → is_mark m (line_behind l (take i xs)) (get_or xs i 0) ≡ false → has_mark m l (take (i + 1) xs) ≡ false
no_mark_at m l xs i h e f =
    ap (has_mark m l) (take_at_read xs i 0 h).1 ∙ has_mark-append m l (take i xs) (get_or xs i 0 ∷ []) ∙ ap₂ (λ y z. y || (z || false)) e f

pub behind_at : (l : Line) (xs : List ℕ) (i : ℕ) → i < length xs
    → line_behind l (take (i + 1) xs) ≡ line_after (line_behind l (take i xs)) (get_or xs i 0)
behind_at l xs i h = ap (line_behind l) (take_at_read xs i 0 h).1 ∙ line_behind-append l (take i xs) (get_or xs i 0 ∷ [])

-- the bytes from one on are followed

pub scanned_mark : (m : Mark) (xs : List ℕ) (n : ℕ) (line : Line) → line ≡ line_behind Blank (take n xs) → has_mark m line (drop n xs) ≡ true
    → has_mark m Blank xs ≡ true
scanned_mark m xs n line e f =
    ap (has_mark m Blank) (sym (take-append-drop n xs)) ∙ has_mark-append m Blank (take n xs) (drop n xs)
    ∙ ap (λ z. has_mark m Blank (take n xs) || z) (ap (λ z. has_mark m z (drop n xs)) (sym e) ∙ f) ∙ or_true (has_mark m Blank (take n xs))

pub scanned_none : (m : Mark) (xs : List ℕ) (n : ℕ) (line : Line) → has_mark m Blank (take n xs) ≡ false → line ≡ line_behind Blank (take n xs)
    → has_mark m line (drop n xs) ≡ false → has_mark m Blank xs ≡ false
scanned_none m xs n line none e f =
    ap (has_mark m Blank) (sym (take-append-drop n xs)) ∙ has_mark-append m Blank (take n xs) (drop n xs)
    ∙ ap₂ (λ y z. y || z) none (ap (λ z. has_mark m z (drop n xs)) (sym e) ∙ f)

pub scanned_behind : (xs : List ℕ) (n : ℕ) (line : Line) → line ≡ line_behind Blank (take n xs) → line_behind line (drop n xs) ≡ line_behind Blank xs
scanned_behind xs n line e =
    ap (λ z. line_behind z (drop n xs)) e ∙ sym (line_behind-append Blank (take n xs) (drop n xs)) ∙ ap (line_behind Blank) (take-append-drop n xs)
