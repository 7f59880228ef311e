-- Lemmas on heads.
use Rattle.std.proofs.Common.{◌≡◌, ℕ, ◌<◌, ◌≤◌, List, [], ◌++◌, true, length, drop, sym, ap, ◌∙◌, subst, arith, length-take-le, length-append, Option, Some, Err, IsUtf8}
use Rattle.std.proofs.lemmas.List.{length-map}
use Rattle.std.proofs.lemmas.List.Elements.{All-weaker}
use Rattle.std.proofs.lemmas.Bool.Decides.{nat_tests}
use Rattle.std.proofs.lemmas.Str.{IsUtf8-from_ascii}
use Rattle.std.proofs.lemmas.Str.Ascii.{IsAscii-from_all}
use Rattle.httparse.specs.Grammar.{RequestHead, print_request, ReadsRequest, is_token_byte, IsToken}
use Rattle.httparse.specs.Spans.{IsRequestOf, IsRequestAt, IsRequestWithin}
use Rattle.httparse.specs.declared.spans.HeaderSpan.{HeaderSpan}
use Rattle.httparse.specs.declared.spans.RequestSpans.{RequestSpans}
use Rattle.httparse.proofs.GrammarLemmas.{request_prefix_free, ReadsRequest-append}
use Rattle.http_frame.specs.Answers.{NextHead}
use Rattle.http_frame.specs.Faults.{IsShown}
use Rattle.http_frame.specs.Frames.{BeginsWithHead, IsHeadRefused}
use Rattle.http_frame.specs.Heads.{HasNoHead, Shows}
use Rattle.http_frame.specs.declared.fault.FrameFault.{FrameFault}
use Rattle.http_frame.specs.declared.fault.FrameFault.TheVariants.{BadHead, BadHost, BadBody, BodyTooLong, Coding, Truncated, ReadFault, Memory}
use Rattle.http_frame.specs.declared.message.Head.{Head}
use Rattle.http_frame.specs.Streams.{IsStream}
use Rattle.http_frame.proofs.StreamLemmas.{at_end}

-- the parser counts the fields of the head
pub count_is : (buf : List ℕ) (spans : List HeaderSpan) (r : RequestSpans) (h : RequestHead)
    → IsRequestAt buf spans r h → IsRequestWithin buf spans r → length h.fields ≡ r.headers
count_is buf spans r h at within =
    let e = simp length-map at (ap length at.fields) in
    let n = length-take-le r.headers spans within.section.count_fits in
    omega arith

-- a head with too many fields leaves no other head
pub too_many : (buf : List ℕ) (spans : List HeaderSpan) (r : RequestSpans)
    → IsRequestOf buf spans r → IsRequestWithin buf spans r → 128 < r.headers → (more : List ℕ) → HasNoHead (buf ++ more)
too_many buf spans r found within many more k q x =
    let h = found.0 in
    let same = request_prefix_free buf more h k (drop r.len buf) q found.1.reads x.reads in
    let n = count_is buf spans r h found.1 within in
    let m = ap (λ (z : RequestHead). length z.fields) same.0 in
    let few = x.few in
    absurd (omega arith)

-- no bytes are no head
pub none_in_nothing : (b : List ℕ) → length b ≡ 0 → HasNoHead b
unfolding print_request
none_in_nothing b empty h rest x =
    let e = simp length-append at (ap length x.reads.1) in
    let m = x.reads.0.method.0 in
    omega arith

-- the source ended, and what is there has no head
pub none_at_end : (held b : List ℕ) (left : Option (List ℕ)) → HasNoHead held → ((rest : List ℕ) → left ≡ Some rest → rest ≡ [])
    → IsStream held left b → (b ≡ held) × HasNoHead b
none_at_end held b left none end s =
    let same = at_end held b left end s in (same, subst HasNoHead (sym same) none)

token_is_ascii : (b : ℕ) → is_token_byte b ≡ true → b < 128
unfolding is_token_byte
token_is_ascii b token = grind (arith, nat_tests)

-- the method of a head is text
pub token_text : (bytes : List ℕ) → IsToken bytes → IsUtf8 bytes
token_text bytes token = IsUtf8-from_ascii bytes (IsAscii-from_all bytes
    (All-weaker (λ b. is_token_byte b ≡ true) (λ b. b < 128) token_is_ascii bytes token.1))

-- a head that was found stands at the front of the stream
pub found_begins : (held b : List ℕ) (left : Option (List ℕ)) (spans : List HeaderSpan) (r : RequestSpans) (head : Head)
    → (found : IsRequestOf held spans r) → IsRequestWithin held spans r → r.headers ≤ 128 → length held ≤ 65536
    → (s : IsStream held left b) → Shows found.0 head → BeginsWithHead b head (drop r.len held ++ s.0)
found_begins held b left spans r head found within few room s shows =
    let h = found.0 in
    let at = found.1 in
    let n = count_is held spans r h at within in
    let long = within.section.len_fits in
    let size = at.len in
    let all = ReadsRequest-append held h (drop r.len held) s.0 at.reads in
    let reads = subst (λ (x : List ℕ). ReadsRequest x h (drop r.len held ++ s.0)) (sym s.2) all in
    record { head = h; reads = record { reads = reads; short = omega arith; few = omega arith }; shows = shows }

-- a fault that a head shows is answered
pub shown_fault : (fault : FrameFault) (b held : List ℕ) (left : Option (List ℕ)) → IsShown fault → IsHeadRefused b fault → NextHead b held left (Err fault)
shown_fault BadHost b held left shown refused = refused
shown_fault BadBody b held left shown refused = refused
shown_fault Coding b held left shown refused = refused
shown_fault BodyTooLong b held left shown refused = refused
shown_fault BadHead b held left shown refused = absurd shown
shown_fault Truncated b held left shown refused = absurd shown
shown_fault ReadFault b held left shown refused = absurd shown
shown_fault Memory b held left shown refused = absurd shown
