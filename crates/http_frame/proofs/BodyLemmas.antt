-- A stream has one body for a framing, or one refusal.
use Rattle.std.proofs.Common.{◌≡◌, ◌∙◌, ℕ, List, ◌++◌, length, take, drop, sym, ap, arith, length-append, append_assoc, drop_at, Option, Result, Ok, Err}
use Rattle.std.proofs.lemmas.List.{take_at}
use Rattle.http_frame.specs.Answers.{TakesWithin, TakesBody}
use Rattle.http_frame.specs.Bodies.{IsBodyWithin, IsRefusedWithin}
use Rattle.http_frame.specs.declared.fault.FrameFault.{FrameFault}
use Rattle.http_frame.specs.declared.fault.FrameFault.TheVariants.{BadHead, BadHost, BadBody, Coding, BodyTooLong, Truncated, ReadFault, Memory}
use Rattle.http_frame.specs.declared.framing.Framing.{Framing}
use Rattle.http_frame.specs.declared.framing.Framing.TheVariants.{Length, Chunked}
use Rattle.http_frame.proofs.ChunkedLemmas.{one_chunked, chunked_or_refused, one_chunk_fault}

pub one_body : (most : ℕ) (f : Framing) (b body body' rest rest' : List ℕ) → IsBodyWithin most f b body rest → IsBodyWithin most f b body' rest' → (body ≡ body') × (rest ≡ rest')
one_body most (Length n) b body body' rest rest' x y =
    let same : body ++ rest ≡ body' ++ rest' = sym x.1 ∙ y.1 in (
      sym (take_at body rest n x.0) ∙ ap (take n) same ∙ take_at body' rest' n y.0,
      sym (drop_at body rest n x.0) ∙ ap (drop n) same ∙ drop_at body' rest' n y.0,
    )
one_body most Chunked b body body' rest rest' x y = one_chunked most b body body' rest rest' x y

pub body_or_refused : (most : ℕ) (f : Framing) (b body rest : List ℕ) (fault : FrameFault) → IsBodyWithin most f b body rest → IsRefusedWithin most f b fault → ⊥
body_or_refused most (Length n) b body rest fault x y =
    let size = simp length-append at (ap length x.1) in
    let same = x.0 in
    let short = y.1 in
    omega arith
body_or_refused most Chunked b body rest fault x y = chunked_or_refused most b body rest fault x y

pub one_body_fault : (most : ℕ) (f : Framing) (b : List ℕ) (fault fault' : FrameFault) → IsRefusedWithin most f b fault → IsRefusedWithin most f b fault' → fault ≡ fault'
one_body_fault most (Length n) b fault fault' x y = x.0 ∙ sym y.0
one_body_fault most Chunked b fault fault' x y = one_chunk_fault most b fault fault' x y

pub body_stays : (most : ℕ) (f : Framing) (b body rest more : List ℕ) → IsBodyWithin most f b body rest → IsBodyWithin most f (b ++ more) body (rest ++ more)
body_stays most (Length n) b body rest more x = (x.0, ap (λ (z : List ℕ). z ++ more) x.1 ∙ append_assoc body rest more)
body_stays most Chunked b body rest more x =
    record { bytes = x.bytes; is_body = x.is_body; short = x.short; b_is = ap (λ (z : List ℕ). z ++ more) x.b_is ∙ append_assoc x.bytes rest more }

-- a body of a length is the same under every limit
pub length_within : (most n : ℕ) (b held : List ℕ) (left : Option (List ℕ)) (answer : Result (List ℕ) FrameFault)
    → TakesBody (Length n) b held left answer → TakesWithin most (Length n) b held left answer
length_within most n b held left (Ok body) x = x
length_within most n b held left (Err BadHead) x = x
length_within most n b held left (Err BadHost) x = x
length_within most n b held left (Err BadBody) x = x
length_within most n b held left (Err Coding) x = x
length_within most n b held left (Err BodyTooLong) x = x
length_within most n b held left (Err Truncated) x = x
length_within most n b held left (Err ReadFault) x = x
length_within most n b held left (Err Memory) x = x
