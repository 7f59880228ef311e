-- Bodies of responses, and those that end where the stream does.
use Rattle.std.proofs.Common.{◌≡◌, ◌∙◌, ℕ, ◌-◌, ◌≤◌, ◌<◌, List, [], ◌++◌, length, Option, Some, Result, Ok, Err, sym, ap, subst, refl, arith, append_assoc, append-nil, length-append}
use Rattle.http_frame.specs.Answers.{TakesWithin}
use Rattle.http_frame.specs.Limits.{most_response}
use Rattle.http_frame.specs.ResponseAnswers.{TakesToEnd, TakesResponseBody}
use Rattle.http_frame.specs.Streams.{IsStream, KeepsStream}
use Rattle.http_frame.specs.declared.fault.FrameFault.{FrameFault}
use Rattle.http_frame.specs.declared.fault.FrameFault.TheVariants.{BadHead, BadHost, BadBody, BodyTooLong, Coding, Truncated, ReadFault, Memory}
use Rattle.http_frame.specs.declared.framing.Framing.{Framing}
use Rattle.http_frame.specs.declared.response_framing.ResponseFraming.TheVariants.{Sized, ToEnd}

-- a step that leaves the stream leaves it behind what was taken before
pub keeps_behind : (body held held' b : List ℕ) (left left' : Option (List ℕ)) → KeepsStream held left held' left' → IsStream (body ++ held) left b
    → IsStream (body ++ held') left' b
keeps_behind body held held' b left left' keeps s =
    let now = keeps (held ++ s.0) (s.0, s.1, refl) in
    (now.0, now.1, s.2 ∙ append_assoc body held s.0 ∙ ap (λ (z : List ℕ). body ++ z) now.2 ∙ sym (append_assoc body held' now.0))

pub ended_whole : (most : ℕ) (body held b : List ℕ) (left : Option (List ℕ)) → IsStream (body ++ held) left b → held ≡ []
    → ((rest : List ℕ) → left ≡ Some rest → rest ≡ []) → length body ≤ most → TakesToEnd most b held left (Ok body)
ended_whole most body held b left s none end few =
    let empty = end s.0 s.1 in
    let whole : b ≡ body =
    s.2 ∙ ap (λ (z : List ℕ). (body ++ held) ++ z) empty ∙ append-nil (body ++ held) ∙ ap (λ (z : List ℕ). body ++ z) none ∙ append-nil body in
    (sym whole, few, (s.0, s.1, sym (ap (λ (z : List ℕ). held ++ z) empty ∙ append-nil held ∙ none)))

pub ended_failed : (most : ℕ) (body held b : List ℕ) (left : Option (List ℕ)) → IsStream (body ++ held) left b → held ≡ [] → length body ≤ most
    → TakesToEnd most b held left (Err ReadFault)
ended_failed most body held b left s none few =
    (body, (s.0, s.1, s.2 ∙ ap (λ (z : List ℕ). (body ++ z) ++ s.0) none ∙ ap (λ (z : List ℕ). z ++ s.0) (append-nil body)), few)

pub ended_long : (most : ℕ) (body held b : List ℕ) (left : Option (List ℕ)) → IsStream (body ++ held) left b → most - length body < length held
    → length body ≤ most → most < length b
ended_long most body held b left s more few = let size = simp length-append at (ap length s.2) in omega arith

-- the body of a response that says where it ends
pub sized_body : (f : Framing) (b held : List ℕ) (left : Option (List ℕ)) (answer : Result (List ℕ) FrameFault) → TakesWithin most_response f b held left answer
    → TakesResponseBody (Sized f) b held left answer
sized_body f b held left (Ok body) x = x
sized_body f b held left (Err BadHead) x = x
sized_body f b held left (Err BadHost) x = x
sized_body f b held left (Err BadBody) x = x
sized_body f b held left (Err Coding) x = x
sized_body f b held left (Err BodyTooLong) x = x
sized_body f b held left (Err Truncated) x = x
sized_body f b held left (Err ReadFault) x = x
sized_body f b held left (Err Memory) x = x

-- the body of a response that is all of the stream
pub whole_body : (b held : List ℕ) (left : Option (List ℕ)) (answer : Result (List ℕ) FrameFault) → TakesToEnd most_response b held left answer
    → TakesResponseBody ToEnd b held left answer
whole_body b held left (Ok body) x = ([], (x.0, refl, x.1), x.2)
whole_body b held left (Err BadHead) x = absurd x
whole_body b held left (Err BadHost) x = absurd x
whole_body b held left (Err BadBody) x = absurd x
whole_body b held left (Err Coding) x = absurd x
whole_body b held left (Err BodyTooLong) x = (refl, x)
whole_body b held left (Err Truncated) x = absurd x
whole_body b held left (Err ReadFault) x = x
whole_body b held left (Err Memory) x = x
