use Rattle.std.proofs.Common.{◌∙◌, List, ℕ, Ok, sym, refl, subst, inr}
use Rattle.http_frame.specs.ResponseAnswers.{TakesResponseBody}
use Rattle.http_frame.proofs.response.response_behind.Goals as goal

pub returns-in-Ok-take_response_body-clause-body :
    goal.returns-in-Ok-take_response_body-clause-body
returns-in-Ok-take_response_body-clause-body g c = λ b s.
    let held = c.take_response_body.new.buffer in
    let left = g.S.Source.left c.take_response_body.new.source in
    let takes = c.in-Ok-take_response_body.ensures.body b s in
    (refl, refl, c.in-Ok.framing, sym c.in-Ok.ensures.framing, subst (λ (x : List ℕ). TakesResponseBody c.in-Ok.framing b held left (Ok x)) (sym (c.from_vec.ensures.items ∙ c.into_vec.ensures)) takes)

pub returns-in-Err-take_response_body-clause-body :
    goal.returns-in-Err-take_response_body-clause-body
returns-in-Err-take_response_body-clause-body g c = λ b s.
    inr (c.in-Ok.framing, sym c.in-Ok.ensures.framing, c.in-Err-take_response_body.ensures.body b s)
