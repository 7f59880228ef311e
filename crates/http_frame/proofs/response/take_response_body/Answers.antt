use Rattle.std.proofs.Common.{sym, subst}
use Rattle.http_frame.specs.ResponseAnswers.{TakesResponseBody}
use Rattle.http_frame.specs.declared.response_framing.ResponseFraming.{ResponseFraming}
use Rattle.http_frame.proofs.EndLemmas.{sized_body, whole_body}
use Rattle.http_frame.proofs.response.take_response_body.Goals as goal

pub returns-in-Sized-clause-body : goal.returns-in-Sized-clause-body
returns-in-Sized-clause-body g c = λ b s.
    let held = c.take_body.new.buffer in
    let left = g.S.Source.left c.take_body.new.source in
    subst (λ (f : ResponseFraming). TakesResponseBody f b held left c.take_body.result) (sym c.in-Sized.is)
    (sized_body c.in-Sized.framing b held left c.take_body.result (c.take_body.ensures.body b s))

pub returns-in-ToEnd-clause-body : goal.returns-in-ToEnd-clause-body
returns-in-ToEnd-clause-body g c = λ b s.
    let held = c.take_to_end.new.buffer in
    let left = g.S.Source.left c.take_to_end.new.source in
    subst (λ (f : ResponseFraming). TakesResponseBody f b held left c.take_to_end.result) (sym c.in-ToEnd.is)
    (whole_body b held left c.take_to_end.result (c.take_to_end.ensures.body b s))
