use Rattle.std.proofs.Common.{List, ℕ, ap, sym, subst}
use Rattle.http_frame.specs.State.{FramesState}
use Rattle.http_frame.specs.Streams.{IsStream}
use Rattle.http_frame.proofs.frames.Frames.next_response.Goals as goal

pub returns-in-Ok-clause-response : goal.returns-in-Ok-clause-response
returns-in-Ok-clause-response g c = λ none b s. c.in-Ok.ensures.response b (subst (λ (x : List ℕ). IsStream x (g.S.Source.left c.args.source.now) b) (ap (λ (x : FramesState). x.held) (sym c.self.view_is)) s)

pub returns-in-Err-clause-response : goal.returns-in-Err-clause-response
returns-in-Err-clause-response g c = λ none b s. c.in-Err.ensures.response b (subst (λ (x : List ℕ). IsStream x (g.S.Source.left c.args.source.now) b) (ap (λ (x : FramesState). x.held) (sym c.self.view_is)) s)
