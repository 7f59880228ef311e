use Rattle.client_script.proofs.StreamLemmas.{kept_stream}
use Rattle.client_script.proofs.input.Input.await_line.Goals as goal

pub returns-in-Err-clause-stream : goal.returns-in-Err-clause-stream
returns-in-Err-clause-stream g c = λ b s.
    kept_stream c.wait.self c.fill.new.self (g.S.Source.left c.wait.source) (g.S.Source.left c.fill.new.source)
    c.in-Err.ensures.err c.in-Err.ensures.err_source b (c.wait.invariant.stream b s)
