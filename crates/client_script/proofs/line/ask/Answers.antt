use Rattle.client_script.proofs.line.ask.Goals as goal

pub returns-in-None : goal.returns-in-None
returns-in-None c = λ d p. (rw c.in-None.is at c.in_ok-query.ensures) p.0 p.1
