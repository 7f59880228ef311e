use Rattle.shared_session.specs.Houses.{lists}
use Rattle.shared_session.proofs.HouseLemmas.{legal_of}
use Rattle.shared_session.proofs.serve.serve_shared.Goals as goal

pub returns-clause-legal : goal.returns-clause-legal
returns-clause-legal g c = legal_of c.legal_in_turn.ensures c.args.house.now.repos c.serve.new.pass.list.items c.serve.ensures.pass.0

pub returns-clause-alone : goal.returns-clause-alone
returns-clause-alone g c = λ repo t commit level at. c.committed_reads_as_if_alone.ensures c.args.house.now.limits (lists c.serve.new.pass.list.items repo) t commit level at
