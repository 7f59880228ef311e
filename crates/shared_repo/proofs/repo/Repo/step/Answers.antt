use Rattle.journal_lock.specs.Passes.{seat_of}
use Rattle.shared_repo.specs.Passes.{as_seen}
use Rattle.shared_repo.proofs.repo.Repo.step.Goals as goal

pub make-requires-clause-needs : goal.make-requires-clause-needs
make-requires-clause-needs g c = λ more others.
    c.next_step_stays.ensures (as_seen c.args.self.now c.args.pass.now) more (seat_of c.args.pass.now) c.args.txn c.args.query.now c.args.number c.args.pinned.now
    others c.requires.next
