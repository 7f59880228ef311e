use Rattle.journal.specs.Journal.{entry_of}
use Rattle.shared_repo.proofs.SoundLemmas.{sound_next}
use Rattle.shared_repo.proofs.state.SharedState.enter.Goals as goal

pub invariant_of-self : goal.invariant_of-self
invariant_of-self g c =
    sound_next c.legal_in_turn.ensures c.self.inside.state c.run.new.state (entry_of c.args.seat (g.C.Call.does c.args.call.now)) c.run.result c.self.invariant
    c.run.ensures.journal c.run.ensures.fault c.run.ensures.legal

pub returns-clause-sound : goal.returns-clause-sound
returns-clause-sound g c =
    sound_next c.legal_in_turn.ensures c.self.inside.state c.run.new.state (entry_of c.args.seat (g.C.Call.does c.args.call.now)) c.run.result c.self.invariant
    c.run.ensures.journal c.run.ensures.fault c.run.ensures.legal
