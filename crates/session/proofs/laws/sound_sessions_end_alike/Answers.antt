use Rattle.session.proofs.LawLemmas.{sound_sessions_end_alike}
use Rattle.session.proofs.laws.sound_sessions_end_alike.Goals as goal

pub returns : goal.returns
returns c = sound_sessions_end_alike c.frames_are_determined.ensures.one_frame
