use Rattle.session.proofs.LawLemmas.{whole_streams_end_done}
use Rattle.session.proofs.laws.whole_streams_end_done.Goals as goal

pub returns : goal.returns
returns c = whole_streams_end_done c.frames_are_determined.ensures.one_frame
