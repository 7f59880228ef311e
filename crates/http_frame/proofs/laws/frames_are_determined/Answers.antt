use Rattle.http_frame.proofs.FrameLemmas.{one_frame, stays_request}
use Rattle.http_frame.proofs.laws.frames_are_determined.Goals as goal

pub returns-clause-one_frame : goal.returns-clause-one_frame
returns-clause-one_frame c = one_frame

pub returns-clause-stays : goal.returns-clause-stays
returns-clause-stays c = stays_request
