use Rattle.http_frame.proofs.RequestLemmas.{written_is_frame, read_is_spelled}
use Rattle.http_frame.proofs.laws.written_requests_are_frames.Goals as goal

pub returns-clause-frame : goal.returns-clause-frame
returns-clause-frame c = written_is_frame

pub returns-clause-spelled : goal.returns-clause-spelled
returns-clause-spelled c = read_is_spelled
