use Rattle.http_frame.proofs.ResponseLemmas.{one_response_frame}
use Rattle.http_frame.proofs.laws.response_frames_are_determined.Goals as goal

pub returns : goal.returns
returns c = one_response_frame
