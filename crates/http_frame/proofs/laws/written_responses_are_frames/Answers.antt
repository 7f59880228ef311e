use Rattle.http_frame.proofs.WrittenLemmas.{written_response_is_frame}
use Rattle.http_frame.proofs.laws.written_responses_are_frames.Goals as goal

pub returns : goal.returns
returns c = written_response_is_frame
