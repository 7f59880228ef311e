use Rattle.api_requests.proofs.LawLemmas.{in_bytes}
use Rattle.api_requests.proofs.laws.written_bytes_are_read_back.Goals as goal

pub returns : goal.returns
returns c = in_bytes c.written_is_read_back.ensures c.requests_are_spelled.ensures c.written_requests_are_frames.ensures.frame
