use Rattle.rdf_client.proofs.ServedLemmas.{written_is_got}
use Rattle.rdf_client.proofs.laws.written_replies_are_got.Goals as goal

pub returns : goal.returns
returns c = written_is_got c.written_responses_are_frames.ensures c.replies_read_again.ensures
