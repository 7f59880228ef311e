use Rattle.rdf_client.proofs.ServedLemmas.{reply_is_printed}
use Rattle.rdf_client.proofs.laws.replies_are_printed.Goals as goal

pub returns : goal.returns
returns c = reply_is_printed c.commands_are_valid.ensures c.written_responses_are_frames.ensures c.replies_read_again.ensures
