use Rattle.rdf_client.proofs.OneLemmas.{answered_or_not}
use Rattle.rdf_client.proofs.laws.answered_or_not.Goals as goal

pub returns : goal.returns
returns c = answered_or_not c.response_frames_are_determined.ensures c.one_reading.ensures
