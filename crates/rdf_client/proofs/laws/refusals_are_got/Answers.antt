use Rattle.rdf_client.proofs.AnswerLemmas.{refusal_is_got}
use Rattle.rdf_client.proofs.laws.refusals_are_got.Goals as goal

pub returns : goal.returns
returns c = refusal_is_got c.written_responses_are_frames.ensures
