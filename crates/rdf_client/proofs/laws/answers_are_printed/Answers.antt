use Rattle.std.specs.Prelude.{None}
use Rattle.rdf_client.proofs.AnswerLemmas.{answered}
use Rattle.rdf_client.proofs.laws.answers_are_printed.Goals as goal

pub returns : goal.returns
returns c = λ repo host script end answers more. answered c.replies_are_printed.ensures c.refusals_are_got.ensures repo host 0 None script end answers more
