use Rattle.query_model.proofs.SolutionLemmas.{each_once}
use Rattle.query_model.proofs.laws.each_solution_once.Goals as goal

pub returns : goal.returns
returns c = each_once
