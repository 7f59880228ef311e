use Rattle.std.proofs.Common.{◌∙◌, List, Option, subst}
use Rattle.std.specs.List.Sorted.{IsPermutation}
use Rattle.rdf_term.specs.declared.term.Term.{Term}
use Rattle.rdf_term.specs.OrderLaws.{row_total, row_exact}
use Rattle.rdf_term.proofs.SortLemmas.{sorted_list-is}
use Rattle.rdf_term.proofs.rows.Seq+Row.into_sorted.Goals as goal

pub returns-clause-value : goal.returns-clause-value
returns-clause-value c =
    c.from_vec.ensures
    ∙ sorted_list-is row_total row_exact c.args.self c.sort.new.self.items
    (subst (λ (rows : List (List (Option Term))). IsPermutation rows c.sort.new.self.items) c.into_vec-rows.ensures c.sort.ensures.permutation)
    c.in_ok-sort.ensures.sorted
