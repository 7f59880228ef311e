-- What a search for the solutions of patterns finds.
use Rattle.std.specs.Prelude.{◌≡◌, ◌+◌, Bool, List, Option, if◌then◌else◌, map, take}
use Rattle.std.specs.List.Sorted.{IsPermutation}
use Rattle.rdf_term.specs.declared.term.Term.{Term}
use Rattle.rdf_term.specs.Statement.{Statement}
use Rattle.rdf_term.specs.Order.{row_cmp}
use Rattle.rdf_term.specs.Sets.{rows_in_order, sorted_set}
use Rattle.query_model.specs.declared.query.TriplePattern.{TriplePattern}
use Rattle.query_model.specs.Solutions.{solutions}
use Rattle.bgp_eval.specs.declared.search.Wanted.{Wanted}
use Rattle.bgp_eval.specs.Kept.{kept}

-- what is kept of the solutions in some order, of one more than `most` where there are more
pub record IsSought (wanted : Wanted) (group : List TriplePattern) (views : List (List Statement)) (rows : List (List (Option Term))) : Type 0 where
  pub all : List (List (Option Term))
  pub solutions : IsPermutation (solutions group views) all
  pub kept : rows ≡ take (wanted.most + 1) (map (kept wanted.kept) all)

-- These are the rows of any list with the items of that one, in order: each as often as it stands there, or once.
abbrev pub IsOrdered : Bool → List (List (Option Term)) → List (List (Option Term)) → Type 0
IsOrdered distinct rows ordered =
    (all : List (List (Option Term))) → IsPermutation all rows → ordered ≡ (if distinct then sorted_set row_cmp all else rows_in_order all)
