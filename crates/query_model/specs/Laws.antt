-- What holds of the solutions of patterns.
use Rattle.std.specs.Prelude.{◌≡◌, ◌↔◌, ◌==◌, ℕ, Bool, true, false, ◌&&◌, IsTrue, List, Option, Some, None, if◌then◌else◌, length, count_by, min}
use Rattle.std.specs.List.{list_all, list_any}
use Rattle.std.specs.Ordering.{eq_by_cmp}
use Rattle.rdf_term.specs.declared.term.Term.{Term}
use Rattle.rdf_term.specs.Statement.{Statement}
use Rattle.rdf_term.specs.Order.{quad_cmp, row_cmp}
use Rattle.rdf_term.specs.Sets.{rows_in_order}
use Rattle.query_model.specs.declared.query.Cut.{Cut}
use Rattle.query_model.specs.declared.query.Query.TheVariants.{Ask}
use Rattle.query_model.specs.declared.query.TriplePattern.{TriplePattern}
use Rattle.query_model.specs.declared.found.Found.TheVariants as answer
use Rattle.query_model.specs.Unknowns.{unknowns}
use Rattle.query_model.specs.Found.{constructed, cut_rows, found, made_of, projection, selected}
use Rattle.query_model.specs.Solutions.{is_found, lookups, solutions}

-- the row has a place for each unknown of the patterns, and the instance that it makes of each pattern is in the pattern's view
abbrev pub is_solution : List TriplePattern → List (List Statement) → List (Option Term) → Bool
is_solution patterns views row =
    length row == length (unknowns patterns) && list_all (is_found (unknowns patterns) row) (lookups views patterns)

-- whether a triple was made, and is this one
abbrev pub is_quad : Statement → Option Statement → Bool
is_quad q None = false
is_quad q (Some r) = eq_by_cmp quad_cmp q r

-- A row of any terms whatever is among the solutions once where it is one, and else not at all. So nothing is lost where assignments range over the
-- terms of the views alone.
abbrev pub EachSolutionOnce : Type 0
EachSolutionOnce = (patterns : List TriplePattern) (views : List (List Statement)) (row : List (Option Term))
    → count_by (eq_by_cmp row_cmp row) (solutions patterns views) ≡ (if is_solution patterns views row then 1 else 0)

-- A row stands among those of a SELECT as often as there are solutions that give it; with DISTINCT once, where there is one.
abbrev pub RowsOfSolutions : Type 0
RowsOfSolutions = (distinct : Bool) (vars : List (List ℕ)) (group : List TriplePattern) (views : List (List Statement)) (row : List (Option Term))
    → let given = count_by (λ solution. eq_by_cmp row_cmp row (projection (unknowns group) vars solution)) (solutions group views) in
    count_by (eq_by_cmp row_cmp row) (selected distinct vars group views) ≡ (if distinct then min 1 given else given)

-- An ASK is true where some row is a solution.
abbrev pub TruthOfSolutions : Type 0
TruthOfSolutions = (group : List TriplePattern) (views : List (List Statement)) (most : ℕ)
    → (found (Ask group) views most ≡ Some (answer.Truth true)) ↔ ((row : List (Option Term)) × IsTrue (is_solution group views row))

-- A triple is among those of a CONSTRUCT where a pattern of the template makes it of a solution that is left.
abbrev pub TriplesOfSolutions : Type 0
TriplesOfSolutions = (template group : List TriplePattern) (cut : Cut) (views : List (List Statement)) (q : Statement)
    → list_any (eq_by_cmp quad_cmp q) (constructed template group cut views)
    ≡ list_any (λ row. list_any (λ p. is_quad q (made_of (unknowns group) row p)) template) (cut_rows cut (rows_in_order (solutions group views)))
