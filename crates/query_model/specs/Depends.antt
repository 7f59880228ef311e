-- On what the answer of a query depends.
use Rattle.std.specs.Prelude.{◌≡◌, ℕ, Bool, IsTrue, List, [], ◌∷◌, Some, slice_get}
use Rattle.std.specs.List.{list_any}
use Rattle.std.specs.Ordering.{eq_by_cmp}
use Rattle.rdf_term.specs.declared.pattern.Pattern.{Pattern}
use Rattle.rdf_term.specs.Statement.{Statement}
use Rattle.rdf_term.specs.Matching.{matches}
use Rattle.rdf_term.specs.Order.{quad_cmp}
use Rattle.query_model.specs.declared.query.Query.{Query}
use Rattle.query_model.specs.Found.{found}
use Rattle.query_model.specs.Observed.{patterns_of}
use Rattle.query_model.specs.Solutions.{view_of}

-- two views have the same of the quads that pass a test
abbrev pub HaveSame : (Statement → Bool) → List Statement → List Statement → Type 0
HaveSame test view other = (q : Statement) → IsTrue (test q) → list_any (eq_by_cmp quad_cmp q) view ≡ list_any (eq_by_cmp quad_cmp q) other

-- What is found in one view depends on the quads alone that an observed pattern of the query matches.
abbrev pub FoundInOneView : Type 0
FoundInOneView = (query : Query) (view other : List Statement) (most : ℕ)
    → HaveSame (λ q. list_any (λ pattern. matches pattern q) (patterns_of query)) view other → found query (view ∷ []) most ≡ found query (other ∷ []) most

-- What is found depends, in the view of each triple pattern, on the quads alone that its observed pattern matches.
abbrev pub FoundInEachView : Type 0
FoundInEachView = (query : Query) (views others : List (List Statement)) (most : ℕ)
    → ((number : ℕ) (pattern : Pattern) → slice_get (patterns_of query) number ≡ Some pattern → HaveSame (matches pattern) (view_of views number) (view_of others number))
    → found query views most ≡ found query others most
