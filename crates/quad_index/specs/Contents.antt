-- What contracts see of an index, and of the runs that it is made of.
use Rattle.std.specs.Prelude.{◌≡◌, ℕ, ◌<◌, ◌≤◌, Bool, false, List, length, slice_index_or}
use Rattle.std.specs.List.{list_any, All, AllByRecursion}
use Rattle.std.specs.List.Sorted.{IsStrictlySortedBy}
use Rattle.std.specs.Ordering.{eq_by_cmp}
use Rattle.rdf_term.specs.declared.pattern.Pattern.{Pattern}
use Rattle.rdf_term.specs.declared.term.Term.{Term}
use Rattle.rdf_term.specs.Statement.{Statement}
use Rattle.rdf_term.specs.Order.{quad_cmp, term_cmp}
use Rattle.quad_index.specs.declared.letter.Letter.{Letter}
use Rattle.quad_index.specs.declared.code.Code.{Code}
use Rattle.quad_index.specs.Letters.{run, is_term_order}
use Rattle.quad_index.specs.Codes.{code_cmp, IsCode, HasSame}

-- an index: the set of its quads, strictly ascending, and its orders
pub record Contents : Type 0 where
  pub quads : List Statement
  pub orders : List (List Letter)

-- a run: codes, sorted by their numbers in an order
pub record Arranged : Type 0 where
  pub order : List Letter
  pub codes : List Code

-- whether a quad is among these
abbrev pub is_in : Statement → List Statement → Bool
is_in q quads = list_any (eq_by_cmp quad_cmp q) quads

-- the place of the run whose order fits a pattern best, the first of those that fit as well
pub record IsBest (p : Pattern) (runs : List Arranged) (best : ℕ) : Type 0 where
  pub within : best < length runs
  pub longest : (k : ℕ) (none : Arranged) → k < length runs → run p (slice_index_or runs k none).order ≤ run p (slice_index_or runs best none).order
  pub earliest : (k : ℕ) (none : Arranged) → k < best → run p (slice_index_or runs k none).order < run p (slice_index_or runs best none).order

-- a run has these codes, unless its order is that of quads themselves: the list of codes serves in its place
pub record IsKept (codes : List Code) (run : Arranged) : Type 0 where
  pub same : is_term_order run.order ≡ false → HasSame codes run.codes

-- there is a run, each run has the codes of the strictly ascending list, and these are quads'
pub record IsWhole (terms : List Term) (codes : List Code) (runs : List Arranged) : Type 0 where
  pub some : 0 < length runs
  pub dictionary : IsStrictlySortedBy term_cmp terms
  pub ascending : IsStrictlySortedBy code_cmp codes
  pub quads : AllByRecursion (IsCode terms) codes
  pub same : All (λ run. IsKept codes run) runs
