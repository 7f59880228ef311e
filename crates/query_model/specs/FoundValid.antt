-- What is found over valid quads for a well-formed query.
use Rattle.std.specs.Prelude.{◌≡◌, ◌≤◌, ℕ, IsTrue, IfSome, List, Option, Some, length}
use Rattle.std.specs.List.{All, list_all}
use Rattle.std.specs.Str.{all_scalars}
use Rattle.rdf_term.specs.declared.term.Term.{Term}
use Rattle.rdf_term.specs.EachOnce.{EachOnce}
use Rattle.rdf_term.specs.Statement.{Statement}
use Rattle.rdf_term.specs.Validity.{IsValidQuad, IsValidTerm}
use Rattle.query_model.specs.declared.query.Query.{Query}
use Rattle.query_model.specs.declared.table.Table.{Table}
use Rattle.query_model.specs.declared.found.Found.{Found}
use Rattle.query_model.specs.declared.found.Found.TheVariants as answer
use Rattle.query_model.specs.Found.{found}
use Rattle.query_model.specs.Solutions.{lookups_of}
use Rattle.query_model.specs.WellFormed.{IsWellFormed}

-- a row has one place for each variable, and where a place is bound, a valid term
abbrev pub IsValidRow : List (List ℕ) → List (Option Term) → Type 0
IsValidRow vars row = (length row ≡ length vars) × All (λ value. IfSome value IsValidTerm) row

-- distinct variables, whose names are texts of Unicode characters, and such rows
abbrev pub IsValidTable : Table → Type 0
IsValidTable t = EachOnce t.vars × IsTrue (list_all all_scalars t.vars) × All (IsValidRow t.vars) t.rows

abbrev pub IsValidFound : Found → Type 0
IsValidFound (answer.Table t) = IsValidTable t
IsValidFound (answer.Truth b) = Unit {0}
IsValidFound (answer.Quads quads) = All IsValidQuad quads

-- What is found for a well-formed query over views of valid quads is valid.
abbrev pub FoundIsValid : Type 0
FoundIsValid = (query : Query) (views : List (List Statement)) (most : ℕ) (it : Found)
    → IsWellFormed query → All (All IsValidQuad) views → found query views most ≡ Some it → IsValidFound it

-- A well-formed query looks up at most 256 patterns.
abbrev pub FewLookups : Type 0
FewLookups = (query : Query) → IsWellFormed query → lookups_of query ≤ 256
