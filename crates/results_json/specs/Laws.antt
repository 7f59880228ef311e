-- What holds of the texts of results: one reading, and that what is written is read again.
use Rattle.std.specs.Prelude.{◌≡◌, ℕ, List, Bool, Option, IsTrue, length, Result}
use Rattle.std.specs.List.{All, list_all}
use Rattle.std.specs.Option.{IfSome}
use Rattle.std.specs.Str.{all_scalars}
use Rattle.rdf_term.specs.declared.term.Term.{Term}
use Rattle.rdf_term.specs.EachOnce.{EachOnce}
use Rattle.rdf_term.specs.Validity.{IsValidTerm}
use Rattle.query_model.specs.declared.table.Table.{Table}
use Rattle.results_json.specs.declared.fault.ResultFault.{ResultFault}
use Rattle.results_json.specs.Tables.{table_text, truth_text}
use Rattle.results_json.specs.Reading.{IsTable, IsTableReading, IsTruth, IsTruthReading, HasAnswer}

-- a text has one answer
abbrev pub OneTableReading : Type 0
OneTableReading =
    (text : List ℕ) (a b : Result Table ResultFault) → IsTableReading text a → IsTableReading text b → HasAnswer a → HasAnswer b → a ≡ b

abbrev pub OneTruthReading : Type 0
OneTruthReading =
    (text : List ℕ) (a b : Result Bool ResultFault) → IsTruthReading text a → IsTruthReading text b → HasAnswer a → HasAnswer b → a ≡ b

-- a row has one place for each variable, and valid terms
abbrev pub IsRightRow : List (List ℕ) → List (Option Term) → Type 0
IsRightRow names row = (length row ≡ length names) × All (λ cell. IfSome cell IsValidTerm) row

-- a table of distinct names, which are texts of Unicode scalar values, and of such rows
abbrev pub IsRightTable : Table → Type 0
IsRightTable t = EachOnce t.vars × IsTrue (list_all all_scalars t.vars) × All (IsRightRow t.vars) t.rows

-- what is written of a table is read as that table
abbrev pub TablesReadAgain : Type 0
TablesReadAgain = (t : Table) → IsRightTable t → IsTable (table_text t) t

-- what is written of a truth value is read as that truth value
abbrev pub TruthsReadAgain : Type 0
TruthsReadAgain = (b : Bool) → IsTruth (truth_text b) b
