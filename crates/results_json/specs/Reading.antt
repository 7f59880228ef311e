-- What reading a text answers.
use Rattle.std.specs.Prelude.{◌≡◌, ◌<◌, ◌-◌, ◌^◌, ℕ, zero, suc, List, [], ◌∷◌, Bool, Some, Result}
use Rattle.std.specs.declared.result.Result.TheVariants.{Ok, Err}
use Rattle.std.specs.Str.{IsUtf8}
use Rattle.rdf_term.specs.declared.term.Term.{Term}
use Rattle.query_model.specs.declared.table.Table.{Table}
use Rattle.serde_json.specs.Data.{Data}
use Rattle.serde_json.specs.Find.{get}
use Rattle.serde_json.specs.Read.{read}
use Rattle.results_json.specs.declared.fault.ResultFault.{ResultFault}
use Rattle.results_json.specs.declared.fault.ResultFault.TheVariants.{NotJson, BadShape, BadTerm, Memory}
use Rattle.results_json.specs.Tables.{IsTermValue, HasShape, IsTableValue, IsTruthValue}

-- serde_json reads the text as this value; of members with one key it keeps the last
abbrev pub IsJsonText : List ℕ → Data → Type 0
IsJsonText text v = IsUtf8 text × (read text ≡ Some v)

-- each member is a term
abbrev pub HoldsTerms : Data → Type 0
HoldsTerms row = (key : List ℕ) (cell : Data) → get key row ≡ Some cell → (term : Term) × IsTermValue cell term

-- a member is no term
abbrev pub HoldsNoTerm : Data → Type 0
HoldsNoTerm row = (key : List ℕ) × (cell : Data) × (get key row ≡ Some cell) × ((term : Term) → IsTermValue cell term → ⊥)

-- the row of this number, from 0, is the first with a member that is no term
abbrev pub IsFirstBad : ℕ → List Data → Type 0
IsFirstBad n [] = ⊥
IsFirstBad zero (row ∷ rows) = HoldsNoTerm row
IsFirstBad (suc n) (row ∷ rows) = HoldsTerms row × IsFirstBad n rows

-- the value is no table even if any object is taken for a term
abbrev pub HasNoShape : Data → Type 0
HasNoShape v = (names : List (List ℕ)) (rows : List Data) → HasShape v names rows → ⊥

-- it is one but for the row of this number
abbrev pub HasBadRow : Data → ℕ → Type 0
HasBadRow v n = (names : List (List ℕ)) × (rows : List Data) × HasShape v names rows × IsFirstBad n rows

-- why a text is no table; want of memory says nothing of it
abbrev pub IsTableFault : List ℕ → ResultFault → Type 0
IsTableFault text NotJson = (v : Data) → IsJsonText text v → ⊥
IsTableFault text BadShape = (v : Data) × IsJsonText text v × HasNoShape v
IsTableFault text (BadTerm n) = (v : Data) × IsJsonText text v × HasBadRow v n
IsTableFault text Memory = Unit {0}

-- the text is a table
abbrev pub IsTable : List ℕ → Table → Type 0
IsTable text t = (v : Data) × IsJsonText text v × IsTableValue v t

-- the number of a row is below 2 ^ 64 - 1, so that it and the number of the next one are numbers of 64 bits
abbrev pub IsNumbered : ResultFault → Type 0
IsNumbered NotJson = Unit {0}
IsNumbered BadShape = Unit {0}
IsNumbered (BadTerm n) = n < 2 ^ 64 - 1
IsNumbered Memory = Unit {0}

abbrev pub IsTableReading : List ℕ → Result Table ResultFault → Type 0
IsTableReading text (Ok t) = IsTable text t
IsTableReading text (Err fault) = IsTableFault text fault

-- the text is a truth value
abbrev pub IsTruth : List ℕ → Bool → Type 0
IsTruth text b = (v : Data) × IsJsonText text v × IsTruthValue v b

-- why a text is no truth value
abbrev pub IsTruthFault : List ℕ → ResultFault → Type 0
IsTruthFault text NotJson = (v : Data) → IsJsonText text v → ⊥
IsTruthFault text BadShape = (v : Data) × IsJsonText text v × ((b : Bool) → IsTruthValue v b → ⊥)
IsTruthFault text (BadTerm n) = ⊥
IsTruthFault text Memory = Unit {0}

abbrev pub IsTruthReading : List ℕ → Result Bool ResultFault → Type 0
IsTruthReading text (Ok b) = IsTruth text b
IsTruthReading text (Err fault) = IsTruthFault text fault

-- the reader found memory
abbrev pub HasAnswer : {T : Type 0} → Result T ResultFault → Type 0
HasAnswer r = r ≡ Err Memory → ⊥
