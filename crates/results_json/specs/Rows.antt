-- What reading the rows of a table answers.
use Rattle.std.specs.Prelude.{ℕ, List, Option, Result}
use Rattle.std.specs.declared.result.Result.TheVariants.{Ok, Err}
use Rattle.rdf_term.specs.declared.term.Term.{Term}
use Rattle.serde_json.specs.Data.{Data}
use Rattle.results_json.specs.declared.fault.ResultFault.{ResultFault}
use Rattle.results_json.specs.declared.fault.ResultFault.TheVariants.{NotJson, BadShape, BadTerm, Memory}
use Rattle.query_model.specs.declared.table.Table.{Table}
use Rattle.results_json.specs.Tables.{AreRowValues, IsTableValue}
use Rattle.results_json.specs.Reading.{IsFirstBad, HasNoShape, HasBadRow}

abbrev pub IsRowsFault : List Data → ResultFault → Type 0
IsRowsFault values NotJson = ⊥
IsRowsFault values BadShape = ⊥
IsRowsFault values (BadTerm n) = IsFirstBad n values
IsRowsFault values Memory = Unit {0}

abbrev pub IsRowsReading : List (List ℕ) → List Data → Result (List (List (Option Term))) ResultFault → Type 0
IsRowsReading names values (Ok rows) = AreRowValues names values rows
IsRowsReading names values (Err fault) = IsRowsFault values fault

-- and what reading the value of a table does
abbrev pub IsValueFault : Data → ResultFault → Type 0
IsValueFault v NotJson = ⊥
IsValueFault v BadShape = HasNoShape v
IsValueFault v (BadTerm n) = HasBadRow v n
IsValueFault v Memory = Unit {0}

abbrev pub IsValueReading : Data → Result Table ResultFault → Type 0
IsValueReading v (Ok t) = IsTableValue v t
IsValueReading v (Err fault) = IsValueFault v fault
