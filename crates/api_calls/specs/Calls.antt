-- The entries that a call makes in the journal of its repository.
use Rattle.std.specs.Prelude.{ℕ, zero, suc, Bool, true, false, List, [], ◌∷◌, ◌++◌, map, Option, Some, None, if◌then◌else◌}
use Rattle.query_model.specs.declared.query.Query.{Query}
use Rattle.query_model.specs.Solutions.{lookups_of}
use Rattle.journal.specs.declared.level.Level.TheVariants.{ReadCommitted}
use Rattle.journal.specs.declared.txn.Txn.{Txn}
use Rattle.journal.specs.declared.ask.Ask.TheVariants.{Query as AskQuery}
use Rattle.journal.specs.declared.op.Op.{Op}
use Rattle.journal.specs.declared.op.Op.TheVariants.{Read, Step}
use Rattle.journal.specs.declared.entry.Entry.{Entry}
use Rattle.journal.specs.Levels.{is_level}
use Rattle.api_calls.specs.declared.call.Call.{Call}
use Rattle.api_calls.specs.declared.call.Call.TheVariants.{Protocol, Repositories, On}

-- the Steps of a query from this number on
abbrev pub steps_from : Txn → Query → ℕ → ℕ → List Op
steps_from t query number zero = []
steps_from t query number (suc n) = Step t query number ∷ steps_from t query (suc number) n

-- A query in a READ_COMMITTED transaction makes one Step for each of its look-ups, numbered from 0; any other op is one entry.
abbrev pub ops_of : Op → List Op
ops_of (Read (Some t) (AskQuery query)) =
    if is_level t.level ReadCommitted then steps_from t query 0 (lookups_of query) else Read (Some t) (AskQuery query) ∷ []
ops_of op = op ∷ []

-- the entries of a call, by the seat that makes them: none for the protocol and the list of repositories
abbrev pub entries_of : Call → ℕ → List Entry
entries_of Protocol seat = []
entries_of (Repositories form) seat = []
entries_of (On repo op form) seat = map (λ op. record { seat = seat; op = op }) (ops_of op)
