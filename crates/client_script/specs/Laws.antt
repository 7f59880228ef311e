-- What holds of the lines of a script and of its calls.
use Rattle.std.specs.Prelude.{◌≡◌, ◌↔◌, ℕ, Bool, true, false, List, ◌∷◌, ◌++◌, Some}
use Rattle.std.specs.List.{AllByRecursion}
use Rattle.journal.specs.declared.level.Level.{Level}
use Rattle.journal.specs.declared.txn.Txn.{Txn}
use Rattle.journal.specs.declared.op.Op.{Op}
use Rattle.journal.specs.declared.op.Op.TheVariants.{Begin, Commit, Rollback}
use Rattle.journal.specs.declared.reply.Reply.{Reply}
use Rattle.journal.specs.declared.reply.Reply.TheVariants.{Begun, Done}
use Rattle.client_script.specs.declared.command.Command.{Command}
use Rattle.client_script.specs.Actions.{current_txn}
use Rattle.client_script.specs.Lines.{IsInTable, IsValidCommand}

-- a line stands for at most one command
abbrev pub OneCommand : Type 0
OneCommand = (line : List ℕ) (command other : Command) → IsInTable line command → IsInTable line other → command ≡ other

-- what a line holds meets the grammars
abbrev pub CommandsAreValid : Type 0
CommandsAreValid = (line : List ℕ) (command : Command) → IsInTable line command → IsValidCommand command

-- a transaction was begun, or a commit or a rollback is done
abbrev pub changes_txn : Op → Reply → Bool
changes_txn (Begin level) (Begun t) = true
changes_txn (Commit t) Done = true
changes_txn (Rollback t) Done = true
changes_txn op reply = false

-- The current transaction is the one that was last begun and neither committed nor rolled back with success.
pub record IsCurrent (answered : List (Op × Reply)) (t : Txn) : Type 0 where
  pub before : List (Op × Reply)
  pub level : Level
  pub later : List (Op × Reply)
  pub begun : answered ≡ before ++ ((Begin level, Begun t) ∷ later)
  pub left : AllByRecursion (λ x. changes_txn x.0 x.1 ≡ false) later

-- that is the current transaction
abbrev pub CurrentIsLastBegun : Type 0
CurrentIsLastBegun = (answered : List (Op × Reply)) (t : Txn) → current_txn answered ≡ Some t ↔ IsCurrent answered t
