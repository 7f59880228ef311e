-- A reader of a script: the command of the next line, or that the line is none.
use Rattle.std.specs.Prelude.{◌≡◌, ℕ, ◌+◌, ◌≤◌, ◌<◌, ◌⊎◌, Bool, true, false, List, [], Option, Some, None, Result, Ok, Err}
use Rattle.client_script.specs.declared.command.Command.{Command}
use Rattle.client_script.specs.declared.script.ScriptFault.{ScriptFault}
use Rattle.client_script.specs.declared.script.ScriptFault.TheVariants.{BadLine, ReadFault, Memory}
use Rattle.client_script.specs.Inputs.{IsStream, first_line}
use Rattle.client_script.specs.Lines.{IsScriptLine}

-- the most lines of a script
abbrev pub most_lines : ℕ
most_lines = 1000000

-- what contracts see of a reader: the bytes that it holds, and how many lines it has read
pub record Reader : Type 0 where
  pub held : List ℕ
  pub number : ℕ

-- behind so many lines the text b begins with a line, after which rest stands, for the command
pub record IsNext (number : ℕ) (b : List ℕ) (command : Command) (rest : List ℕ) : Type 0 where
  pub line : List ℕ
  pub first : first_line b ≡ Some (line, rest)
  pub few : number < most_lines
  pub script : IsScriptLine line command

-- behind so many lines the text b begins with a line that is none of a script, or is one too many
pub record IsBad (number : ℕ) (b : List ℕ) : Type 0 where
  pub line : List ℕ
  pub rest : List ℕ
  pub first : first_line b ≡ Some (line, rest)
  pub bad : (most_lines ≤ number) ⊎ ((command : Command) → IsScriptLine line command → ⊥)

-- the answer on the text b behind so many lines, and the reader and what its source has left after it
abbrev pub NextCommand : ℕ → List ℕ → Reader → Option (List ℕ) → Result (Option Command) ScriptFault → Type 0
NextCommand number b reader left (Ok None) = (b ≡ []) × (reader.number ≡ number) × IsStream reader.held left []
NextCommand number b reader left (Ok (Some command)) =
    (rest : List ℕ) × IsNext number b command rest × (reader.number ≡ number + 1) × IsStream reader.held left rest
NextCommand number b reader left (Err (BadLine n)) = (n ≡ number + 1) × IsBad number b
NextCommand number b reader left (Err ReadFault) = Unit {0}
NextCommand number b reader left (Err Memory) = Unit {0}

-- the answer is that the source failed
abbrev pub is_read_fault : ScriptFault → Bool
is_read_fault (BadLine n) = false
is_read_fault ReadFault = true
is_read_fault Memory = false

abbrev pub has_read_fault : {A : Type 0} → Result A ScriptFault → Bool
has_read_fault (Ok x) = false
has_read_fault (Err fault) = is_read_fault fault
