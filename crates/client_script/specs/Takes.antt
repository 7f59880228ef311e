-- How a reader takes a line that it holds. No contract of a public call cites it.
use Rattle.std.specs.Prelude.{◌≡◌, ℕ, ◌+◌, ◌≤◌, ◌<◌, ◌⊎◌, List, take, drop, Option, Some, None, Result, Ok, Err}
use Rattle.client_script.specs.declared.command.Command.{Command}
use Rattle.client_script.specs.declared.script.ScriptFault.{ScriptFault}
use Rattle.client_script.specs.declared.script.ScriptFault.TheVariants.{BadLine, ReadFault, Memory}
use Rattle.client_script.specs.Lines.{IsScriptLine}
use Rattle.client_script.specs.Scripts.{Reader, most_lines}

-- the command of a line, or that it is none of a script
abbrev pub IsScriptCommand : List ℕ → Option Command → Type 0
IsScriptCommand line (Some command) = IsScriptLine line command
IsScriptCommand line None = (command : Command) → IsScriptLine line command → ⊥

-- the line of the first bytes that are held was taken with its end, or the reader is as it was
abbrev pub TakesLine : Reader → ℕ → ℕ → Reader → Result (Option Command) ScriptFault → Type 0
TakesLine old end used new (Ok None) = ⊥
TakesLine old end used new (Ok (Some command)) =
    (old.number < most_lines) × IsScriptLine (take end old.held) command × (new ≡ record { held = drop used old.held; number = old.number + 1 })
TakesLine old end used new (Err (BadLine n)) = (new ≡ old) × (n ≡ old.number + 1)
    × ((most_lines ≤ old.number) ⊎ ((command : Command) → IsScriptLine (take end old.held) command → ⊥))
TakesLine old end used new (Err ReadFault) = ⊥
TakesLine old end used new (Err Memory) = new ≡ old
