-- Whose fault ends a client. Four counts stand apart: of the input, the source, the sink and the output.
use Rattle.std.specs.Prelude.{◌≡◌, ◌⊎◌, ℕ, Bool, true, false, Result, Ok, Err}
use Rattle.client_script.specs.Inputs.{Caused}
use Rattle.rdf_client.specs.declared.end.ClientEnd.{ClientEnd}
use Rattle.rdf_client.specs.declared.end.ClientEnd.TheVariants.{Done, Refused, ReadFault, WriteFault, BadReply, Memory, Script}

-- something that is read failed
abbrev pub read_broke : ClientEnd → Bool
read_broke Done = false
read_broke Refused = false
read_broke ReadFault = true
read_broke WriteFault = false
read_broke BadReply = false
read_broke Memory = false
read_broke (Script n) = false

-- something that is written to failed
abbrev pub write_broke : ClientEnd → Bool
write_broke Done = false
write_broke Refused = false
write_broke ReadFault = false
write_broke WriteFault = true
write_broke BadReply = false
write_broke Memory = false
write_broke (Script n) = false

-- an answer has no such end
abbrev pub ends_so : {A : Type 0} → (ClientEnd → Bool) → Result A ClientEnd → Bool
ends_so broke (Ok x) = false
ends_so broke (Err end) = broke end

-- exactly one of two counts rose where a fault is answered, and the other one stands; else both stand
abbrev pub OneCaused : Bool → ℕ → ℕ → ℕ → ℕ → Type 0
OneCaused true before now other other' = (Caused true before now × (other' ≡ other)) ⊎ ((now ≡ before) × Caused true other other')
OneCaused false before now other other' = (now ≡ before) × (other' ≡ other)
