-- Whose fault ends a session.
use Rattle.std.specs.Prelude.{◌≡◌, ℕ, ◌≤◌, Bool, true, false}
use Rattle.rdf_io.specs.Causes.{Rose}
use Rattle.session.specs.declared.report.SessionEnd.{SessionEnd}
use Rattle.session.specs.declared.report.SessionEnd.TheVariants.{Done, Refused, ReadFault, WriteFault, Limit, Memory}

-- the count rose where a fault is answered, and else it stands
abbrev pub Caused : Bool → ℕ → ℕ → Type 0
Caused true before now = (before ≤ now) × Rose before now
Caused false before now = now ≡ before

abbrev pub source_broke : SessionEnd → Bool
source_broke Done = false
source_broke Refused = false
source_broke ReadFault = true
source_broke WriteFault = false
source_broke Limit = false
source_broke Memory = false

abbrev pub sink_broke : SessionEnd → Bool
sink_broke Done = false
sink_broke Refused = false
sink_broke ReadFault = false
sink_broke WriteFault = true
sink_broke Limit = false
sink_broke Memory = false
