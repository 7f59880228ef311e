-- When a reader of frames may answer a fault of its source.
use Rattle.std.specs.Prelude.{◌≡◌, ◌≢◌, ℕ, ◌≤◌, Result, Err}
use Rattle.rdf_io.specs.Causes.{Rose}
use Rattle.http_frame.specs.declared.fault.FrameFault.{FrameFault}
use Rattle.http_frame.specs.declared.fault.FrameFault.TheVariants.{BadHead, BadHost, BadBody, BodyTooLong, Coding, Truncated, ReadFault, Memory}

-- the source's count never falls, it rose at `ReadFault`, and else it stands
pub record FaultsFor {T : Type 0} (before now : ℕ) (result : Result T FrameFault) : Type 0 where
  pub later : before ≤ now
  pub failed : result ≡ Err ReadFault → Rose before now
  pub kept : result ≢ Err ReadFault → now ≡ before

-- a source that is told to be sound stays so, and has no fault
abbrev pub SoundFor : {T : Type 0} → Type 0 → Type 0 → Result T FrameFault → Type 0
SoundFor before now result = before → (result ≢ Err ReadFault) × now

-- a fault that a head shows by itself
abbrev pub IsShown : FrameFault → Type 0
IsShown BadHost = Unit {0}
IsShown BadBody = Unit {0}
IsShown Coding = Unit {0}
IsShown BodyTooLong = Unit {0}
IsShown BadHead = ⊥
IsShown Truncated = ⊥
IsShown ReadFault = ⊥
IsShown Memory = ⊥
