-- The order of refusals. A request goes through checks, one after the other, and the first one that refuses it answers. A check is what it
-- may answer: what it passes on, or its refusal.
use Rattle.std.specs.Prelude.{◌≡◌, ◌≢◌, Bool, Result, Ok, Err, if◌then◌else◌}
use Rattle.api_calls.specs.declared.fault.ApiFault.{ApiFault}
use Rattle.api_calls.specs.declared.fault.ApiFault.TheVariants as faults

-- a check, and behind it whatever is next for what it passes on
pub data Then {A B : Type 0} (check : Result A ApiFault → Type 0) (next : A → Result B ApiFault → Type 0) (answer : Result B ApiFault) : Type 0 where
  passed : (a : A) → check (Ok a) → next a answer → Then check next answer
  refused : (fault : ApiFault) → check (Err fault) → answer ≡ Err fault → Then check next answer

-- the answer is this one
abbrev pub Is : {A : Type 0} → A → A → Type 0
Is wanted answer = answer ≡ wanted

-- what a test answers, which refuses by this fault
abbrev pub tested : ApiFault → Bool → Result (Unit {0}) ApiFault
tested fault test = if test then Ok tt else Err fault

-- the request passes the test
abbrev pub Passes : ApiFault → Bool → Result (Unit {0}) ApiFault → Type 0
Passes fault test answer = answer ≡ tested fault test

-- unless memory ran out, a call answers as the check
abbrev pub Gives : {A : Type 0} → (Result A ApiFault → Type 0) → Result A ApiFault → Type 0
Gives check (Ok a) = check (Ok a)
Gives check (Err fault) = fault ≢ faults.Memory → check (Err fault)
