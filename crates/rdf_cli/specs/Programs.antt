-- The client over a dial: its status, and what it sends and prints.
use Rattle.std.specs.Prelude.{◌≡◌, ◌⊎◌, ℕ, Bool, true, false, List, [], ◌∷◌, ◌++◌, Option, Some}
use Rattle.client_script.specs.Inputs.{Caused}
use Rattle.rdf_io.specs.Causes.{one_more}
use Rattle.rdf_io.specs.Doors.{Link}
use Rattle.rdf_client.specs.Runs.{IsRun}
use Rattle.rdf_io.specs.Sending.{Puts}
use Rattle.rdf_client.specs.declared.end.ClientEnd.{ClientEnd}
use Rattle.rdf_client.specs.declared.end.ClientEnd.TheVariants.{Done, Refused, ReadFault, WriteFault, BadReply, Memory, Script}

-- the status of an end
abbrev pub status_of : ClientEnd → ℕ
status_of Done = 0
status_of Refused = 1
status_of ReadFault = 2
status_of WriteFault = 3
status_of BadReply = 4
status_of Memory = 6
status_of (Script n) = 7

-- The script ran on the link that the dial gave, the first of those that it told: what the link's sink took is told behind the earlier ones, and
-- is what the run sent.
pub record IsClientRun (server repo script : List ℕ) (links : List Link) (backs : List (List ℕ)) (backs' : Option (List (List ℕ)))
    (taken taken' : Option (List ℕ)) (status : ℕ) : Type 0 where
  pub link : Link
  pub others : List Link
  pub gave : links ≡ link ∷ others
  pub end : ClientEnd
  pub sent : List ℕ
  pub text : List ℕ
  pub run : IsRun repo server script link.bytes end sent text
  pub status_is : status ≡ status_of end
  pub back : backs' ≡ Some (backs ++ sent ∷ [])
  pub printed : Puts taken taken' text

-- Where a fault is answered, either a count of faults rose, or one more link was handed back with an end that had failed; else both counts stand.
abbrev pub OneBroke : Bool → ℕ → ℕ → ℕ → ℕ → Type 0
OneBroke true faults faults' broken broken' = (Caused true faults faults' × (broken' ≡ broken)) ⊎ ((faults' ≡ faults) × (broken' ≡ one_more broken))
OneBroke false faults faults' broken broken' = (faults' ≡ faults) × (broken' ≡ broken)
