-- What the program does on its words.
use Rattle.std.specs.Prelude.{◌≡◌, ℕ, ◌^◌, List, [], Option, Some}
use Rattle.journal.specs.declared.entry.Mark.{Mark}
use Rattle.journal.specs.declared.limits.Limits.{Limits}
use Rattle.session.specs.Ends.{IsSession}
use Rattle.session.specs.Marks.{Journals, Moves}
use Rattle.rdf_io.specs.Sending.{Puts}
use Rattle.session.specs.Turns.{ground}
use Rattle.session.specs.declared.report.SessionEnd.{SessionEnd}
use Rattle.session.specs.declared.report.SessionEnd.TheVariants.{Done, Refused, ReadFault, WriteFault, Limit, Memory}
use Rattle.session.specs.declared.report.Turn.{Turn}

-- the status of each end
abbrev pub status_of : SessionEnd → ℕ
status_of Done = 0
status_of Refused = 1
status_of ReadFault = 2
status_of WriteFault = 3
status_of Limit = 4
status_of Memory = 6

-- the limits of the program's repositories
abbrev pub standard_limits : Limits
standard_limits = record { quads = 1048576; bytes = 268435456; rows = 1048576; txns = 1024; names = 65536; places = 2 ^ 62 }

-- the journals before a run have no entry
abbrev pub no_entries : Journals
no_entries repo = []

-- the one seat of a run has the number 0 in each repository
abbrev pub one_seat : ℕ → ℕ
one_seat repo = 0

-- A run of the program on the repositories of these IDs, which ended so, over a source and a sink that tell before and after which bytes they have left
-- and took: one session on journals that had no entry, whose entries with the seat's number are exactly those of its turns.
pub record IsRun (ids : List (List ℕ)) (left left' taken taken' : Option (List ℕ)) (end : SessionEnd) : Type 0 where
  pub journals : Journals
  pub turns : List Turn
  pub marks : List Mark
  pub moves : Moves one_seat no_entries journals marks
  pub session : (b : List ℕ) → left ≡ Some b → (text : List ℕ) × Puts taken taken' text
      × IsSession (ground ids standard_limits journals one_seat) b left' end turns marks text
