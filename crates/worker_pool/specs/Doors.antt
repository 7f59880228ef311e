-- What a worker does at its door: the connections that the door gave, and the reports on them.
use Rattle.std.specs.Prelude.{◌≡◌, ℕ, zero, suc, ◌≤◌, true, false, List, [], ◌∷◌, ◌++◌, Option, Some, count_by}
use Rattle.std.specs.List.{flat_map}
use Rattle.rdf_io.specs.Causes.{Rose, one_more}
use Rattle.rdf_io.specs.Doors.{Link}
use Rattle.journal.specs.declared.entry.Mark.{Mark}
use Rattle.session.specs.Causes.{sink_broke, source_broke}
use Rattle.session.specs.Ends.{IsSession}
use Rattle.session.specs.Turns.{Ground}
use Rattle.session.specs.declared.report.SessionReport.{SessionReport}
use Rattle.worker_pool.specs.declared.door_end.DoorStop.{DoorStop}
use Rattle.worker_pool.specs.declared.door_end.DoorStop.TheVariants.{Closed, DoorFault, Memory}

-- the marks of all reports, in order
abbrev pub all_marks : List SessionReport → List Mark
all_marks reports = flat_map (λ (r : SessionReport). r.marks.items) reports

-- The report on a connection is right: its requests have right turns, and this text was written. No fault is reported of a source that never fails.
pub record IsServed (g : Ground) (link : Link) (report : SessionReport) (text : List ℕ) : Type 0 where
  -- the bytes that its source had left at the end, where it told them
  pub left : Option (List ℕ)
  pub session : IsSession g link.bytes left report.end report.turns.items report.marks.items text
  pub sound : link.sound ≡ true → source_broke report.end ≡ false

-- each connection has a right report, and a text that was written, in order
abbrev pub AreServed : Ground → List Link → List SessionReport → List (List ℕ) → Type 0
AreServed g [] [] [] = Unit {0}
AreServed g (l ∷ ls) (r ∷ rs) (w ∷ ws) = IsServed g l r w × AreServed g ls rs ws
AreServed g [] [] (w ∷ ws) = ⊥
AreServed g [] (r ∷ rs) ws = ⊥
AreServed g (l ∷ ls) [] ws = ⊥
AreServed g (l ∷ ls) (r ∷ rs) [] = ⊥

-- The first of the connections that the door told were given, and each has a right report. Where the door tells what the sinks handed back took, that
-- is what was written.
pub record Doored (g : Ground) (told : List Link) (links : Option (List Link)) (backs backs' : Option (List (List ℕ))) (reports : List SessionReport) : Type 0 where
  pub given : List Link
  pub rest : List Link
  pub texts : List (List ℕ)
  pub told_are : told ≡ given ++ rest
  pub still : links ≡ Some rest
  pub served : AreServed g given reports texts
  pub taken : (before : List (List ℕ)) → backs ≡ Some before → backs' ≡ Some (before ++ texts)

-- a count after so many more, which stands still at the end of its type
abbrev pub count_after : ℕ → ℕ → ℕ
count_after before zero = before
count_after before (suc n) = one_more (count_after before n)

-- how many of these reports end with a fault of the source
abbrev pub source_faults : List SessionReport → ℕ
source_faults reports = count_by (λ (r : SessionReport). source_broke r.end) reports

-- how many of these reports end with a fault of the sink
abbrev pub sink_faults : List SessionReport → ℕ
sink_faults reports = count_by (λ (r : SessionReport). sink_broke r.end) reports

-- what a stop says of the door's count of answers that there is none, and of that of its faults
abbrev pub CountsStop : ℕ → ℕ → ℕ → ℕ → DoorStop → Type 0
CountsStop ends ends' faults faults' Closed = (ends' ≡ one_more ends) × (faults' ≡ faults)
CountsStop ends ends' faults faults' DoorFault = (ends' ≡ ends) × (faults ≤ faults') × Rose faults faults'
CountsStop ends ends' faults faults' Memory = (ends' ≡ ends) × (faults' ≡ faults)
