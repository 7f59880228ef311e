-- What the program `workload` does.
use Rattle.std.specs.Prelude.{◌≡◌, ℕ, suc, ◌+◌, All, List, [], ◌∷◌, length, Option}
use Rattle.session.specs.Ends.{IsSession}
use Rattle.session.specs.Marks.{Journals, Moves}
use Rattle.session.specs.Turns.{Ground, ground}
use Rattle.session.specs.declared.report.Outcome.TheVariants.{Answered}
use Rattle.session.specs.declared.report.SessionEnd.TheVariants.{Done}
use Rattle.session.specs.declared.report.SessionReport.{SessionReport}
use Rattle.session.specs.declared.report.Turn.{Turn}
use Rattle.shared_session.specs.Houses.{AreFirst, journals, lists, numbers}
use Rattle.shared_session.specs.declared.passes.Passes.{Passes}
use Rattle.worker_pool.specs.Served.{AreWhole, seats_at}
use Rattle.worker_pool.specs.declared.door_end.DoorEnd.{DoorEnd}
use Rattle.worker_pool.specs.declared.house_end.HouseEnd.{HouseEnd}
use Rattle.workload.specs.Sessions.{session_bytes}
use Rattle.rdf_server.specs.Programs.{standard_limits}
use Rattle.rdf_server.specs.WorkTexts.{work_names}

-- The session ended between two requests, and each of these was answered.
pub record IsDone (report : SessionReport) : Type 0 where
  pub end : report.end ≡ Done
  pub answered : All (λ (t : Turn). t.outcome ≡ Answered) report.turns.items

-- The door gave one connection, whose session is done.
pub record HasFinished (end : DoorEnd) (report : SessionReport) : Type 0 where
  pub only : end.reports.items ≡ report ∷ []
  pub done : IsDone report

-- A worker, which had seen the old journals, finished the session of this number: the turns of its report are right for the session's bytes, by the
-- journals, in which the further entries with its seat number stand exactly at its marks.
pub record IsWorker (g : Ground) (old : Journals) (session rounds : ℕ) (end : DoorEnd) : Type 0 where
  pub report : SessionReport
  pub finished : HasFinished end report
  pub moves : Moves g.seats old g.journals report.marks.items
  -- what the source had left, and what was written
  pub left : Option (List ℕ)
  pub text : List ℕ
  pub right : IsSession g (session_bytes session rounds) left Done report.turns.items report.marks.items text

module _ (names : List (List ℕ)) (rounds : ℕ) (js : Journals) where
  -- the workers with these passes finished the sessions from this number on
  abbrev pub AreWorkers : ℕ → List Passes → List DoorEnd → Type 0
  AreWorkers session [] [] = Unit {0}
  AreWorkers session (p ∷ ps) (end ∷ ends) = IsWorker (ground names standard_limits js (numbers p)) (journals p) session rounds end × AreWorkers (suc session) ps ends
  AreWorkers session [] (end ∷ ends) = ⊥
  AreWorkers session (p ∷ ps) [] = ⊥

-- All workers finished their sessions, by the closing journals, each of which is whole; what it holds at the end is counted.
pub record IsWorked (workers rounds : ℕ) (end : HouseEnd) : Type 0 where
  pub passes : List Passes
  -- worker i has the seat number i in each repository, of whose journal it had seen nothing
  pub first : AreFirst 0 passes
  pub count : length passes ≡ workers
  pub finished : AreWorkers (work_names workers) rounds (lists end.closing.items) 0 passes end.doors.items
  pub whole : AreWhole standard_limits (seats_at passes) end.closing.items end.counts.items
  pub each : length end.closing.items ≡ workers + 1
  pub counted : length end.counts.items ≡ workers + 1
