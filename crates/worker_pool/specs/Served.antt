-- What all workers of a house did, by the journals at the end.
use Rattle.std.specs.Prelude.{◌≡◌, ℕ, suc, Bool, false, IsTrue, List, [], ◌∷◌, length, map, nat_eq, Option, Some}
use Rattle.std.specs.List.{IsDistinct}
use Rattle.journal_lock.specs.Passes.{seen}
use Rattle.journal_lock.specs.Rule.{AllAmong}
use Rattle.rdf_io.specs.Doors.{Link}
use Rattle.journal.specs.declared.entry.Entry.{Entry}
use Rattle.journal.specs.declared.level.Level.TheVariants.{Serializable}
use Rattle.journal.specs.declared.limits.Limits.{Limits}
use Rattle.journal.specs.declared.txn.Txn.{Txn}
use Rattle.journal.specs.Alone.{ReadsAsIfAlone}
use Rattle.journal.specs.Journal.{committed_after, commits_in, judged}
use Rattle.journal.specs.Legal.{IsLegal}
use Rattle.journal.specs.Serial.{is_all_serializable}
use Rattle.journal.specs.SerialLaws.{IsCommitAt, SerialAgrees, is_stepped_read_committed}
use Rattle.session.specs.Marks.{Journals, Moves}
use Rattle.session.specs.Turns.{Ground, ground}
use Rattle.shared_repo.specs.Passes.{RepoPass}
use Rattle.shared_session.specs.Houses.{House, journals, numbers}
use Rattle.shared_session.specs.declared.passes.Passes.{Passes}
use Rattle.worker_pool.specs.Doors.{CountsStop, Doored, all_marks, count_after, sink_faults, source_faults}
use Rattle.worker_pool.specs.declared.door_end.DoorEnd.{DoorEnd}
use Rattle.worker_pool.specs.declared.house_end.RepoCount.{RepoCount}

-- Doors

-- what a door tells, and its counts
pub record DoorView : Type 0 where
  -- the connections that it has yet to give
  pub links : Option (List Link)
  -- what the sinks handed back took
  pub backs : Option (List (List ℕ))
  -- how many connections it gave
  pub given : ℕ
  -- how often it answered that there is none
  pub ends : ℕ
  -- how often it failed
  pub faults : ℕ
  -- how many connections were handed back whose source or sink had failed
  pub broken_sources : ℕ
  pub broken_sinks : ℕ

module _ {D : Type 0} (links : D → Option (List Link)) (backs : D → Option (List (List ℕ))) (given ends faults broken_sources broken_sinks : D → ℕ) where
  abbrev pub view_of : D → DoorView
  view_of d = record {
    links = links d;
    backs = backs d;
    given = given d;
    ends = ends d;
    faults = faults d;
    broken_sources = broken_sources d;
    broken_sinks = broken_sinks d;
  }

-- A door was served, by these journals, of which the worker had seen the old ones: what `serve_door` promises of one door.
pub record AtDoor (g : Ground) (old : Journals) (door door' : DoorView) (end : DoorEnd) : Type 0 where
  pub moves : Moves g.seats old g.journals (all_marks end.reports.items)
  pub reports : (told : List Link) → door.links ≡ Some told → Doored g told door'.links door.backs door'.backs end.reports.items
  pub given : door'.given ≡ count_after door.given (length end.reports.items)
  pub sources : door'.broken_sources ≡ count_after door.broken_sources (source_faults end.reports.items)
  pub sinks : door'.broken_sinks ≡ count_after door.broken_sinks (sink_faults end.reports.items)
  pub stop : CountsStop door.ends door'.ends door.faults door'.faults end.stop

module _ {D : Type 0} (out : D → Bool) (tells : D → DoorView) where
  -- the worker with these passes served this door, by these journals, and no link is out
  abbrev pub Served : House → Journals → Passes → D → D → DoorEnd → Type 0
  Served house js p d d' end = AtDoor (ground house.names house.limits js (numbers p)) (journals p) (tells d) (tells d') end × (out d' ≡ false)

  -- each worker served the door at its place
  abbrev pub AllServed : House → Journals → List Passes → List D → List D → List DoorEnd → Type 0
  AllServed house js [] [] [] [] = Unit {0}
  AllServed house js (p ∷ ps) (d ∷ ds) (d' ∷ ds') (end ∷ es) = Served house js p d d' end × AllServed house js ps ds ds' es
  AllServed house js [] [] [] (end ∷ es) = ⊥
  AllServed house js [] [] (d' ∷ ds') es = ⊥
  AllServed house js [] (d ∷ ds) ds' es = ⊥
  AllServed house js (p ∷ ps) [] ds' es = ⊥
  AllServed house js (p ∷ ps) (d ∷ ds) [] es = ⊥
  AllServed house js (p ∷ ps) (d ∷ ds) (d' ∷ ds') [] = ⊥

-- Repositories

-- the seat number of each worker in a repository
abbrev pub seats_at : List Passes → ℕ → List ℕ
seats_at workers repo = map (λ (p : Passes). numbers p repo) workers

-- The whole journal of a repository that callers with these seat numbers shared, and how much it held at the end.
pub record IsWhole (limits : Limits) (seats : List ℕ) (journal : List Entry) (count : RepoCount) : Type 0 where
  pub legal : IsLegal journal
  pub steps : IsTrue (is_stepped_read_committed journal)
  -- the seat numbers differ, and each entry has one of them
  pub differ : IsDistinct nat_eq seats
  pub among : AllAmong (λ (e : Entry). e.seat) seats journal
  -- where all accepted Begins are SERIALIZABLE, the serial journal agrees
  pub serial : IsTrue (is_all_serializable (judged limits journal)) → SerialAgrees limits journal
  -- each SERIALIZABLE transaction that was committed read as if it ran alone
  pub alone : (t : Txn) (commit : ℕ) → t.level ≡ Serializable → IsCommitAt (judged limits journal) t commit → ReadsAsIfAlone limits journal t commit
  pub quads : count.quads ≡ length (committed_after limits journal)
  pub commits : count.commits ≡ commits_in limits journal
  pub entries : count.entries ≡ length journal

-- the closing pass of each repository has seen its whole journal; the seat numbers are given by the number of the repository
abbrev pub AreWhole : Limits → (ℕ → List ℕ) → List RepoPass → List RepoCount → Type 0
AreWhole limits seats [] [] = Unit {0}
AreWhole limits seats (q ∷ qs) (n ∷ ns) = IsWhole limits (seats 0) (seen q) n × AreWhole limits (λ repo. seats (suc repo)) qs ns
AreWhole limits seats [] (n ∷ ns) = ⊥
AreWhole limits seats (q ∷ qs) [] = ⊥
