-- The clause of each door, carried over to the closing journals.
use Rattle.std.proofs.Common.{◌≡◌, ℕ, Bool, false, List, [], ◌∷◌, ◌++◌, length, Option, Some, refl, sym, ◌∙◌, ap, subst, append-nil}
use Rattle.std.specs.Prelude.{map}
use Rattle.journal.specs.declared.entry.Mark.{Mark}
use Rattle.journal.specs.declared.limits.Limits.{Limits}
use Rattle.journal.specs.Laws.{ReplyReadsNoLaterEntry}
use Rattle.session.specs.Marks.{Journals, Moves}
use Rattle.session.specs.Turns.{ground}
use Rattle.session.proofs.MarkLemmas.{all_begin, moves_more}
use Rattle.shared_repo.specs.Passes.{RepoPass}
use Rattle.shared_session.specs.Houses.{HaveLimits, HaveSeats, House, journals, lists, numbers, seats}
use Rattle.shared_session.specs.declared.passes.Passes.{Passes}
use Rattle.worker_pool.specs.Doors.{all_marks}
use Rattle.worker_pool.specs.Jobs.{AreDone, AreJobs, AreParted, rows_of}
use Rattle.worker_pool.specs.Served.{AllServed, AtDoor, DoorView, Served, seats_at}
use Rattle.worker_pool.specs.declared.door_end.DoorEnd.{DoorEnd}
use Rattle.worker_pool.specs.declared.jobs.Job.{Job}
use Rattle.worker_pool.specs.Columns.{AreColumns, MayClose}
use Rattle.worker_pool.proofs.ColumnLemmas.{EachMoves, ended_rows, may_close}
use Rattle.worker_pool.proofs.DoorLemmas.{doored_later}
use Rattle.worker_pool.proofs.JobLemmas.{ended_done, rows_count}

-- a door's clause holds by any journals that begin with its worker's and have no further entry of its own
at_closing : ReplyReadsNoLaterEntry → (names : List (List ℕ)) (limits : Limits) (ns : ℕ → ℕ) (old now js : Journals) (door door' : DoorView) (end : DoorEnd)
    → Moves ns now js [] → AtDoor (ground names limits now ns) old door door' end → AtDoor (ground names limits js ns) old door door' end
at_closing law names limits ns old now js door door' end m a = record {
  moves = subst (λ (z : List Mark). Moves ns old js z) (append-nil (all_marks end.reports.items)) (moves_more ns old now js (all_marks end.reports.items) [] a.moves m);
  reports = λ told e. doored_later law (ground names limits now ns) js told door'.links door.backs door'.backs end.reports.items (all_begin ns now js [] m) (a.reports told e);
  given = a.given;
  sources = a.sources;
  sinks = a.sinks;
  stop = a.stop;
}

same_end : (o : Option DoorEnd) (a b : DoorEnd) → o ≡ Some a → o ≡ Some b → a ≡ b
same_end o a b e f = cc

module _ {D : Type 0} (out : D → Bool) (tells : D → DoorView) where
  pub all_served : ReplyReadsNoLaterEntry → (house : House) (qs : List RepoPass) (ps : List Passes) (ds es : List D) (js ks : List (Job D)) (xs : List DoorEnd)
      → AreJobs ds ps js → AreDone out tells house js ks → AreParted ks es xs → EachMoves qs (rows_of ks) → AllServed out tells house (lists qs) ps ds es xs
  all_served law house qs [] [] [] [] [] [] a b c m = tt
  all_served law house qs [] [] [] [] [] (x ∷ xs) a b c m = absurd c
  all_served law house qs [] [] (e ∷ es) [] [] xs a b c m = absurd c
  all_served law house qs [] [] es [] (k ∷ ks) xs a b c m = absurd b
  all_served law house qs [] [] es (j ∷ js) ks xs a b c m = absurd a
  all_served law house qs (p ∷ ps) [] es js ks xs a b c m = absurd a
  all_served law house qs [] (d ∷ ds) es js ks xs a b c m = absurd a
  all_served law house qs (p ∷ ps) (d ∷ ds) es [] ks xs a b c m = absurd a
  all_served law house qs (p ∷ ps) (d ∷ ds) es (j ∷ js) [] xs a b c m = absurd b
  all_served law house qs (p ∷ ps) (d ∷ ds) [] (j ∷ js) (k ∷ ks) xs a b c m = absurd c
  all_served law house qs (p ∷ ps) (d ∷ ds) (e ∷ es) (j ∷ js) (k ∷ ks) [] a b c m = absurd c
  all_served law house qs (p ∷ ps) (d ∷ ds) (e ∷ es) (j ∷ js) (k ∷ ks) (x ∷ xs) a b c m =
      let js' : Journals = lists qs in
      let moved : Moves (numbers j.passes) (journals k.passes) js' [] = subst (λ (n : ℕ → ℕ). Moves n (journals k.passes) js' []) b.0.1 m.0 in
      let one : Served out tells house js' j.passes j.door k.door b.0.3 = (
        at_closing law house.names house.limits (numbers j.passes) (journals j.passes) (journals k.passes) js' (tells j.door) (tells k.door) b.0.3 moved b.0.5,
        b.0.2,
      ) in
      let end : Served out tells house js' j.passes j.door k.door x =
      subst (λ (y : DoorEnd). Served out tells house js' j.passes j.door k.door y) (same_end k.end b.0.3 x b.0.4 c.0.1) one in
      let first : Served out tells house js' p d k.door x =
      subst (λ (y : D). Served out tells house js' p y k.door x) a.0.0 (subst (λ (y : Passes). Served out tells house js' y j.door k.door x) a.0.1 end) in (
        subst (λ (y : D). Served out tells house js' p d y x) (sym c.0.0) first,
        all_served law house qs ps ds es js ks xs a.1 b.1 c.1 m.1,
      )

  -- the workers keep their seat numbers
  pub seats_kept : (house : House) (ps : List Passes) (ds : List D) (js ks : List (Job D)) (i : ℕ) → AreJobs ds ps js → AreDone out tells house js ks
      → seats_at ps i ≡ map (λ (row : List RepoPass). seats row i) (rows_of ks)
  seats_kept house [] [] [] [] i a b = refl
  seats_kept house [] [] [] (k ∷ ks) i a b = absurd b
  seats_kept house [] [] (j ∷ js) ks i a b = absurd a
  seats_kept house (p ∷ ps) [] js ks i a b = absurd a
  seats_kept house [] (d ∷ ds) js ks i a b = absurd a
  seats_kept house (p ∷ ps) (d ∷ ds) [] ks i a b = absurd a
  seats_kept house (p ∷ ps) (d ∷ ds) (j ∷ js) [] i a b = absurd b
  seats_kept house (p ∷ ps) (d ∷ ds) (j ∷ js) (k ∷ ks) i a b =
      let one : numbers p i ≡ numbers k.passes i = ap (λ (w : Passes). numbers w i) (sym a.0.1) ∙ ap (λ (f : ℕ → ℕ). f i) (sym b.0.1) in
      ap (λ (n : ℕ). n ∷ seats_at ps i) one ∙ ap (λ (z : List ℕ). numbers k.passes i ∷ z) (seats_kept house ps ds js ks i a.1 b.1)

  -- each repository may be closed with the passes of the jobs that were done
  pub closes_done : (house : House) (js ks : List (Job D)) (n room : ℕ) (cs : List Passes) → HaveLimits house.limits house.repos → HaveSeats n house.repos
      → AreDone out tells house js ks → length ks ≡ n → length cs ≡ length house.repos → AreColumns room (rows_of ks) cs → MayClose house.limits house.repos cs
  closes_done house js ks n room cs l s d e f h =
      may_close house.limits house.repos room (rows_of ks) cs l (subst (λ (k : ℕ). HaveSeats k house.repos) (sym (rows_count ks ∙ e)) s)
      (ended_rows house ks (ended_done out tells house js ks d)) f h
