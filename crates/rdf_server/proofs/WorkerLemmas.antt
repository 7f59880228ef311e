-- What workers did at the doors of `workload`.
use Rattle.std.proofs.Common.{◌≡◌, ℕ, suc, true, false, true≢false, Bool, IsTrue, All, List, [], ◌∷◌, ◌++◌, append-nil, length, map, sym, ap, ◌∙◌, subst, refl, arith}
use Rattle.std.proofs.lemmas.List.Elements.{All-cons}
use Rattle.rdf_io.specs.Doors.{Link}
use Rattle.rdf_io.specs.Memory.{DoorState, told_of}
use Rattle.journal.specs.declared.entry.Mark.{Mark}
use Rattle.journal.specs.declared.limits.Limits.{Limits}
use Rattle.session.specs.Ends.{IsSession}
use Rattle.session.specs.Marks.{Journals, Moves}
use Rattle.session.specs.Turns.{Ground, ground}
use Rattle.session.specs.declared.report.SessionEnd.{SessionEnd}
use Rattle.session.specs.declared.report.SessionReport.{SessionReport}
use Rattle.shared_session.specs.Houses.{House, journals, lists, numbers}
use Rattle.shared_session.specs.declared.passes.Passes.{Passes}
use Rattle.worker_pool.specs.Doors.{AreServed, IsServed, all_marks}
use Rattle.worker_pool.specs.Served.{AllServed, AtDoor}
use Rattle.worker_pool.specs.declared.door_end.DoorEnd.{DoorEnd}
use Rattle.worker_pool.specs.declared.house_end.HouseEnd.{HouseEnd}
use Rattle.workload.specs.Sessions.{session_bytes}
use Rattle.rdf_server.specs.Programs.{standard_limits}
use Rattle.rdf_server.specs.WorkDoors.{HasSession, HaveSessions, ServesDoors, mem_view}
use Rattle.rdf_server.specs.WorkTexts.{work_names}
use Rattle.rdf_server.specs.Workloads.{AreWorkers, HasFinished, IsDone, IsWorked, IsWorker}
use Rattle.rdf_server.proofs.NameLemmas.{length-work_names}
use Rattle.rdf_server.proofs.WordLemmas.{head_same, tail_same}

-- the one report is on the one connection
one_served : (g : Ground) (link : Link) (report : SessionReport) (given rest : List Link) (texts : List (List ℕ)) → link ∷ [] ≡ given ++ rest
    → AreServed g given (report ∷ []) texts → (text : List ℕ) × IsServed g link report text
one_served g link report [] rest texts e it = absurd it
one_served g link report (l ∷ ls) rest [] e it = absurd it
one_served g link report (l ∷ ls) rest (w ∷ ws) e it =
    let same : link ≡ l = head_same link l [] (ls ++ rest) e in
    (w, subst (λ (x : Link). IsServed g x report w) (sym same) it.0)

-- a worker whose door had a session, and which finished, finished that session
finished : (g : Ground) (old : Journals) (session rounds : ℕ) (d d' : DoorState) (end : DoorEnd) (report : SessionReport) → HasSession session rounds d
    → AtDoor g old (mem_view d) (mem_view d') end → HasFinished end report → IsWorker g old session rounds end
finished g old session rounds d d' end report has at it =
    let doored = at.reports (map told_of d.rest) refl in
    let served = one_served g (record { bytes = session_bytes session rounds; sound = true }) report doored.given doored.rest doored.texts
    (sym has.link ∙ doored.told_are) (subst (λ (x : List SessionReport). AreServed g doored.given x doored.texts) it.only doored.served) in
    let marks : all_marks end.reports.items ≡ report.marks.items = ap all_marks it.only ∙ append-nil report.marks.items in
    record {
      report = report;
      finished = it;
      moves = subst (λ (x : List Mark). Moves g.seats old g.journals x) marks at.moves;
      left = served.1.left;
      text = served.0;
      right = subst (λ (e : SessionEnd). IsSession g (session_bytes session rounds) served.1.left e report.turns.items report.marks.items served.0) it.done.end served.1.session;
    }

all_head : {X : Type 0} (P : X → Type 0) (x : X) (xs : List X) → All P (x ∷ xs) → P x
all_head P x xs all = all 0 x (omega (arith))

all_tail : {X : Type 0} (P : X → Type 0) (x : X) (xs : List X) → All P (x ∷ xs) → All P xs
all_tail P x xs all = λ k d inside. all (suc k) d (omega (arith, inside))

-- all workers finished where the first did and the others
pub all_told : (end : DoorEnd) (others ends : List DoorEnd) (rest : Bool) → ends ≡ end ∷ others → (report : SessionReport) × HasFinished end report
    → (IsTrue rest → All (λ (e : DoorEnd). (report : SessionReport) × HasFinished e report) others) × (All (λ (e : DoorEnd). (report : SessionReport) × HasFinished e report) others → IsTrue rest)
    → (IsTrue rest → All (λ (e : DoorEnd). (report : SessionReport) × HasFinished e report) ends) × (All (λ (e : DoorEnd). (report : SessionReport) × HasFinished e report) ends → IsTrue rest)
all_told end others ends rest e first told = (
  λ t. subst (λ (x : List DoorEnd). All (λ (e : DoorEnd). (report : SessionReport) × HasFinished e report) x) (sym e)
      (All-cons (λ (e : DoorEnd). (report : SessionReport) × HasFinished e report) end others first (told.0 t)),
  λ all. told.1 (all_tail (λ (e : DoorEnd). (report : SessionReport) × HasFinished e report) end others
      (subst (λ (x : List DoorEnd). All (λ (e : DoorEnd). (report : SessionReport) × HasFinished e report) x) e all)),
)

-- and not all where the first did not
pub not_all : (end : DoorEnd) (others ends : List DoorEnd) (first : Bool) → first ≡ false → ends ≡ end ∷ others
    → (IsTrue first → (report : SessionReport) × HasFinished end report) × ((report : SessionReport) × HasFinished end report → IsTrue first)
    → (IsTrue first → All (λ (e : DoorEnd). (report : SessionReport) × HasFinished e report) ends) × (All (λ (e : DoorEnd). (report : SessionReport) × HasFinished e report) ends → IsTrue first)
not_all end others ends first is_none e told = (
  λ t. absurd (true≢false (sym t ∙ is_none)),
  λ all. told.1 (all_head (λ (e : DoorEnd). (report : SessionReport) × HasFinished e report) end others
      (subst (λ (x : List DoorEnd). All (λ (e : DoorEnd). (report : SessionReport) × HasFinished e report) x) e all)),
)

-- a worker finished where its one report is done
pub finished_told : (end : DoorEnd) (report : SessionReport) (others : List SessionReport) (done : Bool) → end.reports.items ≡ report ∷ others → length others ≡ 0
    → (IsTrue done → IsDone report) × (IsDone report → IsTrue done)
    → (IsTrue done → (r : SessionReport) × HasFinished end r) × ((r : SessionReport) × HasFinished end r → IsTrue done)
finished_told end report [] done only one told = (
  λ t. (report, record { only = only; done = told.0 t }),
  λ it. told.1 (subst (λ (r : SessionReport). IsDone r) (head_same it.0 report [] [] (sym it.1.only ∙ only)) it.1.done),
)
finished_told end report (r ∷ rs) done only one told = absurd (omega (arith, one))

-- with another report, or none, it did not
pub unfinished : (end : DoorEnd) (report : SessionReport) (others : List SessionReport) (none : Bool) → none ≡ false → end.reports.items ≡ report ∷ others
    → (length others ≡ 0 → ⊥) → (IsTrue none → (r : SessionReport) × HasFinished end r) × ((r : SessionReport) × HasFinished end r → IsTrue none)
unfinished end report others none is_none e more = (
  λ t. absurd (true≢false (sym t ∙ is_none)),
  λ it.
      let tail : others ≡ [] = tail_same report it.0 others [] (sym e ∙ it.1.only) in
      absurd (more (ap length tail)),
)

pub no_report : (end : DoorEnd) (none : Bool) → none ≡ false → length end.reports.items ≡ 0
    → (IsTrue none → (r : SessionReport) × HasFinished end r) × ((r : SessionReport) × HasFinished end r → IsTrue none)
no_report end none is_none empty = (
  λ t. absurd (true≢false (sym t ∙ is_none)),
  λ it.
      let one : length end.reports.items ≡ 1 = ap length it.1.only in
      absurd (omega (arith, one, empty)),
)

-- all workers
all_workers : (house : House) (names : List (List ℕ)) (rounds session : ℕ) (js : Journals) (ps : List Passes) (ds ds' : List DoorState) (ends : List DoorEnd)
    → house.names ≡ names → house.limits ≡ standard_limits → HaveSessions session rounds ds
    → AllServed (λ (d : DoorState). d.out) mem_view house js ps ds ds' ends
    → All (λ (end : DoorEnd). (report : SessionReport) × HasFinished end report) ends → AreWorkers names rounds js session ps ends
all_workers house names rounds session js [] [] [] [] n l has it all = tt
all_workers house names rounds session js [] [] [] (end ∷ ends) n l has it all = absurd it
all_workers house names rounds session js [] [] (d' ∷ ds') ends n l has it all = absurd it
all_workers house names rounds session js [] (d ∷ ds) ds' ends n l has it all = absurd it
all_workers house names rounds session js (p ∷ ps) [] ds' ends n l has it all = absurd it
all_workers house names rounds session js (p ∷ ps) (d ∷ ds) [] ends n l has it all = absurd it
all_workers house names rounds session js (p ∷ ps) (d ∷ ds) (d' ∷ ds') [] n l has it all = absurd it
all_workers house names rounds session js (p ∷ ps) (d ∷ ds) (d' ∷ ds') (end ∷ ends) n l has it all =
    let first = all_head (λ (e : DoorEnd). (report : SessionReport) × HasFinished e report) end ends all in
    let here : IsWorker (ground house.names house.limits js (numbers p)) (journals p) session rounds end =
    finished (ground house.names house.limits js (numbers p)) (journals p) session rounds d d' end first.0 has.0 it.0.0 first.1 in (
      subst (λ (x : Limits). IsWorker (ground names x js (numbers p)) (journals p) session rounds end) l
          (subst (λ (x : List (List ℕ)). IsWorker (ground x house.limits js (numbers p)) (journals p) session rounds end) n here),
      all_workers house names rounds (suc session) js ps ds ds' ends n l has.1 it.1
          (all_tail (λ (e : DoorEnd). (report : SessionReport) × HasFinished e report) end ends all),
    )

-- served doors with the sessions, at which all finished
pub worked : (workers rounds : ℕ) (names : List (List ℕ)) (doors doors' : List DoorState) (end : HouseEnd) → names ≡ work_names workers
    → HaveSessions 0 rounds doors → length doors ≡ workers → ServesDoors names doors doors' end
    → All (λ (e : DoorEnd). (report : SessionReport) × HasFinished e report) end.doors.items → IsWorked workers rounds end
worked workers rounds names doors doors' end same has many run all = record {
  passes = run.passes;
  first = run.first;
  count = run.count ∙ many;
  finished = all_workers run.house (work_names workers) rounds 0 (lists end.closing.items) run.passes doors doors' end.doors.items (run.names ∙ same) run.limits has
      run.served all;
  whole = run.whole;
  each = run.each.0 ∙ ap length same ∙ length-work_names workers;
  counted = run.each.1 ∙ ap length same ∙ length-work_names workers;
}
