-- Jobs, one more at the end.
use Rattle.std.proofs.Common.{◌≡◌, ℕ, zero, suc, ◌≤◌, ◌<◌, Bool, false, List, [], ◌∷◌, ◌++◌, length, Option, Some, IsSome, slice_index_or, refl, sym, ◌∙◌, ap, subst, arith, take, drop, append-nil, take_all}
use Rattle.std.proofs.Math.ListN.{drop_of_length-le}
use Rattle.std.specs.Prelude.{map, All}
use Rattle.std.proofs.lemmas.List.{map-append}
use Rattle.shared_repo.specs.Passes.{RepoPass}
use Rattle.shared_session.specs.Houses.{AllOf, House, IsOf}
use Rattle.shared_session.specs.declared.passes.Passes.{Passes}
use Rattle.worker_pool.specs.Jobs.{AreDone, AreJobs, AreParted, HaveEnded, IsDone, IsReady, rows_of}
use Rattle.worker_pool.specs.Served.{DoorView}
use Rattle.worker_pool.specs.declared.door_end.DoorEnd.{DoorEnd}
use Rattle.worker_pool.specs.declared.jobs.Job.{Job}

-- a Vec whose slice was lent whole has the items that the slice has
pub slice_back : {A : Type 0} (n : ℕ) (new old : List A) → length new ≡ length old → n ≡ length old → take n (new ++ drop (length new) old) ≡ new
slice_back n new old e f =
    ap (λ z. take n (new ++ z)) (drop_of_length-le old (omega (arith, e))) ∙ ap (take n) (append-nil new) ∙ take_all n new (omega (arith, e, f))

module _ {D : Type 0} where
  pub jobs_more : (ds : List D) (ps : List Passes) (js : List (Job D)) (d : D) (p : Passes) (j : Job D) → AreJobs ds ps js
      → j.door ≡ d → j.passes ≡ p → AreJobs (ds ++ d ∷ []) (ps ++ p ∷ []) (js ++ j ∷ [])
  jobs_more [] [] [] d p j s e f = ((e, f), tt)
  jobs_more [] [] (b ∷ js) d p j s e f = absurd s
  jobs_more [] (q ∷ ps) js d p j s e f = absurd s
  jobs_more (a ∷ ds) [] js d p j s e f = absurd s
  jobs_more (a ∷ ds) (q ∷ ps) [] d p j s e f = absurd s
  jobs_more (a ∷ ds) (q ∷ ps) (b ∷ js) d p j s e f = (s.0, jobs_more ds ps js d p j s.1 e f)

  pub jobs_count : (ds : List D) (ps : List Passes) (js : List (Job D)) → AreJobs ds ps js → length js ≡ length ds
  jobs_count [] [] [] s = refl
  jobs_count [] [] (b ∷ js) s = absurd s
  jobs_count [] (q ∷ ps) js s = absurd s
  jobs_count (a ∷ ds) [] js s = absurd s
  jobs_count (a ∷ ds) (q ∷ ps) [] s = absurd s
  jobs_count (a ∷ ds) (q ∷ ps) (b ∷ js) s = ap suc (jobs_count ds ps js s.1)

  pub parted_more : (js : List (Job D)) (ds : List D) (es : List DoorEnd) (j : Job D) (d : D) (e : DoorEnd) → AreParted js ds es
      → d ≡ j.door → j.end ≡ Some e → AreParted (js ++ j ∷ []) (ds ++ d ∷ []) (es ++ e ∷ [])
  parted_more [] [] [] j d e s g f = ((g, f), tt)
  parted_more [] [] (b ∷ es) j d e s g f = absurd s
  parted_more [] (a ∷ ds) es j d e s g f = absurd s
  parted_more (k ∷ js) [] es j d e s g f = absurd s
  parted_more (k ∷ js) (a ∷ ds) [] j d e s g f = absurd s
  parted_more (k ∷ js) (a ∷ ds) (b ∷ es) j d e s g f = (s.0, parted_more js ds es j d e s.1 g f)

  pub parted_count : (js : List (Job D)) (ds : List D) (es : List DoorEnd) → AreParted js ds es → (length ds ≡ length js) × (length es ≡ length js)
  parted_count [] [] [] s = (refl, refl)
  parted_count [] [] (b ∷ es) s = absurd s
  parted_count [] (a ∷ ds) es s = absurd s
  parted_count (k ∷ js) [] es s = absurd s
  parted_count (k ∷ js) (a ∷ ds) [] s = absurd s
  parted_count (k ∷ js) (a ∷ ds) (b ∷ es) s = let r = parted_count js ds es s.1 in (ap suc r.0, ap suc r.1)

  pub ended_parts : (house : House) (js : List (Job D)) (j : Job D) → HaveEnded house (js ++ j ∷ []) → HaveEnded house js × (IsOf house j.passes × IsSome j.end)
  ended_parts house [] j h = (tt, h.0)
  ended_parts house (k ∷ js) j h = let r = ended_parts house js j h.1 in ((h.0, r.0), r.1)

  pub rows_more : (js : List (Job D)) (j : Job D) → rows_of (js ++ j ∷ []) ≡ rows_of js ++ j.passes.list.items ∷ []
  rows_more js j = map-append (λ (k : Job D). k.passes.list.items) js (j ∷ [])

  pub rows_count : (js : List (Job D)) → length (rows_of js) ≡ length js
  rows_count [] = refl
  rows_count (j ∷ js) = ap suc (rows_count js)

  pub ready_all : (out : D → Bool) (house : House) (ds : List D) (ps : List Passes) (js : List (Job D)) → AreJobs ds ps js → AllOf house ps
      → All (λ (d : D). out d ≡ false) ds → All (IsReady out house) js
  ready_all out house ds ps [] a b c = λ k d l. absurd (omega (arith, l))
  ready_all out house [] [] (j ∷ js) a b c = absurd a
  ready_all out house [] (p ∷ ps) (j ∷ js) a b c = absurd a
  ready_all out house (e ∷ ds) [] (j ∷ js) a b c = absurd a
  ready_all out house (e ∷ ds) (p ∷ ps) (j ∷ js) a b c = at (ready_all out house ds ps js a.1 b.1 (λ k d l. c (suc k) d (omega (arith, l)))) where
    at : All (IsReady out house) js → (k : ℕ) (d : Job D) → k < length (j ∷ js) → IsReady out house (slice_index_or (j ∷ js) k d)
    at rest zero d l = (subst (λ (z : Passes). IsOf house z) (sym a.0.1) b.0, ap out a.0.0 ∙ c 0 e (omega arith))
    at rest (suc k) d l = rest k d (omega (arith, l))

module _ {D : Type 0} (out : D → Bool) (tells : D → DoorView) where
  pub done_each : (house : House) (js ks : List (Job D)) → length js ≡ length ks
      → ((i : ℕ) (d : Job D) → i < length js → IsDone out tells house (slice_index_or js i d) (slice_index_or ks i d)) → AreDone out tells house js ks
  done_each house [] [] n h = tt
  done_each house [] (k ∷ ks) n h = absurd (omega (arith, n))
  done_each house (j ∷ js) [] n h = absurd (omega (arith, n))
  done_each house (j ∷ js) (k ∷ ks) n h = (h 0 j (omega arith), done_each house js ks (omega (arith, n)) (λ i d l. h (suc i) d (omega (arith, l))))

  pub ended_done : (house : House) (js ks : List (Job D)) → AreDone out tells house js ks → HaveEnded house ks
  ended_done house [] [] h = tt
  ended_done house [] (k ∷ ks) h = absurd h
  ended_done house (j ∷ js) [] h = absurd h
  ended_done house (j ∷ js) (k ∷ ks) h = ((h.0.0, subst (λ (o : Option DoorEnd). IsSome o) (sym h.0.4) refl), ended_done house js ks h.1)
