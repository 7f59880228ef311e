-- Counts of a door.
use Rattle.std.proofs.Common.{◌≡◌, ℕ, zero, suc, ◌+◌, ◌<◌, Bool, true, false, List, [], ◌∷◌, ◌++◌, length, refl, sym, ◌∙◌, ap, arith, length-append}
use Rattle.std.specs.Prelude.{count_by, nat_lt, if◌then◌else◌}
use Rattle.std.proofs.lemmas.List.Sums.{sum_by-append}
use Rattle.rdf_io.specs.Causes.{one_more}
use Rattle.rdf_io.specs.Doors.{with_broken}
use Rattle.session.specs.Causes.{Caused}
use Rattle.session.specs.declared.report.SessionReport.{SessionReport}
use Rattle.worker_pool.specs.Doors.{count_after}

-- so many more, and then some more
pub after_more : (before m n k : ℕ) → k ≡ m + n → count_after (count_after before m) n ≡ count_after before k
after_more before m zero k e = let same : m ≡ k = omega (arith, e) in ap (λ (i : ℕ). count_after before i) same
after_more before m (suc n) zero e = absurd (omega (arith, e))
after_more before m (suc n) (suc k) e = let less : k ≡ m + n = omega (arith, e) in ap one_more (after_more before m n k less)

-- a count after one more list of what is counted by its length
pub given_more : (before now new : ℕ) (rs rs' : List SessionReport) (r : SessionReport) → now ≡ count_after before (length rs)
    → new ≡ count_after now (length (r ∷ [])) → rs' ≡ rs ++ r ∷ [] → new ≡ count_after before (length rs')
given_more before now new rs rs' r e f h =
    f ∙ ap (λ (n : ℕ). count_after n (length (r ∷ []))) e
    ∙ after_more before (length rs) (length (r ∷ [])) (length rs') (ap length h ∙ length-append rs (r ∷ []))

-- and of what is counted by a test
pub faults_more : (test : SessionReport → Bool) (before now new : ℕ) (rs rs' : List SessionReport) (r : SessionReport) → now ≡ count_after before (count_by test rs)
    → new ≡ count_after now (count_by test (r ∷ [])) → rs' ≡ rs ++ r ∷ [] → new ≡ count_after before (count_by test rs')
faults_more test before now new rs rs' r e f h =
    f ∙ ap (λ (n : ℕ). count_after n (count_by test (r ∷ []))) e
    ∙ after_more before (count_by test rs) (count_by test (r ∷ [])) (count_by test rs')
    (ap (λ (z : List SessionReport). count_by test z) h ∙ sum_by-append (λ x. if test x then 1 else 0) rs (r ∷ []))

-- what came back had failed exactly where its report says so
pub broken_one : (test : SessionReport → Bool) (r : SessionReport) (faults faults' count : ℕ) → faults ≡ 0 → Caused (test r) faults faults'
    → with_broken faults' count ≡ count_after count (count_by test (r ∷ []))
broken_one test r faults faults' count e c = go (test r) refl c where
  above : (a b : ℕ) → a < b → nat_lt a b ≡ true
  above a b l = grind (arith, l)

  go : (b : Bool) → test r ≡ b → Caused b faults faults' → with_broken faults' count ≡ count_after count (count_by test (r ∷ []))
  go true is d = let more : 0 < faults' = omega (arith, e, d.1) in rw (is, above 0 faults' more) refl
  go false is d = let none : faults' ≡ 0 = d ∙ e in rw (is, none) refl
