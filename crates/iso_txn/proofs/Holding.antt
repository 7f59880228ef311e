-- A repository with one more entry.
use Rattle.std.proofs.Common.{◌≡◌, ℕ, ◌+◌, ◌<◌, ◌≤◌, ◌^◌, ◌-◌, Bool, true, false, ◌&&◌, List, [], ◌∷◌, ◌++◌, length, refl, sym, ap, subst, ◌∙◌, arith, length-append, cond, count_by, nat_le}
use Rattle.std.specs.List.{sum_by}
use Rattle.std.proofs.lemmas.List.Sums.{sum_by-cons}
use Rattle.std.proofs.lemmas.Bool.Decides.{nat_tests}
use Rattle.journal.specs.declared.txn.Txn.{Txn}
use Rattle.journal.specs.declared.entry.Entry.{Entry}
use Rattle.journal.specs.declared.limits.Limits.{Limits}
use Rattle.journal.specs.declared.reply.Reply.{Reply}
use Rattle.journal.specs.Alone.{ReadsAsIfAlone}
use Rattle.journal.specs.Past.{Judged}
use Rattle.journal.specs.Journal.{commits_in, is_commit, judged, reply_next}
use Rattle.journal.proofs.Growth.{length-judged}
use Rattle.iso_txn.specs.Kept.{Kept, Standing, nothing_kept}
use Rattle.iso_txn.specs.Held.{Holds}
use Rattle.iso_txn.specs.Repository.{AreAllowed, Repository, next_reply, with_entry}
use Rattle.iso_txn.specs.Watch.{AllBefore, IsEmptyUnwatched, IsReady, Watches}
use Rattle.iso_txn.proofs.Steps.{stands_none}
use Rattle.iso_txn.proofs.WatchGrowth.{ready, watches_none}

-- Accepted Commits are entries

count-le : {A : Type 0} (test : A → Bool) (xs : List A) → count_by test xs ≤ length xs
count-le test [] = omega arith
count-le test (x ∷ xs) = go (test x) (sum_by-cons (λ y. cond (test y) 1 0) x xs) (count-le test xs)
  where
    go : (b : Bool) → sum_by (λ y. cond (test y) 1 0) (x ∷ xs) ≡ cond b 1 0 + sum_by (λ y. cond (test y) 1 0) xs → count_by test xs ≤ length xs → count_by test (x ∷ xs) ≤ length (x ∷ xs)
    go true e ih = omega (arith, e, ih)
    go false e ih = omega (arith, e, ih)

pub commits-le : (l : Limits) (J : List Entry) → commits_in l J ≤ length J
unfolding commits_in
commits-le l J = subst (λ n. commits_in l J ≤ n) (length-judged l J) (count-le (λ (e : Judged). e.accepted && is_commit e.entry.op) (judged l J))

module _ (l : Limits) (n : ℕ) (J : List Entry) (k : Kept) (h : Holds l n J k) where
  pub commits_small : length J < l.places → k.commits < 2 ^ 62
  commits_small room =
      let few : k.commits ≤ length J = subst (λ c. c ≤ length J) (sym h.stands.commits_are) (commits-le l J) in
      let most = h.allowed.places.1 in
      omega arith

  -- what is kept is ready for the next entry, at the place that is counted
  pub ready_now : IsReady n k.watch
  ready_now = subst (λ n. IsReady n k.watch) (sym h.count_is) (ready l J k.watch h.watches)

  -- all that is kept of changes is below the next entry
  pub changed_below : AllBefore (length J) k.watch.changed
  changed_below = (ready l J k.watch h.watches).below

  pub place_small : length J < l.places → n < 2 ^ 62
  place_small room =
      let same = h.count_is in
      let most = h.allowed.places.1 in
      omega arith

  pub count_small : length J < l.places → n < 2 ^ 64 - 1
  count_small room =
      let same = h.count_is in
      let most = h.allowed.places.1 in
      omega arith

  -- a repository as a call leaves it
  pub holds_noted : (e e' : Entry) (n' : ℕ) (J' : List Entry) (k' next : Kept) → length J < l.places → e' ≡ e → n' ≡ n + 1 → J' ≡ J ++ e' ∷ [] → k' ≡ next
      → Standing l (J ++ e ∷ []) next → Watches l (judged l (J ++ e ∷ [])) next.watch → IsEmptyUnwatched next.watch → Holds l n' J' k'
  holds_noted e e' n' J' k' next room is counted noted left stands watches idle =
      let same : J' ≡ J ++ e ∷ [] = noted ∙ ap (λ e. J ++ e ∷ []) is in
      let longer : length (J ++ e ∷ []) ≡ length J + 1 = length-append J (e ∷ []) in
      record {
        allowed = h.allowed;
        count_is = counted ∙ (ap (λ n. n + 1) h.count_is ∙ (sym longer ∙ ap length (sym same)));
        fits = subst (λ (J : List Entry). length J ≤ l.places) (sym same) (omega arith);
        stands = subst (λ J. Standing l J k') (sym same) (subst (Standing l (J ++ e ∷ [])) (sym left) stands);
        watches = subst (λ J. Watches l (judged l J) k'.watch) (sym same) (subst (λ (k : Kept). Watches l (judged l (J ++ e ∷ [])) k.watch) (sym left) watches);
        idle = subst (λ (k : Kept). IsEmptyUnwatched k.watch) (sym left) idle;
      }

-- there is room for one more entry where the journal isn't full
pub room_left : (l : Limits) (J : List Entry) (old : Repository) (full : Bool) → (let r : Repository = record { limits = l; journal = J } in r) ≡ old → full ≡ nat_le old.limits.places (length old.journal) → full ≡ false
    → length J < l.places
room_left l J old full view is room =
    let tested : nat_le l.places (length J) ≡ false = ap (λ (r : Repository). nat_le r.limits.places (length r.journal)) view ∙ (sym is ∙ room) in
    grind (arith, nat_tests)

-- the value that callers see
pub noted_entry : (l : Limits) (J J' : List Entry) (e e' : Entry) (old : Repository) → (let r : Repository = record { limits = l; journal = J } in r) ≡ old → e' ≡ e → J' ≡ J ++ e' ∷ []
    → (let r : Repository = record { limits = l; journal = J' } in r) ≡ with_entry old e
noted_entry l J J' e e' old view is noted =
    ap (λ J. let r : Repository = record { limits = l; journal = J } in r) (noted ∙ ap (λ e. J ++ e ∷ []) is) ∙ ap (λ (r : Repository). with_entry r e) view

pub answered_entry : (l : Limits) (J : List Entry) (e : Entry) (old : Repository) (r s : Reply) → (let r : Repository = record { limits = l; journal = J } in r) ≡ old → reply_next l J e ≡ s → r ≡ s → r ≡ next_reply old e
answered_entry l J e old r s view is given = given ∙ (sym is ∙ ap (λ (r : Repository). next_reply r e) view)

-- what callers see of the reads of a transaction that commits by the entry
pub alone_noted : (l : Limits) (J J' : List Entry) (e e' : Entry) (t : Txn) (old : Repository) → (let r : Repository = record { limits = l; journal = J } in r) ≡ old → e' ≡ e → J' ≡ J ++ e' ∷ []
    → ReadsAsIfAlone l (J ++ e ∷ []) t (length J) → ReadsAsIfAlone old.limits J' t (length old.journal)
alone_noted l J J' e e' t old view is noted alone =
    subst (λ (r : Repository). ReadsAsIfAlone r.limits J' t (length r.journal)) view
    (subst (λ J'. ReadsAsIfAlone l J' t (length J)) (sym (noted ∙ ap (λ e. J ++ e ∷ []) is)) alone)

-- a new repository
pub holds_none : (l : Limits) → AreAllowed l → (J : List Entry) (k : Kept) → J ≡ [] → k ≡ nothing_kept → Holds l 0 J k
holds_none l allowed J k empty nothing =
    let none : Holds l 0 [] nothing_kept = record { allowed = allowed; count_is = refl; fits = omega arith; stands = stands_none l; watches = watches_none l; idle = λ none. refl } in
    subst (λ J. Holds l 0 J k) (sym empty) (subst (Holds l 0 []) (sym nothing) none)
