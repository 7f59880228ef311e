-- A transaction is open exactly where it is among the open ones.
use Rattle.std.proofs.Common.{◌≡◌, ℕ, ◌+◌, ◌<◌, Bool, true, false, not, ◌&&◌, ◌||◌, List, [], ◌∷◌, ◌++◌, length, Some, refl, sym, ◌∙◌, ap, arith, length-append, cond, nat_eq, eqb-true, ltb-true, nat_lt}
use Rattle.std.specs.Prelude.{filter}
use Rattle.std.specs.List.{list_any}
use Rattle.std.proofs.lemmas.List.Folds.{list_any-append}
use Rattle.std.proofs.lemmas.Bool.Decides.{nat_tests}
use Rattle.journal.specs.declared.txn.Txn.{Txn}
use Rattle.journal.specs.declared.op.Op.{Op}
use Rattle.journal.specs.declared.op.Op.TheVariants.{Begin, Read, Step, Write, Commit, Rollback, Ping, Names}
use Rattle.journal.specs.declared.limits.Limits.{Limits}
use Rattle.journal.specs.Levels.{is_level, is_txn}
use Rattle.journal.specs.LevelLaws.{txn_is}
use Rattle.journal.specs.Laws.{TransactionIsAmongTheOpenOnes}
use Rattle.journal.specs.Past.{Judged, is_open, begins, ends, open_txns}
use Rattle.journal.proofs.Open.{by_push, is_open-push_old, is_open-push_new, is_open_late, open_txns-push, begun_now}

-- a test that fits only what passes q as b does
pub any-filter : {A : Type 0} (same q : A → Bool) (b : Bool) → ((u : A) → same u ≡ true → q u ≡ b) → (us : List A) → list_any same (filter q us) ≡ (list_any same us && b)
any-filter same q b h [] = refl
any-filter same q b h (u ∷ us) = go (same u) (q u) refl refl (any-filter same q b h us)
  where
    go : (s k : Bool) → same u ≡ s → q u ≡ k → list_any same (filter q us) ≡ (list_any same us && b) → list_any same (cond k (u ∷ filter q us) (filter q us)) ≡ ((s || list_any same us) && b)
    go true true is k ih = ap (λ x. x || list_any same (filter q us)) is ∙ (sym k ∙ h u is)
    go true false is k ih = ih ∙ (ap (λ x. list_any same us && x) (sym (h u is) ∙ k) ∙ (none (list_any same us) ∙ (sym k ∙ h u is)))
      where
        none : (a : Bool) → (a && false) ≡ false
        none true = refl
        none false = refl
    go false true is k ih = ap (λ x. x || list_any same (filter q us)) is ∙ ih
    go false false is k ih = ih

and-false : (a : Bool) → (a && false) ≡ false
and-false true = refl
and-false false = refl

none_begun : (t : Txn) (same accepted : Bool) → list_any (is_txn t) (cond accepted [] []) ≡ (same && (accepted && false))
none_begun t true true = refl
none_begun t true false = refl
none_begun t false true = refl
none_begun t false false = refl

begun_any : (t : Txn) (n seat : ℕ) (op : Op) (accepted : Bool) →
    let e : Judged = record { entry = record { seat = seat; op = op }; accepted = accepted } in
    list_any (is_txn t) (begun_now n e) ≡ (nat_eq t.place n && begins t (Some e))
begun_any t n seat (Begin l) true = or-false (nat_eq t.place n && is_level t.level l)
  where
    or-false : (a : Bool) → (a || false) ≡ a
    or-false true = refl
    or-false false = refl
begun_any t n seat (Begin l) false = sym (and-false (nat_eq t.place n))
begun_any t n seat (Read txn ask) accepted = none_begun t (nat_eq t.place n) accepted
begun_any t n seat (Step u query number) accepted = none_begun t (nat_eq t.place n) accepted
begun_any t n seat (Write txn changes) accepted = none_begun t (nat_eq t.place n) accepted
begun_any t n seat (Commit u) accepted = none_begun t (nat_eq t.place n) accepted
begun_any t n seat (Rollback u) accepted = none_begun t (nat_eq t.place n) accepted
begun_any t n seat (Ping u) accepted = none_begun t (nat_eq t.place n) accepted
begun_any t n seat (Names op) accepted = none_begun t (nat_eq t.place n) accepted

none_open : (limits : Limits) (t : Txn) → is_open limits [] t ≡ list_any (is_txn t) (open_txns limits [])
unfolding open_txns
none_open limits t = is_open_late limits [] t (omega arith)

or-false : (a : Bool) → (a || false) ≡ a
or-false true = refl
or-false false = refl

-- one entry's step, by where t's place is
one_more : (limits : Limits) (p : List Judged) (e : Judged) (t : Txn) → is_open limits p t ≡ list_any (is_txn t) (open_txns limits p) → is_open limits (p ++ e ∷ []) t ≡ list_any (is_txn t) (open_txns limits (p ++ e ∷ []))
one_more limits p e t ih = go (nat_eq t.place (length p)) (nat_lt t.place (length p)) refl refl ∙ sym whole
  where
    whole : list_any (is_txn t) (open_txns limits (p ++ e ∷ [])) ≡ ((is_open limits p t && not (ends t e)) || (nat_eq t.place (length p) && begins t (Some e)))
    whole =
        let a : list_any (is_txn t) (open_txns limits (p ++ e ∷ [])) ≡ (list_any (is_txn t) (filter (λ u. not (ends u e)) (open_txns limits p)) || list_any (is_txn t) (begun_now (length p) e)) = ap (list_any (is_txn t)) (open_txns-push limits p e) ∙ list_any-append (is_txn t) (filter (λ u. not (ends u e)) (open_txns limits p)) (begun_now (length p) e) in
        let b : list_any (is_txn t) (filter (λ u. not (ends u e)) (open_txns limits p)) ≡ (list_any (is_txn t) (open_txns limits p) && not (ends t e)) = any-filter (is_txn t) (λ u. not (ends u e)) (not (ends t e)) (λ u same. ap (λ v. not (ends v e)) (sym (txn_is t u same))) (open_txns limits p) in
        let c : list_any (is_txn t) (begun_now (length p) e) ≡ (nat_eq t.place (length p) && begins t (Some e)) = begun_any t (length p) e.entry.seat e.entry.op e.accepted in
        a ∙ (ap (λ x. x || list_any (is_txn t) (begun_now (length p) e)) (b ∙ ap (λ x. x && not (ends t e)) (sym ih)) ∙ ap (λ x. (is_open limits p t && not (ends t e)) || x) c)

    go : (here before : Bool) → nat_eq t.place (length p) ≡ here → nat_lt t.place (length p) ≡ before → is_open limits (p ++ e ∷ []) t ≡ ((is_open limits p t && not (ends t e)) || (nat_eq t.place (length p) && begins t (Some e)))
    go true before is lt =
        let at : t.place ≡ length p = eqb-true t.place (length p) is in
        let late : is_open limits p t ≡ false = is_open_late limits p t (omega arith) in
        rw (is_open-push_new limits p e t at, late, is) refl
    go false true is lt =
        let old : t.place < length p = ltb-true t.place (length p) lt in
        rw (is_open-push_old limits p e t old, is) (sym (or-false (is_open limits p t && not (ends t e))))
    go false false is lt =
        let longer : length (p ++ e ∷ []) ≡ length p + 1 = length-append p (e ∷ []) in
        let above : length p < t.place = grind (arith, nat_tests) in
        let late : is_open limits p t ≡ false = is_open_late limits p t (omega arith) in
        rw (is_open_late limits (p ++ e ∷ []) t (omega arith), late, is) refl

-- a transaction is open exactly where it is among the open ones
pub is_open-among : (limits : Limits) (p : List Judged) (t : Txn) → is_open limits p t ≡ list_any (is_txn t) (open_txns limits p)
is_open-among limits = by_push (λ p. (t : Txn) → is_open limits p t ≡ list_any (is_txn t) (open_txns limits p)) (none_open limits) (λ p e ih t. one_more limits p e t (ih t))

pub transaction_is_among_the_open_ones : TransactionIsAmongTheOpenOnes
transaction_is_among_the_open_ones = is_open-among
