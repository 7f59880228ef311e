-- The transactions that are open, as one more entry leaves them.
use Rattle.std.proofs.Common.{◌≡◌, ℕ, ◌+◌, ◌<◌, ◌≤◌, Bool, true, false, not, ◌&&◌, ◌||◌, List, [], ◌∷◌, ◌++◌, length, drop, Some, refl, sym, ◌∙◌, ap, subst, arith, append_assoc, append-nil, length-append, cond, nat_lt, lt-ltb, drop_of_length-le}
use Rattle.std.specs.Prelude.{slice_get, if◌then◌else◌, filter}
use Rattle.std.specs.List.{list_any}
use Rattle.std.proofs.lemmas.List.{drop-append-le}
use Rattle.std.proofs.lemmas.List.Elements.{filter-append}
use Rattle.std.proofs.lemmas.List.Folds.{list_any-append}
use Rattle.std.proofs.lemmas.Bool.Decides.{nat_tests}
use Rattle.journal.specs.declared.txn.Txn.{Txn}
use Rattle.journal.specs.declared.op.Op.{Op}
use Rattle.journal.specs.declared.op.Op.TheVariants.{Begin, Read, Step, Write, Commit, Rollback, Ping, Names}
use Rattle.journal.specs.declared.limits.Limits.{Limits}
use Rattle.journal.specs.LevelLaws.{level_itself}
use Rattle.journal.specs.Laws.{OpenTransactionsInTurn}
use Rattle.journal.specs.Past.{Judged, joined_from, joined, is_open, begins, ends, open_txns, begun_by}
use Rattle.journal.proofs.Growth.{joined-push, slice_get-append_left, slice_get-append_at}

-- what holds of the empty list and is kept by one more item holds of every list
pub by_push : {A : Type 0} (M : List A → Type 0) → M [] → ((xs : List A) (x : A) → M xs → M (xs ++ x ∷ [])) → (xs : List A) → M xs
by_push {A} M none more xs = go [] none xs
  where
    go : (before : List A) → M before → (xs : List A) → M (before ++ xs)
    go before m [] = subst M (sym (append-nil before)) m
    go before m (x ∷ xs) = subst M (append_assoc before (x ∷ []) xs) (go (before ++ x ∷ []) (more before x m) xs)

still_open : (a c e : Bool) → (a && not (c || (e || false))) ≡ ((a && not c) && not e)
still_open true true e = refl
still_open true false true = refl
still_open true false false = refl
still_open false c e = refl

-- a transaction that began before the entry is open behind it where it was open and the entry doesn't end it
pub is_open-push_old : (limits : Limits) (p : List Judged) (e : Judged) (t : Txn) → t.place < length p → is_open limits (p ++ e ∷ []) t ≡ (is_open limits p t && not (ends t e))
unfolding is_open
is_open-push_old limits p e t lt =
    let longer = length-append p (e ∷ []) in
    let a : nat_lt t.place (length (p ++ e ∷ [])) ≡ true = lt-ltb t.place (length (p ++ e ∷ [])) (omega arith) in
    let b : nat_lt t.place (length p) ≡ true = lt-ltb t.place (length p) lt in
    let cut : drop (t.place + 1) (p ++ e ∷ []) ≡ drop (t.place + 1) p ++ e ∷ [] = drop-append-le (t.place + 1) p (e ∷ []) (omega arith) in
    rw (a, b, slice_get-append_left p (e ∷ []) t.place lt, cut, list_any-append (ends t) (drop (t.place + 1) p) (e ∷ [])) (still_open (begins t (slice_get p t.place)) (list_any (ends t) (drop (t.place + 1) p)) (ends t e))

and-true : (a : Bool) → (a && true) ≡ a
and-true true = refl
and-true false = refl

-- one that begins there
pub is_open-push_new : (limits : Limits) (p : List Judged) (e : Judged) (t : Txn) → t.place ≡ length p → is_open limits (p ++ e ∷ []) t ≡ begins t (Some e)
unfolding is_open
is_open-push_new limits p e t here =
    let longer = length-append p (e ∷ []) in
    let a : nat_lt t.place (length (p ++ e ∷ [])) ≡ true = lt-ltb t.place (length (p ++ e ∷ [])) (omega arith) in
    let got : slice_get (p ++ e ∷ []) t.place ≡ Some e = ap (λ n. slice_get (p ++ e ∷ []) n) here ∙ slice_get-append_at p e [] in
    let cut : drop (t.place + 1) (p ++ e ∷ []) ≡ [] = drop_of_length-le (p ++ e ∷ []) (omega arith) in
    rw (a, got, cut) (and-true (begins t (Some e)))

-- and one that begins later isn't open
pub is_open_late : (limits : Limits) (p : List Judged) (t : Txn) → length p ≤ t.place → is_open limits p t ≡ false
unfolding is_open
is_open_late limits p t le =
    let a : nat_lt t.place (length p) ≡ false = grind (arith, nat_tests) in
    rw a refl

-- The list of open transactions

abbrev begun_from : List Judged → List Judged → List Txn
begun_from before past = joined_from before (λ b e. begun_by (length b) e.entry.op) past

abbrev begun : List Judged → List Txn
begun past = joined (λ b e. begun_by (length b) e.entry.op) past

-- each place is below n
abbrev pub AllBelow : ℕ → List Txn → Type 0
AllBelow n [] = Unit {0}
AllBelow n (t ∷ ts) = (t.place < n) × AllBelow n ts

pub more_below : (m n : ℕ) → m ≤ n → (ts : List Txn) → AllBelow m ts → AllBelow n ts
more_below m n le [] h = tt
more_below m n le (t ∷ ts) h = (omega (arith, h.0), more_below m n le ts h.1)

below-append : (n : ℕ) (ts us : List Txn) → AllBelow n ts → AllBelow n us → AllBelow n (ts ++ us)
below-append n [] us h k = k
below-append n (t ∷ ts) us h k = (h.0, below-append n ts us h.1 k)

begun_here : (n : ℕ) (op : Op) → AllBelow (n + 1) (begun_by n op)
begun_here n (Begin l) = (omega arith, tt)
begun_here n (Read txn ask) = tt
begun_here n (Step t query number) = tt
begun_here n (Write txn changes) = tt
begun_here n (Commit t) = tt
begun_here n (Rollback t) = tt
begun_here n (Ping t) = tt
begun_here n (Names names) = tt

pub begun_below : (p : List Judged) → AllBelow (length p) (begun p)
begun_below = by_push (λ p. AllBelow (length p) (begun p)) tt (λ p e h.
    let longer : length (p ++ e ∷ []) ≡ length p + 1 = length-append p (e ∷ []) in
    subst (λ n. AllBelow n (begun (p ++ e ∷ []))) (sym longer) (
    subst (AllBelow (length p + 1)) (sym (joined-push (λ b e. begun_by (length b) e.entry.op) p e)) (
    below-append (length p + 1) (begun p) (begun_by (length p) e.entry.op) (more_below (length p) (length p + 1) (omega arith) (begun p) h) (begun_here (length p) e.entry.op))))

-- those open before that the entry doesn't end
kept : (limits : Limits) (p : List Judged) (e : Judged) (ts : List Txn) → AllBelow (length p) ts → filter (is_open limits (p ++ e ∷ [])) ts ≡ filter (λ t. not (ends t e)) (filter (is_open limits p) ts)
kept limits p e [] h = refl
kept limits p e (t ∷ ts) h = rw (is_open-push_old limits p e t h.0) (go (is_open limits p t) (kept limits p e ts h.1))
  where
    go : (o : Bool) → filter (is_open limits (p ++ e ∷ [])) ts ≡ filter (λ t. not (ends t e)) (filter (is_open limits p) ts)
        → cond (o && not (ends t e)) (t ∷ filter (is_open limits (p ++ e ∷ [])) ts) (filter (is_open limits (p ++ e ∷ [])) ts)
        ≡ filter (λ t. not (ends t e)) (cond o (t ∷ filter (is_open limits p) ts) (filter (is_open limits p) ts))
    go true ih = ap (λ r. cond (not (ends t e)) (t ∷ r) r) ih
    go false ih = ih

neither : (b : Bool) → [] ≡ cond b [] (let ts : List Txn = [] in ts)
neither true = refl
neither false = refl

-- the transaction that an accepted entry begins
abbrev pub begun_now : ℕ → Judged → List Txn
begun_now n e = if e.accepted then begun_by n e.entry.op else []

begun_is_open : (limits : Limits) (p : List Judged) (seat : ℕ) (op : Op) (accepted : Bool) →
    let e : Judged = record { entry = record { seat = seat; op = op }; accepted = accepted } in
    filter (is_open limits (p ++ e ∷ [])) (begun_by (length p) e.entry.op) ≡ begun_now (length p) e
begun_is_open limits p seat (Begin l) accepted =
    let e : Judged = record { entry = record { seat = seat; op = Begin l }; accepted = accepted } in
    let t : Txn = record { place = length p; level = l } in
    let is : is_open limits (p ++ e ∷ []) t ≡ accepted = is_open-push_new limits p e t refl ∙ (ap (λ b. accepted && b) (level_itself l) ∙ and-true accepted) in
    ap (λ b. cond b (t ∷ []) []) is
begun_is_open limits p seat (Read txn ask) accepted = neither accepted
begun_is_open limits p seat (Step t query number) accepted = neither accepted
begun_is_open limits p seat (Write txn changes) accepted = neither accepted
begun_is_open limits p seat (Commit t) accepted = neither accepted
begun_is_open limits p seat (Rollback t) accepted = neither accepted
begun_is_open limits p seat (Ping t) accepted = neither accepted
begun_is_open limits p seat (Names op) accepted = neither accepted

pub open_txns-push : (limits : Limits) (p : List Judged) (e : Judged) → open_txns limits (p ++ e ∷ []) ≡ filter (λ t. not (ends t e)) (open_txns limits p) ++ begun_now (length p) e
unfolding open_txns
open_txns-push limits p e =
    ap (filter (is_open limits (p ++ e ∷ []))) (joined-push (λ b e. begun_by (length b) e.entry.op) p e)
    ∙ (filter-append (is_open limits (p ++ e ∷ [])) (begun p) (begun_by (length p) e.entry.op)
    ∙ (ap (λ r. r ++ filter (is_open limits (p ++ e ∷ [])) (begun_by (length p) e.entry.op)) (kept limits p e (begun p) (begun_below p))
    ∙ ap (λ r. filter (λ t. not (ends t e)) (filter (is_open limits p) (begun p)) ++ r) (begun_is_open limits p e.entry.seat e.entry.op e.accepted)))

pub open_transactions_in_turn : OpenTransactionsInTurn
open_transactions_in_turn = open_txns-push
