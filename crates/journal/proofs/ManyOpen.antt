-- Worked case: as many transactions are open as may be, and one more is refused. Computing it entry by entry would take too long, so it is an instance of what
-- holds of any limit.
use Rattle.std.proofs.Common.{◌≡◌, ℕ, zero, suc, ◌<◌, ◌≤◌, Bool, true, false, not, List, [], ◌∷◌, ◌++◌, length, filter, refl, sym, ◌∙◌, ap, cond, arith, length-append, nat_le}
use Rattle.std.specs.Prelude.{Some}
use Rattle.std.proofs.lemmas.Bool.Decides.{nat_tests}
use Rattle.journal.specs.declared.level.Level.{Level}
use Rattle.journal.specs.declared.level.Level.TheVariants.{Snapshot}
use Rattle.journal.specs.declared.txn.Txn.{Txn}
use Rattle.journal.specs.declared.op.Op.TheVariants.{Begin}
use Rattle.journal.specs.declared.entry.Entry.{Entry}
use Rattle.journal.specs.declared.limits.Limits.{Limits}
use Rattle.journal.specs.declared.reply.Reply.TheVariants as reply
use Rattle.journal.specs.Past.{Judged, ends, open_txns}
use Rattle.journal.specs.Replies.{is_accepted, is_refusal, reply_to}
use Rattle.journal.specs.Journal.{judged, judged_entry, reply_at, reply_next}
use Rattle.journal.proofs.ExampleParts.{entry, limits as standard, txn}
use Rattle.journal.proofs.Growth.{judged-push, length-judged, reply_at_the_end}
use Rattle.journal.proofs.Open.{open_txns-push}

-- so many Begins, one after the other
begins : Level → ℕ → List Entry
begins l zero = []
begins l (suc n) = begins l n ++ entry (Begin l) ∷ []

length-begins : (l : Level) (n : ℕ) → length (begins l n) ≡ n
unfolding begins
length-begins l zero = refl
length-begins l (suc n) =
    let before = length-begins l n in
    let longer = length-append (begins l n) (entry (Begin l) ∷ []) in
    omega arith

-- a Begin where fewer are open than may be
begun : (limits : Limits) (p : List Judged) (l : Level) → length (open_txns limits p) < limits.txns → reply_to limits p (entry (Begin l)) ≡ reply.Begun (txn (length p) l)
unfolding reply_to
begun limits p l room =
    let few : nat_le limits.txns (length (open_txns limits p)) ≡ false = grind (arith, nat_tests, room) in
    ap (λ b. cond b reply.TooManyOpen (reply.Begun (txn (length p) l))) few

begun_accepted : (limits : Limits) (p : List Judged) (l : Level) → length (open_txns limits p) < limits.txns → is_accepted limits p (entry (Begin l)) ≡ true
unfolding is_accepted
begun_accepted limits p l room = ap (λ r. not (is_refusal r)) (begun limits p l room)

-- it ends none
none_ended : (l : Level) (a : Bool) (ts : List Txn) → filter (λ t. not (ends t (record { entry = entry (Begin l); accepted = a }))) ts ≡ ts
none_ended l a [] = refl
none_ended l true (t ∷ ts) = ap (λ r. t ∷ r) (none_ended l true ts)
none_ended l false (t ∷ ts) = ap (λ r. t ∷ r) (none_ended l false ts)

-- each of the first ones is open
all_open : (limits : Limits) (l : Level) (n : ℕ) → n ≤ limits.txns → length (open_txns limits (judged limits (begins l n))) ≡ n
unfolding begins judged open_txns
all_open limits l zero le = refl
all_open limits l (suc n) le = one_more (all_open limits l n (omega arith)) (omega arith)
  where
    one_more : length (open_txns limits (judged limits (begins l n))) ≡ n → n < limits.txns → length (open_txns limits (judged limits (begins l n ++ entry (Begin l) ∷ []))) ≡ suc n
    one_more before room =
        let p : List Judged = judged limits (begins l n) in
        let e : Judged = judged_entry limits p (entry (Begin l)) in
        let free : length (open_txns limits p) < limits.txns = omega arith in
        let accepted : e.accepted ≡ true = begun_accepted limits p l free in
        let now : open_txns limits (judged limits (begins l n ++ entry (Begin l) ∷ [])) ≡ open_txns limits p ++ txn (length p) l ∷ [] =
        ap (open_txns limits) (judged-push limits (begins l n) (entry (Begin l)))
        ∙ (open_txns-push limits p e
        ∙ (λ i. none_ended l e.accepted (open_txns limits p) i ++ cond (accepted i) (txn (length p) l ∷ []) [])) in
        let long = ap (λ ts. length ts) now ∙ length-append (open_txns limits p) (txn (length p) l ∷ []) in
        omega (arith, long, before)

last_one : (limits : Limits) (l : Level) (n : ℕ) → n < limits.txns → reply_at limits (begins l (suc n)) n ≡ Some (reply.Begun (txn n l))
unfolding begins reply_next
last_one limits l n room =
    let p : List Judged = judged limits (begins l n) in
    let count = all_open limits l n (omega arith) in
    let place : length p ≡ n = length-judged limits (begins l n) ∙ length-begins l n in
    ap (reply_at limits (begins l n ++ entry (Begin l) ∷ [])) (sym (length-begins l n))
    ∙ (reply_at_the_end limits (begins l n) (entry (Begin l)) []
    ∙ ap Some (begun limits p l (omega arith) ∙ ap (λ k. reply.Begun (txn k l)) place))

one_too_many : (limits : Limits) (l : Level) (n : ℕ) → limits.txns ≡ n → reply_at limits (begins l (suc n)) n ≡ Some reply.TooManyOpen
unfolding begins reply_next reply_to
one_too_many limits l n all =
    let p : List Judged = judged limits (begins l n) in
    let count = all_open limits l n (omega arith) in
    let full : nat_le limits.txns (length (open_txns limits p)) ≡ true = grind (arith, nat_tests, count, all) in
    ap (reply_at limits (begins l n ++ entry (Begin l) ∷ [])) (sym (length-begins l n))
    ∙ (reply_at_the_end limits (begins l n) (entry (Begin l)) []
    ∙ ap (λ b. Some (cond b reply.TooManyOpen (reply.Begun (txn (length p) l)))) full)

-- with 1,024 transactions the last one is begun, and the next is refused
last_of_1024 : reply_at standard (begins Snapshot 1024) 1023 ≡ Some (reply.Begun (txn 1023 Snapshot))
last_of_1024 = last_one standard Snapshot 1023 (omega arith)

one_more_than_1024 : reply_at standard (begins Snapshot 1025) 1024 ≡ Some reply.TooManyOpen
one_more_than_1024 = one_too_many standard Snapshot 1024 refl
