-- Entries that commit nothing, transactions that begin later, and replies that name no transaction.
use Rattle.std.proofs.Common.{◌≡◌, ℕ, ◌<◌, ◌≤◌, Bool, true, false, not, ◌&&◌, ◌||◌, List, [], ◌∷◌, ◌++◌, length, filter, refl, sym, ◌∙◌, ap, cond, length-append, true≢false, arith}
use Rattle.std.specs.Prelude.{Option, Some, None}
use Rattle.std.specs.Ordering.{is_eq}
use Rattle.std.proofs.lemmas.Cmp.{tied_itself}
use Rattle.rdf_term.specs.Statement.{Statement}
use Rattle.rdf_term.specs.Order.{quad_cmp}
use Rattle.rdf_term.specs.OrderLaws.{quad_total}
use Rattle.rdf_term.proofs.SetLemmas.{has}
use Rattle.change_set.specs.declared.change.Change.{Change}
use Rattle.change_set.proofs.Contents.{has-filter}
use Rattle.query_model.specs.declared.found.Found.{Found}
use Rattle.query_model.specs.declared.found.Found.TheVariants as answer
use Rattle.query_model.specs.Found as query
use Rattle.journal.specs.declared.level.Level.TheVariants.{Serializable}
use Rattle.journal.specs.declared.txn.Txn.{Txn}
use Rattle.journal.specs.declared.ask.Ask.{Ask}
use Rattle.journal.specs.declared.ask.Ask.TheVariants as ask
use Rattle.journal.specs.declared.op.Op.{Op}
use Rattle.journal.specs.declared.op.Op.TheVariants.{Begin, Read, Step, Write, Commit, Rollback, Ping, Names}
use Rattle.journal.specs.declared.entry.Entry.{Entry}
use Rattle.journal.specs.declared.limits.Limits.{Limits}
use Rattle.journal.specs.declared.reply.Reply.TheVariants as reply
use Rattle.journal.specs.Levels.{is_txn}
use Rattle.journal.specs.LevelLaws.{txn_is}
use Rattle.journal.specs.Past.{Judged, is_open, own_changes, written}
use Rattle.journal.specs.Committed.{applied_changes, committed}
use Rattle.journal.specs.Found.{answer_of, found}
use Rattle.journal.specs.Conflicts.{delta_at, differing, is_in}
use Rattle.journal.specs.Replies.{is_accepted}
use Rattle.journal.specs.Journal.{entry_of, judged, judged_entry}
use Rattle.journal.specs.SerialLaws.{renamed_reply}
use Rattle.journal.proofs.Growth.{committed-same, judged-push, length-judged}
use Rattle.journal.proofs.Open.{by_push}
use Rattle.journal.proofs.Turns.{own_changes_in_turn}
use Rattle.journal.proofs.AloneReads.{open_parts}
use Rattle.journal.proofs.SerialOrder.{named_open}

-- Deltas of entries that commit nothing

-- a list with no member is empty
no_member : (qs : List Statement) → ((q : Statement) → has quad_cmp qs q ≡ false) → qs ≡ []
no_member [] h = refl
no_member (y ∷ ys) h =
    let self : has quad_cmp (y ∷ ys) y ≡ true = λ i. is_eq (tied_itself quad_total y i) || has quad_cmp ys y in
    absurd (true≢false (sym self ∙ h y))

differing_itself : (qs : List Statement) → differing qs qs ≡ []
differing_itself qs = λ i. nothing i ++ nothing i
  where
    apart : (b : Bool) → (b && not b) ≡ false
    apart true = refl
    apart false = refl

    nothing : filter (λ q. not (is_in qs q)) qs ≡ []
    nothing = no_member (filter (λ q. not (is_in qs q)) qs) (λ q. has-filter (λ q. not (is_in qs q)) qs q ∙ apart (has quad_cmp qs q))

pub idle_delta : (limits : Limits) (p : List Judged) (e : Judged) → applied_changes limits p e ≡ [] → delta_at limits p e ≡ []
unfolding delta_at
idle_delta limits p e none = ap (differing (committed limits p)) (committed-same limits p e none) ∙ differing_itself (committed limits p)

-- Transactions that begin later wrote nothing

-- the SERIALIZABLE transaction of a place
abbrev pub at_place : ℕ → Txn
at_place n = record { place = n; level = Serializable }

pub neither : {A : Type 0} (b : Bool) → cond b [] (let xs : List A = [] in xs) ≡ []
neither true = refl
neither false = refl

own_one : (limits : Limits) (J : List Entry) (n : ℕ) → length J ≤ n → (seat : ℕ) (op : Op) → own_changes limits (judged_entry limits (judged limits J) (entry_of seat op) ∷ []) (at_place n) ≡ []
unfolding own_changes
own_one limits J n le seat op = ap (λ c. c ++ []) (at op)
  where
    late : (v : Txn) → is_txn (at_place n) v ≡ true → is_open limits (judged limits J) v ≡ true → ⊥
    late v same is =
        let e : n ≡ v.place = ap (λ (w : Txn). w.place) (txn_is (at_place n) v same) in
        let lt : v.place < length (judged limits J) = (open_parts limits (judged limits J) v is).0 in
        let long = length-judged limits J in
        omega arith

    one : (v : Txn) (changes : List Change) (a s : Bool) → is_accepted limits (judged limits J) (entry_of seat (Write (Some v) changes)) ≡ a → is_txn (at_place n) v ≡ s → cond a (cond s changes []) [] ≡ []
    one v changes true true accepted same = absurd (late v same (named_open limits (judged limits J) seat (Write (Some v) changes) v accepted refl))
    one v changes true false accepted same = refl
    one v changes false s accepted same = refl

    at : (op : Op) → cond (is_accepted limits (judged limits J) (entry_of seat op)) (written (at_place n) op) [] ≡ []
    at (Write (Some v) changes) = one v changes (is_accepted limits (judged limits J) (entry_of seat (Write (Some v) changes))) (is_txn (at_place n) v) refl refl
    at (Write None changes) = neither (is_accepted limits (judged limits J) (entry_of seat (Write None changes)))
    at (Begin l) = neither (is_accepted limits (judged limits J) (entry_of seat (Begin l)))
    at (Read txn ask) = neither (is_accepted limits (judged limits J) (entry_of seat (Read txn ask)))
    at (Step v query number) = neither (is_accepted limits (judged limits J) (entry_of seat (Step v query number)))
    at (Commit v) = neither (is_accepted limits (judged limits J) (entry_of seat (Commit v)))
    at (Rollback v) = neither (is_accepted limits (judged limits J) (entry_of seat (Rollback v)))
    at (Ping v) = neither (is_accepted limits (judged limits J) (entry_of seat (Ping v)))
    at (Names names) = neither (is_accepted limits (judged limits J) (entry_of seat (Names names)))

own_none : (limits : Limits) (n : ℕ) → own_changes limits (judged limits []) (at_place n) ≡ []
unfolding own_changes judged
own_none limits n = refl

pub own_late : (limits : Limits) (J : List Entry) (n : ℕ) → length J ≤ n → own_changes limits (judged limits J) (at_place n) ≡ []
own_late limits = by_push (λ J. (n : ℕ) → length J ≤ n → own_changes limits (judged limits J) (at_place n) ≡ []) (λ n le. own_none limits n) (λ J e ih n le.
    let longer = length-append J (e ∷ []) in
    let shorter : length J ≤ n = omega arith in
    ap (λ p. own_changes limits p (at_place n)) (judged-push limits J e)
    ∙ (own_changes_in_turn limits (judged limits J) (judged_entry limits (judged limits J) e) (at_place n)
    ∙ (λ i. ih n shorter i ++ own_one limits J n shorter e.seat e.op i)))

-- Replies that name no transaction are renamed to themselves

unnamed_answer : (u : Txn) (o : Option Found) → renamed_reply u (answer_of o) ≡ answer_of o
unnamed_answer u None = refl
unnamed_answer u (Some (answer.Table table)) = refl
unnamed_answer u (Some (answer.Truth truth)) = refl
unnamed_answer u (Some (answer.Quads quads)) = refl

pub unnamed_found : (u : Txn) (a : Ask) (views : List (List Statement)) (most : ℕ) → renamed_reply u (found a views most) ≡ found a views most
unfolding found
unnamed_found u (ask.Query q) views most = unnamed_answer u (query.found q views most)
unnamed_found u (ask.List s p o contexts) views most = refl
unnamed_found u (ask.Size contexts) views most = refl
unnamed_found u ask.Contexts views most = refl

pub unnamed_done : (u : Txn) (b : Bool) → renamed_reply u (cond b reply.Done reply.TooLarge) ≡ cond b reply.Done reply.TooLarge
unnamed_done u true = refl
unnamed_done u false = refl
