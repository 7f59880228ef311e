-- What is pinned of a journal's entries, and what is answered of it.
use Rattle.std.proofs.Common.{◌≡◌, ◌↔◌, ℕ, zero, suc, ◌+◌, Bool, true, false, ◌&&◌, ◌||◌, List, [], ◌∷◌, ◌++◌, length, map, take, Some, None, Option, refl, sym, ◌∙◌, ap, subst, arith}
use Rattle.std.specs.Prelude.{nat_eq, slice_get, if◌then◌else◌}
use Rattle.std.specs.List.{list_all, list_any}
use Rattle.std.specs.Option.{option_map}
use Rattle.std.proofs.Math.Seq.{take-append_seam}
use Rattle.std.proofs.lemmas.List.{map-append}
use Rattle.std.proofs.lemmas.List.Folds.{list_all-append, list_any-append}
use Rattle.rdf_term.specs.Statement.{Statement}
use Rattle.query_model.specs.declared.query.Query.{Query}
use Rattle.query_model.specs.declared.found.Found.{Found}
use Rattle.query_model.specs.declared.found.Found.TheVariants as answer
use Rattle.query_model.specs.Found.{found as found_query}
use Rattle.query_model.specs.Solutions.{lookups_of}
use Rattle.journal.specs.declared.txn.Txn.{Txn}
use Rattle.journal.specs.declared.ask.Ask.{Ask}
use Rattle.journal.specs.declared.ask.Ask.TheVariants as asks
use Rattle.journal.specs.declared.op.Op.{Op}
use Rattle.journal.specs.declared.op.Op.TheVariants.{Begin, Read, Step, Write, Commit, Rollback, Ping, Names}
use Rattle.journal.specs.declared.entry.Entry.{Entry}
use Rattle.journal.specs.declared.limits.Limits.{Limits}
use Rattle.journal.specs.declared.reply.Reply.{Reply}
use Rattle.journal.specs.declared.reply.Reply.TheVariants as replies
use Rattle.journal.specs.Past.{Judged, is_live, is_open}
use Rattle.journal.specs.Views.{view_at}
use Rattle.journal.specs.Found.{answer_of, found}
use Rattle.journal.specs.Replies.{before_last, is_of_seat, reply_to, step_pasts, step_reply, steps_reply}
use Rattle.journal.specs.Journal.{entry_of, is_live_after, judged, judged_entry, reply_at, reply_next, view_after}
use Rattle.journal.specs.Laws.{EachEntryIsJudgedOnce}
use Rattle.iso_txn.specs.Repository.{PinnedRead, Repository, with_entry}
use Rattle.repo_store.specs.Stores.{HasTooManyRows, IsLastOf, IsNextStep, IsPinnedAt, IsPinnedBy, IsPinnedLast, PinnedIsAnswered, answered}
use Rattle.repo_store.proofs.StoreLemmas.{and_right, same_seat}

pub and_first : (a b : Bool) → (a && b) ≡ true → a ≡ true
and_first true b h = refl
and_first false b h = h

pub and_second : (a b : Bool) → (a && b) ≡ true → b ≡ true
and_second true b h = h
and_second false b h = cc

and_false : (a : Bool) → (a && false) ≡ false
and_false true = refl
and_false false = refl

or_true : (a : Bool) → (a || true) ≡ true
or_true true = refl
or_true false = refl

-- What is pinned

pub read_is_pinned : (limits : Limits) (journal : List Entry) (seat : ℕ) (txn : Option Txn) (ask : Ask) (pinned : PinnedRead)
    → pinned.live ≡ is_live_after limits journal txn → (pinned.live ≡ true → pinned.views ≡ view_after limits journal txn ∷ []) → pinned.rows ≡ limits.rows
    → IsPinnedBy limits (judged limits journal) (entry_of seat (Read txn ask)) pinned
unfolding is_live_after view_after
read_is_pinned limits journal seat txn ask pinned live views rows = record {
  live = live ∙ sym (and_right (is_live limits (judged limits journal) txn));
  views = views;
  rows = rows;
}

slice_get_seam : {X : Type 0} (xs : List X) (x : X) (ys : List X) → slice_get (xs ++ x ∷ ys) (length xs) ≡ Some x
slice_get_seam [] x ys = refl
slice_get_seam (y ∷ xs) x ys = slice_get_seam xs x ys

pub pinned_at_end : (repo : Repository) (e : Entry) (pinned : PinnedRead) → IsPinnedBy repo.limits (judged repo.limits repo.journal) e pinned
    → IsPinnedAt (with_entry repo e) (length repo.journal) e pinned
pinned_at_end repo e pinned by = record {
  entry = slice_get_seam repo.journal e [];
  pinned_by = let P : List Entry → Type 0 = λ es. IsPinnedBy repo.limits (judged repo.limits es) e pinned in
      subst P (sym (take-append_seam repo.journal (e ∷ []))) by;
}

pub pinned_at : (older newer : Repository) (e : Entry) (place : ℕ) (pinned : PinnedRead) → newer ≡ with_entry older e → place ≡ length older.journal
    → IsPinnedBy older.limits (judged older.limits older.journal) e pinned → IsPinnedAt newer place e pinned
pinned_at older newer e place pinned is placed by =
    subst (λ repo. IsPinnedAt repo place e pinned) (sym is)
    (subst (λ n. IsPinnedAt (with_entry older e) n e pinned) (sym placed) (pinned_at_end older e pinned by))

-- Steps

past_of_last : (seat : ℕ) (past : List Judged) (j : Judged) → nat_eq j.entry.seat seat ≡ true → before_last seat (past ++ j ∷ []) ≡ past
past_of_last seat [] j own = refl
past_of_last seat (x ∷ xs) j own =
    ap (λ b. if b then x ∷ before_last seat (xs ++ j ∷ []) else [])
    (list_any-append (is_of_seat seat) xs (j ∷ []) ∙ ap (λ b. list_any (is_of_seat seat) xs || (b || false)) own ∙ or_true (list_any (is_of_seat seat) xs))
    ∙ ap (λ past. x ∷ past) (past_of_last seat xs j own)

-- what is pinned of the entry behind a journal is that of the seat's last entry once it stands there
pub pinned_is_last : (h : EachEntryIsJudgedOnce) (repo : Repository) (seat : ℕ) (op : Op) (pinned : PinnedRead)
    → IsPinnedBy repo.limits (judged repo.limits repo.journal) (entry_of seat op) pinned → IsPinnedLast (with_entry repo (entry_of seat op)) seat op pinned
pinned_is_last h repo seat op pinned by =
    let past : List Judged = judged repo.limits repo.journal in
    let P : List Judged → Type 0 = λ past. IsPinnedBy repo.limits past (entry_of seat op) pinned in
    subst P
    (sym (ap (before_last seat) (h.next repo.limits repo.journal (entry_of seat op))
    ∙ past_of_last seat past (judged_entry repo.limits past (entry_of seat op)) (same_seat seat)))
    by

no_views : {X : Type 0} (views : List X) (x : X) → length views ≡ 0 → views ++ x ∷ [] ≡ x ∷ []
no_views [] x e = refl
no_views (v ∷ vs) x e = absurd (omega arith)

-- one more Step behind those that are pinned
pub step_is_pinned : (limits : Limits) (past : List Judged) (seat : ℕ) (t : Txn) (query : Query) (number : ℕ) (older newer : PinnedRead)
    → length older.views ≡ number → (number ≡ 0 → older.live ≡ true)
    → ((n : ℕ) → number ≡ n + 1 → IsPinnedBy limits (before_last seat past) (entry_of seat (Step t query n)) older)
    → newer.live ≡ (older.live && is_live limits past (Some t))
    → (is_live limits past (Some t) ≡ true → newer.views ≡ older.views ++ view_at limits past (Some t) ∷ []) → newer.rows ≡ limits.rows
    → IsPinnedBy limits past (entry_of seat (Step t query number)) newer
step_is_pinned limits past seat t query zero older newer count first later live views rows = record {
  live = live ∙ ap (λ b. b && is_live limits past (Some t)) (first refl) ∙ sym (and_right (is_live limits past (Some t)));
  views = λ is.
      let now : is_live limits past (Some t) ≡ true = and_second older.live (is_live limits past (Some t)) (sym live ∙ is) in
      views now ∙ no_views older.views (view_at limits past (Some t)) count;
  rows = rows;
}
step_is_pinned limits past seat t query (suc n) older newer count first later live views rows =
    let by : IsPinnedBy limits (before_last seat past) (entry_of seat (Step t query n)) older = later n (omega arith) in
    let open_at : List Judged → Bool = λ past. is_live limits past (Some t) in
    let seen_at : List Judged → List Statement = λ past. view_at limits past (Some t) in
    let before : List (List Judged) = step_pasts n seat (before_last seat past) in
    record {
      live = live ∙ (λ k. by.live k && sym (and_right (open_at past)) k) ∙ sym (list_all-append open_at before (past ∷ []));
      views = λ is.
          let both : (older.live && open_at past) ≡ true = sym live ∙ is in
          views (and_second older.live (open_at past) both)
          ∙ ap (λ vs. vs ++ seen_at past ∷ []) (by.views (and_first older.live (open_at past) both))
          ∙ sym (map-append seen_at before (past ∷ []));
      rows = rows;
    }

pub next_step_is_pinned : (repo : Repository) (seat : ℕ) (t : Txn) (query : Query) (number : ℕ) (older newer : PinnedRead) → IsNextStep repo seat t query number older
    → newer.live ≡ (older.live && is_live_after repo.limits repo.journal (Some t))
    → (is_live_after repo.limits repo.journal (Some t) ≡ true → newer.views ≡ older.views ++ view_after repo.limits repo.journal (Some t) ∷ [])
    → newer.rows ≡ repo.limits.rows → IsPinnedBy repo.limits (judged repo.limits repo.journal) (entry_of seat (Step t query number)) newer
unfolding is_live_after view_after
next_step_is_pinned repo seat t query number older newer next live views rows =
    step_is_pinned repo.limits (judged repo.limits repo.journal) seat t query number older newer next.views next.first next.later live views rows

-- Answers

steps_closed : (f : List Judged → Bool) (n seat : ℕ) (past : List Judged) → f past ≡ false → list_all f (step_pasts n seat past) ≡ false
steps_closed f zero seat past closed = ap (λ b. b && true) closed
steps_closed f (suc n) seat past closed =
    list_all-append f (step_pasts n seat (before_last seat past)) (past ∷ [])
    ∙ ap (λ b. list_all f (step_pasts n seat (before_last seat past)) && (b && true)) closed
    ∙ and_false (list_all f (step_pasts n seat (before_last seat past)))

read_answered : (limits : Limits) (past : List Judged) (seat : ℕ) (txn : Option Txn) (ask : Ask) (pinned : PinnedRead)
    → IsPinnedBy limits past (entry_of seat (Read txn ask)) pinned → reply_to limits past (entry_of seat (Read txn ask)) ≡ answered pinned ask
unfolding reply_to answered
read_answered limits past seat txn ask pinned by = at (is_live limits past txn) refl
  where
    at : (b : Bool) → is_live limits past txn ≡ b → (if b then found ask (view_at limits past txn ∷ []) limits.rows else replies.NoTransaction)
        ≡ (if pinned.live then found ask pinned.views pinned.rows else replies.NoTransaction)
    at true e =
        let live : pinned.live ≡ true = by.live ∙ ap (λ b. b && true) e in
        λ k. if sym live k then found ask (sym (by.views live) k) (sym by.rows k) else replies.NoTransaction
    at false e = λ k. if sym (by.live ∙ ap (λ b. b && true) e) k then found ask pinned.views pinned.rows else replies.NoTransaction

step_answered : (limits : Limits) (past : List Judged) (seat : ℕ) (t : Txn) (query : Query) (number : ℕ) (pinned : PinnedRead)
    → IsPinnedBy limits past (entry_of seat (Step t query number)) pinned → number + 1 ≡ lookups_of query
    → reply_to limits past (entry_of seat (Step t query number)) ≡ answered pinned (asks.Query query)
unfolding reply_to answered
step_answered limits past seat t query number pinned by last = at (is_open limits past t) refl
  where
    all : (b : Bool) → list_all (λ past. is_open limits past t) (step_pasts number seat past) ≡ b
        → (if b then found (asks.Query query) (map (λ past. view_at limits past (Some t)) (step_pasts number seat past)) limits.rows else replies.NoTransaction)
        ≡ (if pinned.live then found (asks.Query query) pinned.views pinned.rows else replies.NoTransaction)
    all true e =
        let live : pinned.live ≡ true = by.live ∙ e in
        λ k. if sym live k then found (asks.Query query) (sym (by.views live) k) (sym by.rows k) else replies.NoTransaction
    all false e = λ k. if sym (by.live ∙ e) k then found (asks.Query query) pinned.views pinned.rows else replies.NoTransaction

    at : (b : Bool) → is_open limits past t ≡ b → (if b then step_reply limits past seat t query number else replies.NoTransaction)
        ≡ (if pinned.live then found (asks.Query query) pinned.views pinned.rows else replies.NoTransaction)
    at true e =
        ap (λ b. if b then steps_reply limits t query (step_pasts number seat past) else replies.Done)
        (ap (nat_eq (number + 1)) (sym last) ∙ same_seat (number + 1))
        ∙ all (list_all (λ past. is_open limits past t) (step_pasts number seat past)) refl
    at false e = all false (steps_closed (λ past. is_open limits past t) number seat past e)

op_answered : (limits : Limits) (past : List Judged) (seat : ℕ) (op : Op) (pinned : PinnedRead) (ask : Ask)
    → IsPinnedBy limits past (entry_of seat op) pinned → IsLastOf op ask → reply_to limits past (entry_of seat op) ≡ answered pinned ask
op_answered limits past seat (Read txn asked) pinned ask by last =
    subst (λ x. reply_to limits past (entry_of seat (Read txn asked)) ≡ answered pinned x) last (read_answered limits past seat txn asked pinned by)
op_answered limits past seat (Step t query number) pinned ask by last =
    subst (λ x. reply_to limits past (entry_of seat (Step t query number)) ≡ answered pinned x) (sym last.0)
    (step_answered limits past seat t query number pinned by last.1)
op_answered limits past seat (Begin l) pinned ask by last = absurd last
op_answered limits past seat (Write txn changes) pinned ask by last = absurd last
op_answered limits past seat (Commit t) pinned ask by last = absurd last
op_answered limits past seat (Rollback t) pinned ask by last = absurd last
op_answered limits past seat (Ping t) pinned ask by last = absurd last
op_answered limits past seat (Names names) pinned ask by last = absurd last

pub pinned_is_answered : PinnedIsAnswered
unfolding reply_at reply_next
pinned_is_answered repo place e pinned ask at last =
    (λ k. option_map (reply_next repo.limits (take place repo.journal)) (at.entry k))
    ∙ ap Some (op_answered repo.limits (judged repo.limits (take place repo.journal)) e.seat e.op pinned ask at.pinned_by last)

-- a transaction that wasn't open

answer_is_some : (it : Option Found) → answer_of it ≡ replies.NoTransaction → ⊥
answer_is_some None e = cc
answer_is_some (Some (answer.Table table)) e = cc
answer_is_some (Some (answer.Truth truth)) e = cc
answer_is_some (Some (answer.Quads quads)) e = cc

found_is_some : (ask : Ask) (views : List (List Statement)) (most : ℕ) → found ask views most ≡ replies.NoTransaction → ⊥
unfolding found
found_is_some (asks.Query query) views most e = answer_is_some (found_query query views most) e
found_is_some (asks.List s p o contexts) views most e = cc
found_is_some (asks.Size contexts) views most e = cc
found_is_some asks.Contexts views most e = cc

-- what is found where the transaction was open is no refusal of it
pub found_is_live : (ask : Ask) (views : List (List Statement)) (most : ℕ) (reply : Reply) (live : Bool) → live ≡ true → reply ≡ found ask views most
    → (reply ≡ replies.NoTransaction) ↔ (live ≡ false)
found_is_live ask views most reply live is found = (λ e. absurd (found_is_some ask views most (sym found ∙ e)), λ e. cc)

-- too many rows

answer_too_many : (it : Option Found) → (answer_of it ≡ replies.TooManyRows) ↔ (it ≡ None)
answer_too_many None = (λ e. refl, λ e. refl)
answer_too_many (Some (answer.Table table)) = (λ e. cc, λ e. cc)
answer_too_many (Some (answer.Truth truth)) = (λ e. cc, λ e. cc)
answer_too_many (Some (answer.Quads quads)) = (λ e. cc, λ e. cc)

found_too_many : (pinned : PinnedRead) (ask : Ask) → pinned.live ≡ true → (found ask pinned.views pinned.rows ≡ replies.TooManyRows) ↔ HasTooManyRows pinned ask
unfolding found
found_too_many pinned (asks.Query query) live =
    let it = answer_too_many (found_query query pinned.views pinned.rows) in
    (λ e. (live, it.0 e), λ h. it.1 h.1)
found_too_many pinned (asks.List s p o contexts) live = (λ e. cc, λ h. absurd h)
found_too_many pinned (asks.Size contexts) live = (λ e. cc, λ h. absurd h)
found_too_many pinned asks.Contexts live = (λ e. cc, λ h. absurd h)

pub too_many_live : (pinned : PinnedRead) (ask : Ask) (reply : Reply) (views : List (List Statement)) (rows : ℕ) → pinned.live ≡ true
    → views ≡ pinned.views → rows ≡ pinned.rows → reply ≡ found ask views rows → (reply ≡ replies.TooManyRows) ↔ HasTooManyRows pinned ask
too_many_live pinned ask reply views rows live same allowed is =
    subst (λ it. (it ≡ replies.TooManyRows) ↔ HasTooManyRows pinned ask) (sym (is ∙ λ k. found ask (same k) (allowed k))) (found_too_many pinned ask live)
