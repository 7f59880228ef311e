-- Which Step of a seat is next, and that entries of other seats leave it so.
use Rattle.std.proofs.Common.{◌+◌, ◌<◌, max, length, arith, ◌≡◌, ℕ, Bool, true, false, not, ◌||◌, cond, List, [], ◌∷◌, ◌++◌, Some, refl, sym, ◌∙◌, ap, subst, append-nil}
use Rattle.std.specs.Prelude.{nat_eq, find, reverse}
use Rattle.std.specs.List.{list_any}
use Rattle.std.specs.Option.{option_map}
use Rattle.std.proofs.lemmas.List.{append_assoc, reverse-append}
use Rattle.std.proofs.lemmas.List.Folds.{list_any-append}
use Rattle.query_model.specs.declared.query.Query.{Query}
use Rattle.query_model.specs.Solutions.{group_of, lookups_of}
use Rattle.journal.specs.declared.level.Level.TheVariants.{ReadCommitted}
use Rattle.journal.specs.declared.txn.Txn.{Txn}
use Rattle.journal.specs.declared.op.Op.{Op}
use Rattle.journal.specs.declared.op.Op.TheVariants.{Step}
use Rattle.journal.specs.declared.entry.Entry.{Entry}
use Rattle.journal.specs.Past.{Judged}
use Rattle.journal.specs.Replies.{before_last, is_of_seat}
use Rattle.journal.specs.Journal.{entry_of, judged, judged_entry}
use Rattle.journal.specs.Legal.{last_op}
use Rattle.journal.specs.Laws.{EachEntryIsJudgedOnce}
use Rattle.iso_txn.specs.Repository.{PinnedRead, Repository, with_entry}
use Rattle.repo_store.specs.Stores.{FirstStepIsNext, IsNextStep, IsPinnedBy, IsPinnedLast, NextStepStays, is_of_other_seats}
use Rattle.repo_store.proofs.PinnedLemmas.{and_first, and_second, pinned_is_last}
use Rattle.repo_store.proofs.StoreLemmas.{same_seat}

or_false : (a : Bool) → (a || false) ≡ a
or_false true = refl
or_false false = refl

not_true : (a : Bool) → not a ≡ true → a ≡ false
not_true true e = cc
not_true false e = refl

last_op-other : (seat : ℕ) (journal : List Entry) (e : Entry) → nat_eq e.seat seat ≡ false → last_op seat (journal ++ e ∷ []) ≡ last_op seat journal
last_op-other seat journal e other =
    ap (λ es. option_map (λ (e : Entry). e.op) (find (λ (e : Entry). nat_eq e.seat seat) es)) (reverse-append journal (e ∷ []))
    ∙ ap (λ b. option_map (λ (e : Entry). e.op) (cond b (Some e) (find (λ (e : Entry). nat_eq e.seat seat) (reverse journal)))) other

before_last-other : (seat : ℕ) (past : List Judged) (j : Judged) → nat_eq j.entry.seat seat ≡ false → before_last seat (past ++ j ∷ []) ≡ before_last seat past
before_last-other seat [] j other = refl
before_last-other seat (x ∷ xs) j other = λ k.
    cond ((list_any-append (is_of_seat seat) xs (j ∷ []) ∙ (ap (λ b. list_any (is_of_seat seat) xs || (b || false)) other ∙ or_false (list_any (is_of_seat seat) xs))) k)
    (x ∷ before_last-other seat xs j other k) []

stays_one : (h : EachEntryIsJudgedOnce) (repo : Repository) (e : Entry) (seat : ℕ) (t : Txn) (query : Query) (number : ℕ) (pinned : PinnedRead)
    → nat_eq e.seat seat ≡ false → IsNextStep repo seat t query number pinned → IsNextStep (with_entry repo e) seat t query number pinned
stays_one h repo e seat t query number pinned other next =
    let past : List Judged = judged repo.limits repo.journal in
    record {
      level = next.level;
      turn = record { below = next.turn.below; follows = λ n is. last_op-other seat repo.journal e other ∙ next.turn.follows n is };
      views = next.views;
      first = next.first;
      later = λ n is.
          let P : List Judged → Type 0 = λ before. IsPinnedBy repo.limits before (entry_of seat (Step t query n)) pinned in
          subst P
          (sym (ap (before_last seat) (h.next repo.limits repo.journal e) ∙ before_last-other seat past (judged_entry repo.limits past e) other))
          (next.later n is);
    }

pub stays : (h : EachEntryIsJudgedOnce) → NextStepStays
stays h repo [] seat t query number pinned others next =
    subst (λ journal. IsNextStep (record { limits = repo.limits; journal = journal }) seat t query number pinned) (sym (append-nil repo.journal)) next
stays h repo (e ∷ es) seat t query number pinned others next =
    let one : IsNextStep (with_entry repo e) seat t query number pinned =
    stays_one h repo e seat t query number pinned (not_true (nat_eq e.seat seat) (and_first (not (nat_eq e.seat seat)) (is_of_other_seats seat es) others)) next in
    subst (λ journal. IsNextStep (record { limits = repo.limits; journal = journal }) seat t query number pinned) (append_assoc repo.journal (e ∷ []) es)
    (stays h (with_entry repo e) es seat t query number pinned (and_second (not (nat_eq e.seat seat)) (is_of_other_seats seat es) others) one)

-- The first Step and the next one

one_lookup : (n : ℕ) → 0 < max 1 n
one_lookup n = omega arith

pub first_is_next : FirstStepIsNext
first_is_next repo seat t query level = record {
  level = level;
  turn = record { below = one_lookup (length (group_of query)); follows = λ n is. absurd (omega arith) };
  views = refl;
  first = λ is. refl;
  later = λ n is. absurd (omega arith);
}

last_op-own : (seat : ℕ) (journal : List Entry) (op : Op) → last_op seat (journal ++ entry_of seat op ∷ []) ≡ Some op
last_op-own seat journal op =
    ap (λ es. option_map (λ (e : Entry). e.op) (find (λ (e : Entry). nat_eq e.seat seat) es)) (reverse-append journal (entry_of seat op ∷ []))
    ∙ ap (λ b. option_map (λ (e : Entry). e.op) (cond b (Some (entry_of seat op)) (find (λ (e : Entry). nat_eq e.seat seat) (reverse journal)))) (same_seat seat)

-- behind a Step the one after it is next, where the query has one
pub next_is_next : (h : EachEntryIsJudgedOnce) (older newer : Repository) (seat : ℕ) (t : Txn) (query : Query) (number : ℕ) (pinned : PinnedRead)
    → t.level ≡ ReadCommitted → newer ≡ with_entry older (entry_of seat (Step t query number)) → length pinned.views ≡ number + 1
    → IsPinnedBy older.limits (judged older.limits older.journal) (entry_of seat (Step t query number)) pinned → number + 1 < lookups_of query
    → IsNextStep newer seat t query (number + 1) pinned
next_is_next h older newer seat t query number pinned level is count by below =
    subst (λ repo. IsNextStep repo seat t query (number + 1) pinned) (sym is)
    (record {
      level = level;
      turn = record {
        below = below;
        follows = λ n same.
            let number_is : number ≡ n = omega arith in
            last_op-own seat older.journal (Step t query number) ∙ ap (λ m. Some (Step t query m)) number_is;
      };
      views = count;
      first = λ none. absurd (omega arith);
      later = λ n same.
          let number_is : number ≡ n = omega arith in
          subst (λ m. IsPinnedLast (with_entry older (entry_of seat (Step t query number))) seat (Step t query m) pinned) number_is
          (pinned_is_last h older seat (Step t query number) pinned by);
    })
