-- How a stored journal grows by one entry.
use Rattle.std.proofs.Common.{◌≡◌, ℕ, Bool, true, false, ◌&&◌, List, [], ◌∷◌, ◌++◌, length, Some, refl, sym, ◌∙◌, ap, subst, arith}
use Rattle.std.specs.Prelude.{nat_eq}
use Rattle.std.specs.List.{list_all}
use Rattle.std.proofs.lemmas.List.Folds.{list_all-append}
use Rattle.query_model.specs.declared.query.Query.{Query}
use Rattle.journal.specs.declared.txn.Txn.{Txn}
use Rattle.journal.specs.declared.op.Op.{Op}
use Rattle.journal.specs.declared.op.Op.TheVariants.{Step}
use Rattle.journal.specs.declared.entry.Entry.{Entry}
use Rattle.journal.specs.declared.limits.Limits.{Limits}
use Rattle.journal.specs.declared.reply.Reply.{Reply}
use Rattle.journal.specs.Journal.{entry_of, reply_at}
use Rattle.journal.specs.Legal.{IsInTurn, IsLegal, IsLegalNext}
use Rattle.journal.specs.Laws.{LegalInTurn, ReplyAtTheEnd}
use Rattle.journal.specs.SerialLaws.{steps_read_committed}
use Rattle.iso_txn.specs.Repository.{Repository, next_reply, with_entry}
use Rattle.repo_store.specs.Stores.{IsEntered, IsStored}

-- The journal with one more entry

and_true : (a b : Bool) → a ≡ true → b ≡ true → (a && b) ≡ true
and_true true true p q = refl
and_true true false p q = q
and_true false b p q = p

pub and_right : (a : Bool) → (a && true) ≡ a
and_right true = refl
and_right false = refl

all_push : {X : Type 0} (p : X → Bool) (xs : List X) (x : X) → list_all p xs ≡ true → p x ≡ true → list_all p (xs ++ x ∷ []) ≡ true
all_push p xs x all one = list_all-append p xs (x ∷ []) ∙ and_true (list_all p xs) (p x && true) all (and_right (p x) ∙ one)

pub same_seat : (seat : ℕ) → nat_eq seat seat ≡ true
same_seat seat = grind arith

-- a journal that is stored goes on by an entry of its seat
stored_more : (h : LegalInTurn) (seat : ℕ) (limits : Limits) (repo : Repository) (entries : List Entry) (op : Op) → IsStored seat limits repo entries
    → IsLegalNext repo.journal (entry_of seat op) → steps_read_committed op ≡ true
    → IsStored seat limits (with_entry repo (entry_of seat op)) (entries ++ entry_of seat op ∷ [])
stored_more h seat limits repo entries op s next steps = record {
  limits_are = s.limits_are;
  same = ap (λ es. es ++ entry_of seat op ∷ []) s.same;
  legal = h.next repo.journal (entry_of seat op) s.legal next;
  steps = all_push (λ (e : Entry). steps_read_committed e.op) repo.journal (entry_of seat op) s.steps steps;
  seats = all_push (λ (e : Entry). nat_eq e.seat seat) repo.journal (entry_of seat op) s.seats (same_seat seat);
}

pub stored_next : (h : LegalInTurn) (seat : ℕ) (limits : Limits) (older newer : Repository) (entries with_one : List Entry) (op : Op)
    → IsStored seat limits older entries → newer ≡ with_entry older (entry_of seat op) → with_one ≡ entries ++ entry_of seat op ∷ []
    → IsLegalNext older.journal (entry_of seat op) → steps_read_committed op ≡ true → IsStored seat limits newer with_one
stored_next h seat limits older newer entries with_one op s is one next steps =
    subst (λ es. IsStored seat limits newer es) (sym one)
    (subst (λ repo. IsStored seat limits repo (entries ++ entry_of seat op ∷ [])) (sym is) (stored_more h seat limits older entries op s next steps))

pub step_legal : (journal : List Entry) (seat : ℕ) (t : Txn) (query : Query) (number : ℕ) → IsInTurn journal seat t query number
    → IsLegalNext journal (entry_of seat (Step t query number))
step_legal journal seat t query number turn t' query' number' e =
    let same_txn : t ≡ t' = cc in
    let same_query : query ≡ query' = cc in
    let same_number : number ≡ number' = cc in
    subst (λ x. IsInTurn journal seat x query' number') same_txn
    (subst (λ x. IsInTurn journal seat t x number') same_query (subst (λ x. IsInTurn journal seat t query x) same_number turn))

pub stored_none : (h : LegalInTurn) (seat : ℕ) (limits : Limits) (repo : Repository) (entries : List Entry)
    → limits ≡ repo.limits → repo.journal ≡ [] → entries ≡ [] → IsStored seat limits repo entries
stored_none h seat limits repo entries same none nothing = record {
  limits_are = same;
  same = nothing ∙ sym none;
  legal = subst IsLegal (sym none) h.empty;
  steps = ap (list_all (λ (e : Entry). steps_read_committed e.op)) none;
  seats = ap (list_all (λ (e : Entry). nat_eq e.seat seat)) none;
}

pub entered : (h : ReplyAtTheEnd) (older newer : Repository) (e : Entry) (reply : Reply) → newer ≡ with_entry older e → reply ≡ next_reply older e
    → IsEntered older newer e (length older.journal) reply
entered h older newer e reply added replied = record {
  added = added;
  place_is = refl;
  reply_is =
      let P : Repository → Type 0 = λ repo. reply_at repo.limits repo.journal (length older.journal) ≡ Some reply in
      subst P (sym added) (h older.limits older.journal e [] ∙ ap Some (sym replied));
}
