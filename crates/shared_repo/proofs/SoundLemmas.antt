-- Repositories that are shared, with one more entry and with none.
use Rattle.std.proofs.Common.{◌≡◌, Bool, true, false, ◌&&◌, List, [], ◌∷◌, Result, Ok, Err, OnOk, OnErr, refl, sym, ◌∙◌, ap, subst}
use Rattle.std.specs.List.{list_all}
use Rattle.std.proofs.lemmas.List.Folds.{list_all-append}
use Rattle.journal.specs.declared.entry.Entry.{Entry}
use Rattle.journal.specs.Laws.{LegalInTurn}
use Rattle.journal.specs.Legal.{IsLegal}
use Rattle.journal.specs.SerialLaws.{is_stepped_read_committed, steps_read_committed}
use Rattle.iso_txn.specs.Repository.{AreAllowed, Repository, with_entry}
use Rattle.shared_repo.specs.States.{IsSound, MayFollow}

both : (a b : Bool) → a ≡ true → b ≡ true → (a && (b && true)) ≡ true
both true true p q = refl
both true false p q = q
both false b p q = p

sound_more : (h : LegalInTurn) (repo : Repository) (e : Entry) → IsSound repo → MayFollow repo.journal e → IsSound (with_entry repo e)
sound_more h repo e s may = record {
  allowed = s.allowed;
  legal = h.next repo.journal e s.legal may.0;
  steps = list_all-append (λ (e : Entry). steps_read_committed e.op) repo.journal (e ∷ [])
      ∙ both (is_stepped_read_committed repo.journal) (steps_read_committed e.op) s.steps may.1;
}

pub sound_next : {A F : Type 0} (h : LegalInTurn) (older newer : Repository) (e : Entry) (made : Result A F) → IsSound older
    → OnOk made (newer ≡ with_entry older e) → OnErr made (newer ≡ older) → MayFollow older.journal e → IsSound newer
sound_next h older newer e (Ok x) s is same may = subst IsSound (sym is) (sound_more h older e s may)
sound_next h older newer e (Err fault) s is same may = subst IsSound (sym same) s

pub sound_empty : (h : LegalInTurn) (repo : Repository) → AreAllowed repo.limits → repo.journal ≡ [] → IsSound repo
sound_empty h repo allowed none = record {
  allowed = allowed;
  legal = subst IsLegal (sym none) h.empty;
  steps = ap (λ (es : List Entry). list_all (λ (e : Entry). steps_read_committed e.op) es) none;
}
