-- Which transaction is the current one.
use Rattle.std.proofs.Common.{◌≡◌, ◌⊎◌, false, List, [], ◌∷◌, Option, Some, None, fold, refl, sym, ap, ◌∙◌, subst, inl, inr}
use Rattle.std.specs.List.{AllByRecursion}
use Rattle.std.proofs.lemmas.Grind.{fold-append}
use Rattle.std.proofs.lemmas.Option.{same_Some}
use Rattle.journal.specs.declared.level.Level.{Level}
use Rattle.journal.specs.declared.txn.Txn.{Txn}
use Rattle.journal.specs.declared.op.Op.{Op}
use Rattle.journal.specs.declared.op.Op.TheVariants.{Begin, Commit, Rollback}
use Rattle.journal.specs.declared.reply.Reply.{Reply}
use Rattle.journal.specs.declared.reply.Reply.TheVariants.{Begun, Done}
use Rattle.client_script.specs.Actions.{current_txn, txn_after}
use Rattle.client_script.specs.Laws.{IsCurrent, changes_txn}

-- the current transaction behind one more answer
abbrev behind : Option Txn → Op × Reply → Option Txn
behind txn x = txn_after txn x.0 x.1

-- the answer is the transaction that was begun
abbrev BeginsOne : Op → Reply → Type 0
BeginsOne op reply = (level : Level) × (t : Txn) × (op ≡ Begin level) × (reply ≡ Begun t)

-- the answer leaves the current transaction
abbrev Leaves : Op × Reply → Type 0
Leaves x = changes_txn x.0 x.1 ≡ false

-- an answer begins a transaction, ends the current one, or leaves it
kinds : (op : Op) (reply : Reply) → BeginsOne op reply ⊎ (((txn : Option Txn) → txn_after txn op reply ≡ None) ⊎ ((changes_txn op reply ≡ false) × ((txn : Option Txn) → txn_after txn op reply ≡ txn)))
kinds (Begin level) (Begun t) = inl (level, t, refl, refl)
kinds (Commit t) Done = inr (inl (λ txn. refl))
kinds (Rollback t) Done = inr (inl (λ txn. refl))
kinds op reply = inr (inr (refl, λ txn. refl))

left : (op : Op) (reply : Reply) (txn : Option Txn) → changes_txn op reply ≡ false → txn_after txn op reply ≡ txn
left (Begin level) (Begun t) txn e = cc
left (Commit t) Done txn e = cc
left (Rollback t) Done txn e = cc
left op reply txn e = refl

stays : (t : Txn) (later : List (Op × Reply)) → AllByRecursion Leaves later → fold behind (Some t) later ≡ Some t
stays t [] h = refl
stays t (x ∷ xs) h = ap (λ (a : Option Txn). fold behind a xs) (left x.0 x.1 (Some t) h.0) ∙ stays t xs h.1

-- the first answer stands before the begin
pub later_begun : (x : Op × Reply) (xs : List (Op × Reply)) (t : Txn) → IsCurrent xs t → IsCurrent (x ∷ xs) t
later_begun x xs t h = record {
  before = x ∷ h.before;
  level = h.level;
  later = h.later;
  begun = ap (λ (l : List (Op × Reply)). x ∷ l) h.begun;
  left = h.left;
}

first_begun : (x : Op × Reply) (xs : List (Op × Reply)) (t : Txn) → BeginsOne x.0 x.1 → txn_after None x.0 x.1 ≡ Some t → AllByRecursion Leaves xs → IsCurrent (x ∷ xs) t
first_begun x xs t b e h =
    let at : txn_after None (Begin b.0) (Begun b.1) ≡ Some t =
    ap (λ (r : Reply). txn_after None (Begin b.0) r) (sym b.3) ∙ ap (λ (o : Op). txn_after None o x.1) (sym b.2) ∙ e in
    let same : b.1 ≡ t = same_Some b.1 t at in
    record {
      before = [];
      level = b.0;
      later = xs;
      begun = ap (λ (y : Op × Reply). y ∷ xs) (ap (λ (o : Op). (o, x.1)) b.2 ∙ ap (λ (r : Reply). (Begin b.0, r)) (b.3 ∙ ap Begun same));
      left = h;
    }

-- a begin makes the same of every current transaction
any_begin : (acc : Option Txn) (x : Op × Reply) → BeginsOne x.0 x.1 → txn_after None x.0 x.1 ≡ txn_after acc x.0 x.1
any_begin acc x b =
    let P : Op → Reply → Type 0 = λ o r. txn_after None o r ≡ txn_after acc o r in
    subst (λ (o : Op). P o x.1) (sym b.2) (subst (λ (r : Reply). P (Begin b.0) r) (sym b.3) refl)

-- the one that was there stays, or one was begun
found : (acc : Option Txn) (answered : List (Op × Reply)) (t : Txn) → fold behind acc answered ≡ Some t
    → ((acc ≡ Some t) × AllByRecursion Leaves answered) ⊎ IsCurrent answered t
found acc [] t e = inl (e, tt)
found acc (x ∷ xs) t e =
    elim (found (behind acc x) xs t e) [
      | inr h ↦ inr (later_begun x xs t h)
      | inl h ↦ elim (kinds x.0 x.1) [
        | inl b ↦ inr (first_begun x xs t b (any_begin acc x b ∙ h.0) h.1)
        | inr rest ↦ elim rest [
          | inl ends ↦ let none : None ≡ Some t = sym (ends acc) ∙ h.0 in absurd (cc)
          | inr leaves ↦ inl (sym (leaves.1 acc) ∙ h.0, (leaves.0, h.1))
        ]
      ]
    ]

pub current_is : (answered : List (Op × Reply)) (t : Txn) → current_txn answered ≡ Some t → IsCurrent answered t
current_is answered t e =
    elim (found None answered t e) [
      | inl h ↦ let none : None ≡ Some t = h.0 in absurd (cc)
      | inr h ↦ h
    ]

pub is_current : (answered : List (Op × Reply)) (t : Txn) → IsCurrent answered t → current_txn answered ≡ Some t
is_current answered t h =
    ap (λ (l : List (Op × Reply)). fold behind None l) h.begun
    ∙ fold-append behind None h.before ((Begin h.level, Begun t) ∷ h.later) ∙ stays t h.later h.left
