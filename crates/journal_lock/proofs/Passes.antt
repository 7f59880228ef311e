-- Facts on what a seat carries.
use Rattle.std.proofs.Common.{◌≡◌, ℕ, List, [], ◌∷◌, ◌++◌, Option, Some, None, true, false, refl, sym, ap, ◌∙◌, subst, suc, ◌+◌, length, arith}
use Rattle.atomic_table.specs.Table.{Me, rest}
use Rattle.journal_lock.specs.declared.table.View.{View}
use Rattle.journal_lock.specs.Rule.{without_turn, numbers, OldsHaveAll, HasAll}
use Rattle.journal_lock.specs.Passes.{in_hand, IsPassOf, has_turn, seat_of, seen, AreNew, AreIdle, olds_of, seats_in, EachHasAll}
use Rattle.journal_lock.specs.declared.pass.Pass.{Pass}
use Rattle.journal_lock.specs.declared.lock.JournalLock.{JournalLock}

module _ {S : Type 0} where
  -- a list that is known is its head and the rest
  pub is_first : (c : List (ℕ × S)) (x : ℕ × S) (cs : List (ℕ × S)) → c ≡ x ∷ cs → c ≡ x ∷ rest c
  is_first c x cs e = e ∙ ap (λ l. x ∷ l) (sym (ap rest e))

module _ {V E F : Type 0} where
  -- a seat that took the value out
  pub carries : (m m' : Me (Option V) (View E F)) (x : Option V) → m.1 ≡ (0, x) ∷ [] → m' ≡ (m.0, (0, None) ∷ rest m.1) → m'.0.holds ≡ true → m'.1 ≡ in_hand m'.0.holds
  carries m m' x has is turn = ap (λ n. n.1) is ∙ ap (λ l. (0, None) ∷ rest l) has ∙ sym (ap in_hand turn)

  -- a seat that gave the turn back
  pub carries_none : (m m' : Me (Option V) (View E F)) (x : ℕ × Option V) → m.1 ≡ x ∷ [] → m' ≡ (without_turn m.0, rest m.1) → m'.1 ≡ in_hand m'.0.holds
  carries_none m m' x has is = ap (λ n. n.1) is ∙ ap rest has ∙ sym (ap in_hand (ap (λ n. n.0.holds) is))

module _ {V E : Type 0} where
  -- one pass more, with the next number
  pub new_more : (k : ℕ) (ps : List (Pass V E)) (p : Pass V E) → AreNew k ps → (seat_of p ≡ k + length ps) × (seen p ≡ []) → AreNew k (ps ++ p ∷ [])
  new_more k [] p h is = (((let e = is.0 in omega arith), is.1), tt)
  new_more k (q ∷ qs) p h is = (h.0, new_more (k + 1) qs p h.1 ((let e = is.0 in omega arith), is.1))

  -- one idle pass more
  pub idle_more : (lock : JournalLock V E) (ps : List (Pass V E)) (p : Pass V E) → AreIdle lock ps → IsPassOf lock p × (has_turn p ≡ false) → AreIdle lock (ps ++ p ∷ [])
  idle_more lock [] p h is = (is, tt)
  idle_more lock (q ∷ qs) p h is = (h.0, idle_more lock qs p h.1 is)

module _ {V E : Type 0} where
  pub idle_front : (lock : JournalLock V E) (ps : List (Pass V E)) (p : Pass V E) → AreIdle lock (ps ++ p ∷ []) → AreIdle lock ps × (IsPassOf lock p × (has_turn p ≡ false))
  idle_front lock [] p h = (tt, h.0)
  idle_front lock (q ∷ qs) p h = let r = idle_front lock qs p h.1 in ((h.0, r.0), r.1)

  pub numbers_back : (lock : JournalLock V E) (ps : List (Pass V E)) → AreIdle lock ps → numbers (olds_of ps) ≡ seats_in ps
  numbers_back lock [] h = refl
  numbers_back lock (p ∷ ps) h = λ i. h.0.0.1 i ∷ numbers_back lock ps h.1 i

  pub has_all_back : (lock : JournalLock V E) (number : E → ℕ) (ps : List (Pass V E)) (log : List E) → AreIdle lock ps → OldsHaveAll number (olds_of ps) log → EachHasAll number ps log
  has_all_back lock number [] log h o = tt
  has_all_back lock number (p ∷ ps) log h o = (subst (λ k. HasAll number k (seen p) log) h.0.0.1 o.0, has_all_back lock number ps log h.1 o.1)

  pub olds_length : (ps : List (Pass V E)) → length (olds_of ps) ≡ length ps
  olds_length [] = refl
  olds_length (p ∷ ps) = ap suc (olds_length ps)

-- the value at the head of a list that is known twice
pub value_same : {V : Type 0} (c : List (ℕ × Option V)) (r : Option V) (x y : V) (cs ds : List (ℕ × Option V)) → c ≡ (0, r) ∷ cs → c ≡ (0, Some x) ∷ ds → r ≡ Some y → y ≡ x
value_same {V} c r x y cs ds e e' is = ap read (sym (ap (λ (o : Option V). (0, o) ∷ cs) is) ∙ sym e ∙ e')
  where
    read : List (ℕ × Option V) → V
    read [] = y
    read ((k, None) ∷ zs) = y
    read ((k, Some z) ∷ zs) = z
