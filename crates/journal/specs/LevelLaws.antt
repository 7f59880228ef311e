-- The tests whether two levels, or two transactions, are one are equivalences, and hold exactly of a value and itself.
use Rattle.std.proofs.Common.{◌≡◌, ◌↔◌, IsTrue, ℕ, zero, suc, Bool, true, false, ◌&&◌, refl, sym, ◌∙◌, ap, subst, true≢false, nat_eq, eqb-true, eq-eqb}
use Rattle.std.specs.Cmp.{IsEquivalence}
use Rattle.std.proofs.lemmas.Cmp.{nat_eq_equiv, on_equiv, and_equiv}
use Rattle.journal.specs.declared.level.Level.{Level}
use Rattle.journal.specs.declared.level.Level.TheVariants.{NoIsolation, ReadUncommitted, ReadCommitted, SnapshotRead, Snapshot, Serializable}
use Rattle.journal.specs.declared.txn.Txn.{Txn}
use Rattle.journal.specs.Levels.{level_number, is_level, is_txn}

pub level_equiv : IsEquivalence is_level
level_equiv = on_equiv level_number nat_eq_equiv

pub txn_equiv : IsEquivalence is_txn
txn_equiv = and_equiv (on_equiv (λ (t : Txn). t.place) nat_eq_equiv) (on_equiv (λ (t : Txn). t.level) level_equiv)

-- a level is known by its number
level_at : ℕ → Level
level_at zero = NoIsolation
level_at (suc zero) = ReadUncommitted
level_at (suc (suc zero)) = ReadCommitted
level_at (suc (suc (suc zero))) = SnapshotRead
level_at (suc (suc (suc (suc zero)))) = Snapshot
level_at (suc (suc (suc (suc (suc n))))) = Serializable

level_again : (l : Level) → level_at (level_number l) ≡ l
unfolding level_at
level_again NoIsolation = refl
level_again ReadUncommitted = refl
level_again ReadCommitted = refl
level_again SnapshotRead = refl
level_again Snapshot = refl
level_again Serializable = refl

pub level_is : (a b : Level) → is_level a b ≡ true → a ≡ b
level_is a b same = sym (level_again a) ∙ (ap level_at (eqb-true (level_number a) (level_number b) same) ∙ level_again b)

pub level_itself : (l : Level) → is_level l l ≡ true
level_itself l = eq-eqb (level_number l) (level_number l) refl

pub level_same : (a b : Level) (r : Bool) → r ≡ is_level a b → IsTrue r ↔ (a ≡ b)
level_same a b r e = (λ h. level_is a b (sym e ∙ h), λ q. e ∙ subst (λ l. is_level a l ≡ true) q (level_itself a))

both : (a b : Bool) → (a && b) ≡ true → (a ≡ true) × (b ≡ true)
both true b e = (refl, e)
both false b e = absurd (true≢false (sym e))

pub txn_is : (t u : Txn) → is_txn t u ≡ true → t ≡ u
txn_is t u same =
    let h = both (nat_eq t.place u.place) (is_level t.level u.level) same in
    let p : t.place ≡ u.place = eqb-true t.place u.place h.0 in
    let l : t.level ≡ u.level = level_is t.level u.level h.1 in
    λ i. record { place = p i; level = l i }

pub txn_itself : (t : Txn) → is_txn t t ≡ true
txn_itself t = ap (λ b. b && is_level t.level t.level) (eq-eqb t.place t.place refl) ∙ level_itself t.level

pub txn_same : (t u : Txn) (r : Bool) → r ≡ is_txn t u → IsTrue r ↔ (t ≡ u)
txn_same t u r e = (λ h. txn_is t u (sym e ∙ h), λ q. e ∙ subst (λ v. is_txn t v ≡ true) q (txn_itself t))
