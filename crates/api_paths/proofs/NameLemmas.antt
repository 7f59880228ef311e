-- The names of transactions.
use Rattle.std.proofs.Common.{◌≡◌, ◌≢◌, ℕ, suc, ◌<◌, ◌≤◌, ◌^◌, List, [], ◌∷◌, ◌++◌, length, get_or, decimal, refl, sym, ap, ◌∙◌, arith, encode_utf8_all, if◌then◌else◌, ◌==◌}
use Rattle.std.proofs.lemmas.Fmt.{decimal_is_IsNumeral, decimal_injective}
use Rattle.std.proofs.lemmas.Str.Parse.{digit_at}
use Rattle.journal.specs.declared.level.Level.{Level}
use Rattle.journal.specs.declared.level.Level.TheVariants.{NoIsolation, ReadUncommitted, ReadCommitted, SnapshotRead, Snapshot, Serializable}
use Rattle.journal.specs.declared.txn.Txn.{Txn}
use Rattle.journal.specs.Levels.{level_number}
use Rattle.api_paths.specs.TransactionNames.{OneTransaction, IsTransactionName, most_place}
use Rattle.std.specs.Str.{bytes_eq}
use Rattle.std.proofs.lemmas.Slice.Eq.{bytes_eq-Decides}
use Rattle.std.proofs.lemmas.Bool.Decides.{not_from_Decides}
use Rattle.std.specs.Prelude.{false, Option, Some, None, IfNone}

-- no digit is a hyphen
pub no_hyphen : (n : ℕ) → n < 2 ^ 64 → (i : ℕ) → i < length (decimal n) → get_or (decimal n) i 0 ≢ 45
no_hyphen n h i l e = let d = digit_at (decimal n) i (decimal_is_IsNumeral n h).0.1 l in absurd (omega arith)

-- what stands before and behind a first hyphen
same_sides : (xs ys zs ws : List ℕ) → ((i : ℕ) → i < length xs → get_or xs i 0 ≢ 45) → ((i : ℕ) → i < length zs → get_or zs i 0 ≢ 45)
    → xs ++ 45 ∷ ys ≡ zs ++ 45 ∷ ws → (xs ≡ zs) × (ys ≡ ws)
same_sides [] ys [] ws absent other e = (refl, cc)
same_sides [] ys (z ∷ zs) ws absent other e = let first : z ≡ 45 = cc in absurd (other 0 (omega arith) first)
same_sides (x ∷ xs) ys [] ws absent other e = let first : x ≡ 45 = cc in absurd (absent 0 (omega arith) first)
same_sides (x ∷ xs) ys (z ∷ zs) ws absent other e =
    let first : x ≡ z = cc in
    let rest : xs ++ 45 ∷ ys ≡ zs ++ 45 ∷ ws = cc in
    let same = same_sides xs ys zs ws (λ i l. absent (suc i) (omega arith)) (λ i l. other (suc i) (omega arith)) rest in
    (cc (same.0, first), same.1)

level_from : ℕ → Level
level_from n =
    if n == 0 then NoIsolation else if n == 1 then ReadUncommitted else if n == 2 then ReadCommitted
    else if n == 3 then SnapshotRead else if n == 4 then Snapshot else Serializable

from_number : (level : Level) → level_from (level_number level) ≡ level
unfolding level_from
from_number NoIsolation = refl
from_number ReadUncommitted = refl
from_number ReadCommitted = refl
from_number SnapshotRead = refl
from_number Snapshot = refl
from_number Serializable = refl

pub same_level : (a b : Level) → level_number a ≡ level_number b → a ≡ b
same_level a b e = sym (from_number a) ∙ ap level_from e ∙ from_number b

pub few_levels : (level : Level) → level_number level ≤ 5
few_levels NoIsolation = omega arith
few_levels ReadUncommitted = omega arith
few_levels ReadCommitted = omega arith
few_levels SnapshotRead = omega arith
few_levels Snapshot = omega arith
few_levels Serializable = omega arith

same_txn : (a b : Txn) → a.place ≡ b.place → a.level ≡ b.level → a ≡ b
same_txn a b p l = λ i. record { place = p i; level = l i }

pub same_name : (a b : Txn) → a.place < 2 ^ 64 → b.place < 2 ^ 64
    → decimal a.place ++ 45 ∷ decimal (level_number a.level) ≡ decimal b.place ++ 45 ∷ decimal (level_number b.level) → a ≡ b
same_name a b p q e =
    let l = few_levels a.level in
    let m = few_levels b.level in
    let same = same_sides (decimal a.place) (decimal (level_number a.level)) (decimal b.place) (decimal (level_number b.level)) (no_hyphen a.place p) (no_hyphen b.place q) e in
    same_txn a b (decimal_injective a.place b.place p q same.0)
    (same_level a.level b.level (decimal_injective (level_number a.level) (level_number b.level) (omega arith) (omega arith) same.1))

pub one_transaction : OneTransaction
one_transaction text a b x y = same_name a b (omega arith) (omega arith) (sym x.0 ∙ y.0)

-- a text of two numbers that are no transaction's is no name
pub not_named : (text : List ℕ) (bytes : List ℕ) (place code : ℕ) (found : Option Txn) → bytes ≡ encode_utf8_all text → bytes ≡ decimal place ++ 45 ∷ decimal code
    → place < 2 ^ 64 → code < 2 ^ 64
    → IfNone found ((txn : Txn) → txn.place ≡ place → level_number txn.level ≡ code → txn.place ≤ most_place → ⊥)
    → IfNone found ((txn : Txn) → IsTransactionName text txn → ⊥)
not_named text bytes place code (Some txn) e w p q h = tt
not_named text bytes place code None e w p q h = λ txn is.
    let l = few_levels txn.level in
    let same = same_sides (decimal txn.place) (decimal (level_number txn.level)) (decimal place) (decimal code) (no_hyphen txn.place (omega (arith, is.1))) (no_hyphen place p) (sym is.0 ∙ sym e ∙ w) in
    h txn (decimal_injective txn.place place (omega (arith, is.1)) p same.0) (decimal_injective (level_number txn.level) code (omega arith) q same.1) is.1

-- bytes that are found to differ are not the same
pub differ : (a b : List ℕ) → false ≡ bytes_eq a b → a ≡ b → ⊥
differ a b told same = not_from_Decides _ (bytes_eq-Decides a b) (sym told) same
