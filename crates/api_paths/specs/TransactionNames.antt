-- The names of transactions in paths.
use Rattle.std.specs.Prelude.{◌≡◌, ℕ, ◌≤◌, List, ◌∷◌, ◌++◌, decimal, encode_utf8_all}
use Rattle.journal.specs.declared.txn.Txn.{Txn}
use Rattle.journal.specs.Levels.{level_number}

-- the greatest place that a name has
abbrev pub most_place : ℕ
most_place = 4611686018427387903

-- the place of the Begin in decimal, a hyphen and the number of the level
abbrev pub name_of : Txn → List ℕ
name_of txn = decimal txn.place ++ 45 ∷ decimal (level_number txn.level)

-- the text is the name of the transaction
abbrev pub IsTransactionName : List ℕ → Txn → Type 0
IsTransactionName text txn = (encode_utf8_all text ≡ name_of txn) × (txn.place ≤ most_place)

-- a text is the name of at most one transaction
abbrev pub OneTransaction : Type 0
OneTransaction = (text : List ℕ) (txn other : Txn) → IsTransactionName text txn → IsTransactionName text other → txn ≡ other
