-- The words of the program, each as the list of its characters.
use Rattle.std.specs.Prelude.{◌≡◌, ℕ, ◌≤◌, List, [], ◌∷◌, map, length, codes, Contains, IsTrue}
use Rattle.quad_index.specs.declared.letter.Letter.{Letter}
use Rattle.quad_index.specs.Letters.{IsArrangement, letter_byte, standard_orders}
use Rattle.api_replies.specs.Ids.{is_id}
use Rattle.session.specs.Houses.{AreNames}

-- The words are an option for each of these orders, `--order` and the order's four letters, and then these IDs. No order is named twice.
abbrev pub AreOptions : (words : List (List ℕ)) → (orders : List (List Letter)) → (ids : List (List ℕ)) → Type 0
AreOptions words [] ids = words ≡ ids
AreOptions words (order ∷ orders) ids = (rest : List (List ℕ)) × (words ≡ codes "--order" ∷ (map letter_byte order ∷ rest)) × IsArrangement order
    × (Contains orders order → ⊥) × AreOptions rest orders ids

-- The words are `stdio`, up to six options that name these orders, and these IDs: 1 to 16, distinct, each a letter or a digit and then up to 63
-- letters, digits, `_` or `-`.
pub record IsStdio (words : List (List ℕ)) (orders : List (List Letter)) (ids : List (List ℕ)) : Type 0 where
  pub behind : List (List ℕ)
  pub words_are : words ≡ codes "stdio" ∷ behind
  pub options : AreOptions behind orders ids
  pub few : length orders ≤ 6
  pub names : AreNames ids

-- the orders that a repository keeps where options name these: spoc and posc where they name none
abbrev pub kept_orders : List (List Letter) → List (List Letter)
kept_orders [] = standard_orders
kept_orders (order ∷ orders) = order ∷ orders

-- each of these is an ID that no later one repeats
abbrev pub AreIds : List (List ℕ) → Type 0
AreIds [] = Unit {0}
AreIds (id ∷ ids) = IsTrue (is_id id) × (Contains ids id → ⊥) × AreIds ids
