-- Quads of one dictionary in another one.
use Rattle.std.specs.Prelude.{⊤, ◌≡◌, ℕ, ◌+◌, ◌-◌, ◌^◌, ◌<◌, Bool, true, false, cond, min, List, [], ◌∷◌, slice_index_or, length}
use Rattle.std.specs.List.{list_any, AllByRecursion}
use Rattle.std.specs.Ordering.{eq_by_cmp}
use Rattle.std.proofs.Common.{zero, suc}
use Rattle.rdf_term.specs.declared.term.Term.{Term}
use Rattle.rdf_term.specs.Statement.{Statement}
use Rattle.quad_index.specs.declared.code.Code.{Code}
use Rattle.quad_index.specs.Codes.{code_cmp, decode, IsCode, is_known, term_at}
use Rattle.quad_index.specs.Contents.{is_in}

-- of the codes of a dictionary's quads, those are among these whose quads are among others
pub record AreCodesOf (terms : List Term) (quads : List Statement) (codes : List Code) : Type 0 where
  pub same : (k : Code) → IsCode terms k → list_any (eq_by_cmp code_cmp k) codes ≡ is_in (decode terms k) quads

-- the ranks in a code
abbrev pub graph_ranks : ℕ → List ℕ
graph_ranks zero = []
graph_ranks (suc rank) = rank ∷ []

abbrev pub ranks_of : Code → List ℕ
ranks_of k = k.first ∷ k.second ∷ k.third ∷ graph_ranks k.fourth

-- a rank is marked, and so are those in a code
abbrev pub IsMarked : List Bool → ℕ → Type 0
IsMarked marks rank = slice_index_or marks rank false ≡ true

abbrev pub AreMarked : List Bool → Code → Type 0
AreMarked marks k = AllByRecursion (IsMarked marks) (ranks_of k)

-- the terms whose ranks are marked
abbrev pub marked_terms : List Term → List Bool → List Term
marked_terms [] marks = []
marked_terms (t ∷ ts) [] = []
marked_terms (t ∷ ts) (b ∷ bs) = cond b (t ∷ marked_terms ts bs) (marked_terms ts bs)

-- the number is the rank of the term, where the dictionary has it
abbrev pub IsRankOf : List Term → Term → ℕ → Type 0
IsRankOf terms t rank = is_known terms t ≡ true → (rank < length terms) × (term_at terms rank ≡ t)

-- these are the ranks of other terms, one by one
abbrev pub AreRanks : List Term → List Term → List ℕ → Type 0
AreRanks terms [] [] = ⊤
AreRanks terms [] (rank ∷ ranks) = ⊥
AreRanks terms (t ∷ ts) [] = ⊥
AreRanks terms (t ∷ ts) (rank ∷ ranks) = IsRankOf terms t rank × AreRanks terms ts ranks

-- a code where these are the ranks of the terms
abbrev pub carry_graph : List ℕ → ℕ → ℕ
carry_graph ranks zero = 0
carry_graph ranks (suc rank) = min (slice_index_or ranks rank 0 + 1) (2 ^ 32 - 1)

abbrev pub carry : List ℕ → Code → Code
carry ranks k = record {
  first = slice_index_or ranks k.first 0;
  second = slice_index_or ranks k.second 0;
  third = slice_index_or ranks k.third 0;
  fourth = carry_graph ranks k.fourth;
}
