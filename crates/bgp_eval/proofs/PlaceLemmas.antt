-- A place that was bound is unbound again.
use Rattle.std.proofs.Common.{◌≡◌, ℕ, zero, suc, ◌≤◌, List, [], ◌∷◌, Option, Some, None, length, refl, sym, ap, arith}
use Rattle.std.specs.Prelude.{slice_index_or, slice_set}
use Rattle.rdf_term.specs.declared.term.Term.{Term}

-- nothing changes where a row has no such place
pub none_there : (row : List (Option Term)) (n : ℕ) (value : Option Term) → length row ≤ n → slice_set row n value ≡ row
none_there [] n value h = refl
none_there (x ∷ row) zero value h = absurd (omega arith)
none_there (x ∷ row) (suc n) value h = let less : length row ≤ n = omega arith in ap (λ r. x ∷ r) (none_there row n value less)

-- what stands for a place past the end
pub none_past : (row : List (Option Term)) (n : ℕ) → length row ≤ n → None ≡ slice_index_or row n None
none_past [] n h = refl
none_past (x ∷ row) zero h = absurd (omega arith)
none_past (x ∷ row) (suc n) h = let less : length row ≤ n = omega arith in none_past row n less

pub unbound_again : (row : List (Option Term)) (n : ℕ) (value : Option Term) → slice_index_or row n None ≡ None → slice_set (slice_set row n value) n None ≡ row
unbound_again [] n value e = refl
unbound_again (x ∷ row) zero value e = ap (λ y. y ∷ row) (sym e)
unbound_again (x ∷ row) (suc n) value e = ap (λ r. x ∷ r) (unbound_again row n value e)
