-- The size of a content after changes that are known by their delta.
use Rattle.std.proofs.Common.{◌≡◌, ℕ, ◌+◌, ◌-◌, ◌≤◌, ◌^◌, Bool, true, false, not, List, [], ◌∷◌, length, filter, min, refl, sym, arith, cond, subst}
use Rattle.std.specs.Prelude.{encode_utf8_all}
use Rattle.std.specs.List.{sum_by}
use Rattle.std.specs.List.Sorted.{IsStrictlySortedBy}
use Rattle.std.proofs.lemmas.List.Sums.{sum_by-cons}
use Rattle.rdf_term.specs.Statement.{Statement}
use Rattle.rdf_term.specs.Order.{quad_cmp}
use Rattle.rdf_term.specs.Canonical.{canonical_line}
use Rattle.quad_index.specs.Contents.{is_in}
use Rattle.branch.specs.declared.deltas.Delta.{Delta}
use Rattle.branch.specs.Deltas.{IsDelta}
use Rattle.branch.proofs.DeltaLemmas.{length-delta, sum_by-delta}
use Rattle.journal.specs.Replies.{line_bytes, bytes_of}

-- a line's bytes are those of its text
pub line_is : (q : Statement) → line_bytes q ≡ length (encode_utf8_all (canonical_line q))
unfolding line_bytes
line_is q = refl

sum-filter : {A : Type 0} (f : A → ℕ) (test : A → Bool) (xs : List A) → sum_by f (filter test xs) ≤ sum_by f xs
sum-filter f test [] = omega arith
sum-filter f test (x ∷ xs) = go (test x) (sum-filter f test xs)
  where
    go : (b : Bool) → sum_by f (filter test xs) ≤ sum_by f xs → sum_by f (cond b (x ∷ filter test xs) (filter test xs)) ≤ sum_by f (x ∷ xs)
    go true ih = omega (arith, ih, sum_by-cons f x (filter test xs), sum_by-cons f x xs)
    go false ih = omega (arith, ih, sum_by-cons f x xs)

length-filter_le : {A : Type 0} (test : A → Bool) (xs : List A) → length (filter test xs) ≤ length xs
length-filter_le test [] = omega arith
length-filter_le test (x ∷ xs) = go (test x) (length-filter_le test xs)
  where
    go : (b : Bool) → length (filter test xs) ≤ length xs → length (cond b (x ∷ filter test xs) (filter test xs)) ≤ length (x ∷ xs)
    go true ih = omega (arith, ih)
    go false ih = omega (arith, ih)

-- what a delta takes away was there
pub removed_quads_le : (old new : List Statement) (it : Delta) → IsDelta old new it → length it.removed ≤ length old
removed_quads_le old new it d = subst (λ (qs : List Statement). length qs ≤ length old) (sym d.removed) (length-filter_le (λ q. not (is_in q new)) old)

pub removed_bytes_le : (old new : List Statement) (it : Delta) → IsDelta old new it → bytes_of it.removed ≤ bytes_of old
removed_bytes_le old new it d = subst (λ (qs : List Statement). bytes_of qs ≤ bytes_of old) (sym d.removed) (sum-filter line_bytes (λ q. not (is_in q new)) old)

-- the sizes of the newer content, up to the greatest number
pub quads_are : (old new : List Statement) (it : Delta) (quads : ℕ) → IsStrictlySortedBy quad_cmp old → IsStrictlySortedBy quad_cmp new → IsDelta old new it → quads ≡ length old
    → min (quads - length it.removed + length it.added) (2 ^ 64 - 1) ≡ min (length new) (2 ^ 64 - 1)
quads_are old new it quads s t d is =
    let e = length-delta old new it s t d in
    let le = removed_quads_le old new it d in
    omega (arith, e, le)

pub bytes_are : (old new : List Statement) (it : Delta) (bytes : ℕ) → IsStrictlySortedBy quad_cmp old → IsStrictlySortedBy quad_cmp new → IsDelta old new it → bytes ≡ bytes_of old
    → min (bytes - bytes_of it.removed + bytes_of it.added) (2 ^ 64 - 1) ≡ min (bytes_of new) (2 ^ 64 - 1)
bytes_are old new it bytes s t d is =
    let e = sum_by-delta line_bytes old new it s t d in
    let le = removed_bytes_le old new it d in
    omega (arith, e, le)
