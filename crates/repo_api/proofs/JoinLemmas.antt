-- Values joined one by one are the values joined at once.
use Rattle.std.proofs.Common.{◌≡◌, ◌≤◌, subst, ℕ, List, [], ◌∷◌, ◌++◌, true, false, cond, fold, map, take, length, Option, Some, None, refl, sym, ap, ◌∙◌, append-nil, append_assoc, codes}
use Rattle.std.specs.List.{join_with_byte, filter}
use Rattle.std.proofs.lemmas.List.{take_all}
use Rattle.http_frame.specs.Fields.{is_named, values_of}
use Rattle.repo_api.specs.Accepts.{accept_of}
use Rattle.repo_api.specs.Joins.{joined_with, joined_field, text_or_empty}

-- values, each behind a comma
behind : List (List ℕ) → List ℕ
behind [] = []
behind (v ∷ vs) = 44 ∷ (v ++ behind vs)

folded : (text : List ℕ) (vs : List (List ℕ)) → fold joined_with (Some text) vs ≡ Some (text ++ behind vs)
unfolding behind
folded text [] = ap Some (sym (append-nil text))
folded text (v ∷ vs) = folded (text ++ 44 ∷ v) vs ∙ ap Some (append_assoc text (44 ∷ v) (behind vs))

joined_at_once : (v : List ℕ) (vs : List (List ℕ)) → v ++ behind vs ≡ join_with_byte 44 (v ∷ vs)
unfolding behind
joined_at_once v [] = append-nil v
joined_at_once v (w ∷ ws) = ap (λ rest. v ++ 44 ∷ rest) (joined_at_once w ws)

joined : (vs : List (List ℕ)) → text_or_empty (fold joined_with None vs) ≡ join_with_byte 44 vs
joined [] = refl
joined (v ∷ vs) = ap text_or_empty (folded v vs) ∙ joined_at_once v vs

by_fields : (fields : List (List ℕ × List ℕ)) (before : Option (List ℕ)) → fold joined_field before fields ≡ fold joined_with before (values_of (codes "accept") fields)
by_fields [] before = refl
by_fields (f ∷ fs) before =
    elim (is_named (codes "accept") f) as (λ t. fold joined_field (cond t (joined_with before f.1) before) fs
    ≡ fold joined_with before (map (λ (field : List ℕ × List ℕ). field.1) (cond t (f ∷ filter (is_named (codes "accept")) fs) (filter (is_named (codes "accept")) fs))))
    [ true ↦ by_fields fs (joined_with before f.1) | false ↦ by_fields fs before ]

pub accept_joined : (fields : List (List ℕ × List ℕ)) (joined_text : Option (List ℕ)) → joined_text ≡ fold joined_field None fields → text_or_empty joined_text ≡ accept_of fields
accept_joined fields text e = ap text_or_empty (e ∙ by_fields fields None) ∙ joined (values_of (codes "accept") fields)

-- what a loop over all fields joined
pub accept_whole : (fields items : List (List ℕ × List ℕ)) (i : ℕ) (text : Option (List ℕ)) → items ≡ fields → length items ≤ i → text ≡ fold joined_field None (take i fields)
    → text_or_empty text ≡ accept_of fields
accept_whole fields items i text same all e =
    accept_joined fields text (e ∙ ap (fold joined_field None) (take_all i fields (subst (λ (xs : List (List ℕ × List ℕ)). length xs ≤ i) same all)))
