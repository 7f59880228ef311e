-- The names of the repositories of `workload` are distinct.
use Rattle.std.proofs.Common.{◌≡◌, Bool, true, false, ◌&&◌, ℕ, zero, suc, ◌+◌, ◌<◌, ◌≤◌, ◌^◌, List, [], ◌∷◌, ◌++◌, length, length-append, get_or, codes, decimal, Contains, sym, ap, ◌∙◌, refl, arith, inl, inr}
use Rattle.std.proofs.lemmas.Bool.{cases_lt}
use Rattle.std.proofs.Math.Seq.{get_or-append_seam}
use Rattle.std.proofs.Math.ListN.{get_or-append}
use Rattle.std.proofs.lemmas.Fmt.{decimal_injective}
use Rattle.std.specs.Fmt.{digits}
use Rattle.std.specs.List.{list_all}
use Rattle.rdf_term.specs.EachOnce.{EachOnce}
use Rattle.rdf_term.proofs.DistinctLemmas.{EachOnce-push}
use Rattle.api_replies.specs.Ids.{is_id}
use Rattle.session.specs.Houses.{AreNames}
use Rattle.rdf_server.specs.WorkTexts.{own_names, work_names}
use Rattle.rdf_server.proofs.WordLemmas.{head_same, tail_same}

pub length-own_names : (n : ℕ) → length (own_names n) ≡ n
length-own_names zero = refl
length-own_names (suc n) = omega (arith, length-append (own_names n) ((codes "w" ++ decimal n) ∷ []), length-own_names n)

pub length-work_names : (n : ℕ) → length (work_names n) ≡ n + 1
length-work_names n = omega (arith, length-append (own_names n) (codes "all" ∷ []), length-own_names n)

-- the name at a place
pub own_name_at : (n i : ℕ) (d : List ℕ) → i < n → get_or (own_names n) i d ≡ codes "w" ++ decimal i
own_name_at zero i d h = absurd (omega (arith, h))
own_name_at (suc n) i d h =
    elim (cases_lt i n) [
      | inl below ↦
          let inside : i < length (own_names n) = omega (arith, below, length-own_names n) in
          get_or-append (own_names n) ((codes "w" ++ decimal n) ∷ []) d i inside ∙ own_name_at n i d below
      | inr above ↦
          let same : i ≡ n = omega (arith, above, h) in
          let last : i ≡ length (own_names n) = same ∙ sym (length-own_names n) in
          ap (λ (k : ℕ). get_or (own_names n ++ (codes "w" ++ decimal n) ∷ []) k d) last ∙ get_or-append_seam (own_names n) (codes "w" ++ decimal n) [] d
          ∙ ap (λ (k : ℕ). codes "w" ++ decimal k) (sym same)
    ]

new_own : (n : ℕ) → n < 2 ^ 64 → Contains (own_names n) (codes "w" ++ decimal n) → ⊥
new_own n small h =
    let inside : h.0 < n = omega (arith, h.1, length-own_names n) in
    let same : codes "w" ++ decimal h.0 ≡ codes "w" ++ decimal n = sym (own_name_at n h.0 (codes "w" ++ decimal n) inside) ∙ h.2 in
    let place : h.0 ≡ n = decimal_injective h.0 n (omega (arith, inside, small)) small (tail_same 119 119 (decimal h.0) (decimal n) same) in
    absurd (omega (arith, inside, place))

pub own_names_once : (n : ℕ) → n < 2 ^ 64 → EachOnce (own_names n)
own_names_once zero small = λ i j d l h e. absurd (omega (arith, h))
own_names_once (suc n) small = EachOnce-push (own_names n) (codes "w" ++ decimal n) (own_names_once n (omega (arith, small))) (new_own n (omega (arith, small)))

new_all : (n : ℕ) → Contains (own_names n) (codes "all") → ⊥
new_all n h =
    let inside : h.0 < n = omega (arith, h.1, length-own_names n) in
    let same : codes "w" ++ decimal h.0 ≡ codes "all" = sym (own_name_at n h.0 (codes "all") inside) ∙ h.2 in
    let letter : 119 ≡ 97 = head_same 119 97 (decimal h.0) (codes "ll") same in
    absurd (omega (arith, letter))

pub work_names_once : (n : ℕ) → n < 2 ^ 64 → EachOnce (work_names n)
work_names_once n small = EachOnce-push (own_names n) (codes "all") (own_names_once n small) (new_all n)

-- each is an ID

and_true : (a b : Bool) → a ≡ true → b ≡ true → (a && b) ≡ true
and_true a b p q = ap (λ (x : Bool). x && b) p ∙ q

and_parts : (a b : Bool) → (a && b) ≡ true → (a ≡ true) × (b ≡ true)
and_parts true b e = (refl, e)
and_parts false b e = cc

own_id : (n : ℕ) → n < 15 → is_id (codes "w" ++ decimal n) ≡ true
unfolding digits
own_id zero h = refl
own_id (suc zero) h = refl
own_id (suc (suc zero)) h = refl
own_id (suc (suc (suc zero))) h = refl
own_id (suc (suc (suc (suc zero)))) h = refl
own_id (suc (suc (suc (suc (suc zero))))) h = refl
own_id (suc (suc (suc (suc (suc (suc zero)))))) h = refl
own_id (suc (suc (suc (suc (suc (suc (suc zero))))))) h = refl
own_id (suc (suc (suc (suc (suc (suc (suc (suc zero)))))))) h = refl
own_id (suc (suc (suc (suc (suc (suc (suc (suc (suc zero))))))))) h = refl
own_id (suc (suc (suc (suc (suc (suc (suc (suc (suc (suc zero)))))))))) h = refl
own_id (suc (suc (suc (suc (suc (suc (suc (suc (suc (suc (suc zero))))))))))) h = refl
own_id (suc (suc (suc (suc (suc (suc (suc (suc (suc (suc (suc (suc zero)))))))))))) h = refl
own_id (suc (suc (suc (suc (suc (suc (suc (suc (suc (suc (suc (suc (suc zero))))))))))))) h = refl
own_id (suc (suc (suc (suc (suc (suc (suc (suc (suc (suc (suc (suc (suc (suc zero)))))))))))))) h = refl
own_id (suc (suc (suc (suc (suc (suc (suc (suc (suc (suc (suc (suc (suc (suc (suc n))))))))))))))) h = absurd (omega (arith, h))

-- one more ID at the end
more_ids : (names : List (List ℕ)) (name : List ℕ) → list_all is_id names ≡ true → is_id name ≡ true → list_all is_id (names ++ name ∷ []) ≡ true
more_ids [] name all one = and_true (is_id name) true one refl
more_ids (x ∷ xs) name all one =
    let parts = and_parts (is_id x) (list_all is_id xs) all in
    and_true (is_id x) (list_all is_id (xs ++ name ∷ [])) parts.0 (more_ids xs name parts.1 one)

own_ids : (n : ℕ) → n ≤ 15 → list_all is_id (own_names n) ≡ true
own_ids zero h = refl
own_ids (suc n) h = more_ids (own_names n) (codes "w" ++ decimal n) (own_ids n (omega (arith, h))) (own_id n (omega (arith, h)))

pub are_work_names : (n : ℕ) → n ≤ 15 → AreNames (work_names n)
are_work_names n few = record {
  some = omega (arith, length-work_names n);
  few = omega (arith, length-work_names n, few);
  ids = more_ids (own_names n) (codes "all") (own_ids n few) refl;
  once = work_names_once n (omega (arith, few));
}
