-- How long a label is.
use Rattle.std.proofs.Common.{◌≡◌, ℕ, suc, zero, ◌+◌, List, [], ◌∷◌, ◌++◌, true, false, ◌==◌, ◌||◌, refl, ap, ◌∙◌, sym, subst, drop, take, length, Some, arith, inl, inr}
use Rattle.std.proofs.lemmas.List.{take-append-drop}
use Rattle.std.proofs.Math.Seq.{take-append_seam, drop-append_seam}
use Rattle.rdf_term.specs.declared.term.Term.TheVariants.{Blank}
use Rattle.rdf_term.specs.Classes.{pn_chars, pn_chars_u, is_digit, is_one_of}
use Rattle.rdf_term.specs.Validity.{is_label, is_label_rest}
use Rattle.nquads_line.specs.Grammar.{IsLongest}
use Rattle.nquads_line.specs.Reading.{one_more, label_len, label_from, label_at, mark_at}
use Rattle.nquads_line.proofs.Steps.{chosen, take_then, take_else, both, split, either, or_left, or_right, true_or_false, equal, bind_ok, mark_ok}

-- the count of a label, of which `count` characters up to i were seen to belong to it, and n more follow i
abbrev pub counted : ℕ → ℕ → ℕ → ℕ
counted count i zero = count
counted count i (suc n) = i + suc n

at_char : (c : ℕ) (cs : List ℕ) → pn_chars c ≡ true → label_len (c ∷ cs) ≡ suc (label_len cs)
at_char c cs h = take_then (pn_chars c) _ _ h

at_dot : (c : ℕ) (cs : List ℕ) → pn_chars c ≡ false → (c == 46) ≡ true → label_len (c ∷ cs) ≡ one_more (label_len cs)
at_dot c cs h k = take_else (pn_chars c) _ _ h ∙ take_then (c == 46) _ _ k

pub at_other : (c : ℕ) (cs : List ℕ) → pn_chars c ≡ false → (c == 46) ≡ false → label_len (c ∷ cs) ≡ 0
at_other c cs h k = take_else (pn_chars c) _ _ h ∙ take_else (c == 46) _ _ k

-- one character more

in_more : (count i n : ℕ) → counted count i (suc n) ≡ counted (i + 1) (i + 1) n
in_more count i zero = omega arith
in_more count i (suc n) = omega arith

dot_more : (count i n : ℕ) → counted count i (one_more n) ≡ counted count (i + 1) n
dot_more count i zero = refl
dot_more count i (suc n) = omega arith

pub counted_in : (count i : ℕ) (c : ℕ) (cs : List ℕ) → pn_chars c ≡ true
    → counted count i (label_len (c ∷ cs)) ≡ counted (i + 1) (i + 1) (label_len cs)
counted_in count i c cs h = ap (counted count i) (at_char c cs h) ∙ in_more count i (label_len cs)

pub counted_dot : (count i : ℕ) (c : ℕ) (cs : List ℕ) → pn_chars c ≡ false → c ≡ 46
    → counted count i (label_len (c ∷ cs)) ≡ counted count (i + 1) (label_len cs)
counted_dot count i c cs h k =
    ap (counted count i) (at_dot c cs h (subst (λ d. (d == 46) ≡ true) (sym k) refl)) ∙ dot_more count i (label_len cs)

pub ruleset counting = (counted_in, counted_dot)

-- the label that is read

rest_cons : (c : ℕ) (l : List ℕ) → pn_chars c ≡ true → is_label_rest l ≡ true → is_label_rest (c ∷ l) ≡ true
rest_cons c [] h k = h
rest_cons c (d ∷ l) h k = both (pn_chars c || is_one_of (46 ∷ []) c) (is_label_rest (d ∷ l)) (or_left (pn_chars c) _ h) k

dot_one : (c : ℕ) → (c == 46) ≡ true → is_one_of (46 ∷ []) c ≡ true
dot_one c h = subst (λ d. is_one_of (46 ∷ []) d ≡ true) (sym (equal c 46 h)) refl

one_dot : (c : ℕ) → is_one_of (46 ∷ []) c ≡ true → (c == 46) ≡ true
one_dot c h =
    elim (either (46 == c) false h) [
      | inl e ↦ subst (λ d. (d == 46) ≡ true) (equal 46 c e) refl
      | inr e ↦ cc
    ]

label_valid : (cs : List ℕ) → is_label_rest (take (label_len cs) cs) ≡ true
label_valid [] = refl
label_valid (c ∷ cs) =
    elim (true_or_false (pn_chars c)) [
      | inl h ↦ subst (λ n. is_label_rest (take n (c ∷ cs)) ≡ true) (sym (at_char c cs h)) (rest_cons c (take (label_len cs) cs) h (label_valid cs))
      | inr h ↦ elim (true_or_false (c == 46)) [
        | inl k ↦ subst (λ n. is_label_rest (take n (c ∷ cs)) ≡ true) (sym (at_dot c cs h k)) (dots cs (label_len cs) refl (label_valid cs) k)
        | inr k ↦ subst (λ n. is_label_rest (take n (c ∷ cs)) ≡ true) (sym (at_other c cs h k)) refl
      ]
    ]
  where
    dots : (ds : List ℕ) (n : ℕ) → label_len ds ≡ n → is_label_rest (take (label_len ds) ds) ≡ true → (c == 46) ≡ true
        → is_label_rest (take (one_more n) (c ∷ ds)) ≡ true
    dots ds zero e v k = refl
    dots [] (suc n) e v k = cc
    dots (d ∷ ds) (suc n) e v k =
        both (pn_chars c || is_one_of (46 ∷ []) c) (is_label_rest (d ∷ take n ds)) (or_right (pn_chars c) _ (dot_one c k))
        (subst (λ m. is_label_rest (take m (d ∷ ds)) ≡ true) e v)

-- after it no character continues it
one_more_zero : (n : ℕ) → one_more n ≡ 0 → n ≡ 0
one_more_zero zero e = refl
one_more_zero (suc n) e = cc

label_ends : (cs : List ℕ) → label_len (drop (label_len cs) cs) ≡ 0
label_ends [] = refl
label_ends (c ∷ cs) =
    elim (true_or_false (pn_chars c)) [
      | inl h ↦ subst (λ n. label_len (drop n (c ∷ cs)) ≡ 0) (sym (at_char c cs h)) (label_ends cs)
      | inr h ↦ elim (true_or_false (c == 46)) [
        | inl k ↦ subst (λ n. label_len (drop n (c ∷ cs)) ≡ 0) (sym (at_dot c cs h k)) (dots h k (label_len cs) refl (label_ends cs))
        | inr k ↦ subst (λ n. label_len (drop n (c ∷ cs)) ≡ 0) (sym (at_other c cs h k)) (at_other c cs h k)
      ]
    ]
  where
    dots : pn_chars c ≡ false → (c == 46) ≡ true → (n : ℕ) → label_len cs ≡ n → label_len (drop (label_len cs) cs) ≡ 0
        → label_len (drop (one_more n) (c ∷ cs)) ≡ 0
    dots h k zero e i = at_dot c cs h k ∙ ap one_more e
    dots h k (suc n) e i = subst (λ m. label_len (drop m cs) ≡ 0) e i

-- a label that nothing continues is as long as it is
label_exact : (l after : List ℕ) → is_label_rest l ≡ true → label_len after ≡ 0 → label_len (l ++ after) ≡ length l
label_exact [] after h z = z
label_exact (c ∷ []) after h z = at_char c after h ∙ ap suc z
label_exact (c ∷ d ∷ l) after h z =
    let parts = split (pn_chars c || is_one_of (46 ∷ []) c) (is_label_rest (d ∷ l)) h in
    elim (true_or_false (pn_chars c)) [
      | inl p ↦ at_char c (d ∷ (l ++ after)) p ∙ ap suc (label_exact (d ∷ l) after parts.1 z)
      | inr p ↦ elim (either (pn_chars c) (is_one_of (46 ∷ []) c) parts.0) [
        | inl q ↦ cc
        | inr q ↦ at_dot c (d ∷ (l ++ after)) p (one_dot c q) ∙ ap one_more (label_exact (d ∷ l) after parts.1 z)
      ]
    ]

-- what could continue a label is empty where nothing does
none_more : (more rest : List ℕ) → is_label_rest more ≡ true → label_len (more ++ rest) ≡ 0 → more ≡ []
none_more [] rest h z = refl
none_more (c ∷ []) rest h z = let e : suc (label_len rest) ≡ 0 = sym (at_char c rest h) ∙ z in cc
none_more (c ∷ d ∷ ds) rest h z =
    let parts = split (pn_chars c || is_one_of (46 ∷ []) c) (is_label_rest (d ∷ ds)) h in
    elim (true_or_false (pn_chars c)) [
      | inl p ↦ (let e : suc (label_len (d ∷ (ds ++ rest))) ≡ 0 = sym (at_char c (d ∷ (ds ++ rest)) p) ∙ z in cc)
      | inr p ↦ elim (either (pn_chars c) (is_one_of (46 ∷ []) c) parts.0) [
        | inl q ↦ cc
        | inr q ↦ (let e = none_more (d ∷ ds) rest parts.1 (one_more_zero _ (sym (at_dot c (d ∷ (ds ++ rest)) p (one_dot c q)) ∙ z)) in cc)
      ]
    ]

rest_suffix : (l more : List ℕ) → is_label_rest (l ++ more) ≡ true → is_label_rest more ≡ true
rest_suffix [] more h = h
rest_suffix (c ∷ []) [] h = refl
rest_suffix (c ∷ []) (d ∷ ds) h = (split (pn_chars c || is_one_of (46 ∷ []) c) (is_label_rest (d ∷ ds)) h).1
rest_suffix (c ∷ d ∷ l) more h = rest_suffix (d ∷ l) more (split (pn_chars c || is_one_of (46 ∷ []) c) (is_label_rest (d ∷ (l ++ more))) h).1

rest_join : (a b : List ℕ) → is_label_rest a ≡ true → is_label_rest b ≡ true → is_label_rest (a ++ b) ≡ true
rest_join [] b h k = k
rest_join (c ∷ []) b h k = rest_cons c b h k
rest_join (c ∷ d ∷ l) b h k =
    let parts = split (pn_chars c || is_one_of (46 ∷ []) c) (is_label_rest (d ∷ l)) h in
    both (pn_chars c || is_one_of (46 ∷ []) c) (is_label_rest (d ∷ (l ++ b))) parts.0 (rest_join (d ∷ l) b parts.1 k)

taken : (cs : List ℕ) (n : ℕ) → label_len cs ≡ n → take n cs ≡ [] → n ≡ 0
taken cs zero e t = refl
taken [] (suc n) e t = cc
taken (c ∷ cs) (suc n) e t = cc

-- a label is the longest one exactly where nothing continues it
pub longest_ok : (label after : List ℕ) → is_label label ≡ true → label_len after ≡ 0 → IsLongest (Blank label) after
longest_ok [] after h z more rest e k = cc
longest_ok (c ∷ l) after h z more rest e k =
    none_more more rest (rest_suffix l more (split (pn_chars_u c || is_digit c) (is_label_rest (l ++ more)) k).1) (ap label_len (sym e) ∙ z)

pub longest_again : (label after : List ℕ) → is_label label ≡ true → IsLongest (Blank label) after → label_len after ≡ 0
longest_again [] after h k = cc
longest_again (c ∷ l) after h k =
    let parts = split (pn_chars_u c || is_digit c) (is_label_rest l) h in
    taken after (label_len after) refl (k (take (label_len after) after) (drop (label_len after) after) (sym (take-append-drop (label_len after) after))
    (both (pn_chars_u c || is_digit c) (is_label_rest (l ++ take (label_len after) after)) parts.0 (rest_join l (take (label_len after) after) parts.1 (label_valid after))))

abbrev pub IsLabelRead : List ℕ → List ℕ × List ℕ → Type 0
IsLabelRead cs x = (cs ≡ x.0 ++ x.1) × (is_label x.0 ≡ true) × (label_len x.1 ≡ 0)

from_ok : (cs : List ℕ) (x : List ℕ × List ℕ) → label_from cs ≡ Some x → IsLabelRead cs x
from_ok [] x e = cc
from_ok (c ∷ cs) x e =
    elim (chosen (pn_chars_u c || is_digit c) _ _ _ e) [
      | inl h ↦ (let same : (c ∷ take (label_len cs) cs, drop (label_len cs) cs) ≡ x = cc in
          subst (IsLabelRead (c ∷ cs)) same
          (ap (λ l. c ∷ l) (sym (take-append-drop (label_len cs) cs)), both (pn_chars_u c || is_digit c) (is_label_rest (take (label_len cs) cs)) h.0 (label_valid cs), label_ends cs))
      | inr h ↦ cc
    ]

pub label_ok : (cs : List ℕ) (x : List ℕ × List ℕ) → label_at cs ≡ Some x → (cs ≡ 95 ∷ 58 ∷ (x.0 ++ x.1)) × (is_label x.0 ≡ true) × (label_len x.1 ≡ 0)
unfolding label_at
label_ok cs x e =
    let a = bind_ok (mark_at 95 cs) _ x e in
    let b = bind_ok (mark_at 58 a.0) _ x a.2 in
    let f = from_ok b.0 x b.2 in
    (mark_ok 95 cs a.0 a.1 ∙ ap (λ l. 95 ∷ l) (mark_ok 58 a.0 b.0 b.1 ∙ ap (λ l. 58 ∷ l) f.0), f.1, f.2)

from_again : (label rest : List ℕ) → is_label label ≡ true → label_len rest ≡ 0 → label_from (label ++ rest) ≡ Some (label, rest)
from_again [] rest h z = cc
from_again (c ∷ l) rest h z =
    let parts = split (pn_chars_u c || is_digit c) (is_label_rest l) h in
    let n = label_exact l rest parts.1 z in
    take_then (pn_chars_u c || is_digit c) _ _ parts.0
    ∙ ap (λ k. Some (c ∷ take k (l ++ rest), drop k (l ++ rest))) n
    ∙ ap (λ t. Some (c ∷ t, drop (length l) (l ++ rest))) (take-append_seam l rest)
    ∙ ap (λ d. Some (c ∷ l, d)) (drop-append_seam l rest)

pub label_again : (label rest : List ℕ) → is_label label ≡ true → label_len rest ≡ 0 → label_at (95 ∷ 58 ∷ (label ++ rest)) ≡ Some (label, rest)
unfolding label_at
label_again label rest h z = from_again label rest h z
