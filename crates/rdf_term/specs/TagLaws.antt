-- A language tag is told from left to right.
use Rattle.std.specs.Prelude.{◌≡◌, ℕ, List, [], ◌∷◌, Bool, true, false, cond, ◌==◌, ◌&&◌, ◌||◌, refl}
use Rattle.std.specs.List.{list_all, slice_split, onto_first}
use Rattle.std.proofs.Common.{sym, ◌∙◌, ap, subst}
use Rattle.std.proofs.lemmas.Bool.{eqb-true}
use Rattle.rdf_term.specs.Classes.{is_letter, is_digit}
use Rattle.rdf_term.specs.Validity.{is_run, are_tag_parts, is_tag, is_tag_from}

abbrev is_word : ℕ → Bool
is_word = λ d. is_letter d || is_digit d

abbrev parts : List ℕ → List (List ℕ)
parts = slice_split (λ c. c == 45)

-- the rest of a part, and the parts after it
abbrev goes_on : Bool → (ℕ → Bool) → List ℕ → Bool
goes_on begun class [] = begun
goes_on begun class (c ∷ cs) = class c && list_all class cs

abbrev rest_are : Bool → (ℕ → Bool) → List (List ℕ) → Bool
rest_are begun class [] = begun
rest_are begun class (first ∷ more) = goes_on begun class first && list_all (is_run is_word) more

and_true : (a : Bool) → (a && true) ≡ a
and_true true = refl
and_true false = refl

or_false : (a : Bool) → (a || false) ≡ a
or_false true = refl
or_false false = refl

and_assoc : (a b c : Bool) → (a && (b && c)) ≡ ((a && b) && c)
and_assoc true b c = refl
and_assoc false b c = refl

begun_all : (class : ℕ → Bool) (cs : List ℕ) → goes_on true class cs ≡ list_all class cs
begun_all class [] = refl
begun_all class (c ∷ cs) = refl

new_run : (class : ℕ → Bool) (cs : List ℕ) → goes_on false class cs ≡ is_run class cs
new_run class [] = refl
new_run class (c ∷ cs) = refl

onto_are : (ps : List (List ℕ)) (c : ℕ) → rest_are false is_word (onto_first c ps) ≡ list_all (is_run is_word) (onto_first c ps)
onto_are [] c = refl
onto_are (q ∷ qs) c = refl

-- behind a hyphen the parts are runs
new_parts : (cs : List ℕ) → rest_are false is_word (parts cs) ≡ list_all (is_run is_word) (parts cs)
new_parts [] = refl
new_parts (c ∷ cs) = at (c == 45)
  where
    at : (b : Bool) → rest_are false is_word (cond b ([] ∷ parts cs) (onto_first c (parts cs))) ≡ list_all (is_run is_word) (cond b ([] ∷ parts cs) (onto_first c (parts cs)))
    at true = refl
    at false = onto_are (parts cs) c

onto_rest : (ps : List (List ℕ)) (begun : Bool) (class : ℕ → Bool) (c : ℕ) → (class c && rest_are true class ps) ≡ rest_are begun class (onto_first c ps)
onto_rest [] begun class c = sym (and_true (class c && true))
onto_rest (q ∷ qs) begun class c =
    ap (λ a. class c && (a && list_all (is_run is_word) qs)) (begun_all class q) ∙ and_assoc (class c) (list_all class q) (list_all (is_run is_word) qs)

by_parts : (cs : List ℕ) (begun : Bool) (class : ℕ → Bool) → class 45 ≡ false → is_tag_from begun class cs ≡ rest_are begun class (parts cs)
by_parts [] begun class apart = sym (and_true begun)
by_parts (c ∷ cs) begun class apart = at (c == 45) refl (by_parts cs true class apart) (by_parts cs false is_word refl)
  where
    at : (b : Bool) → (c == 45) ≡ b → is_tag_from true class cs ≡ rest_are true class (parts cs) → is_tag_from false is_word cs ≡ rest_are false is_word (parts cs)
        → ((class c && is_tag_from true class cs) || (b && begun && is_tag_from false is_word cs)) ≡ rest_are begun class (cond b ([] ∷ parts cs) (onto_first c (parts cs)))
    at true e t f =
        let none : class c ≡ false = subst (λ n. class n ≡ false) (sym (eqb-true c 45 e)) apart in
        ap (λ k. (k && is_tag_from true class cs) || (begun && is_tag_from false is_word cs)) none ∙ ap (λ k. begun && k) (f ∙ new_parts cs)
    at false e t f = or_false (class c && is_tag_from true class cs) ∙ ap (λ k. class c && k) t ∙ onto_rest (parts cs) begun class c

new_tag : (ps : List (List ℕ)) → are_tag_parts ps ≡ rest_are false is_letter ps
new_tag [] = refl
new_tag (q ∷ qs) = ap (λ k. k && list_all (is_run is_word) qs) (sym (new_run is_letter q))

-- a tag is known by its characters one after another
pub is_tag-automaton : (tag : List ℕ) → is_tag tag ≡ is_tag_from false is_letter tag
is_tag-automaton tag = new_tag (parts tag) ∙ sym (by_parts tag false is_letter refl)
