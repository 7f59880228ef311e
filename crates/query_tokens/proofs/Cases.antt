-- Tests by cases, and characters of classes.
use Rattle.std.proofs.Common.{◌≡◌, refl, ◌∙◌, sym, ap, subst, ℕ, Bool, true, false, ◌==◌, ◌&&◌, ◌||◌, if◌then◌else◌, List, [], ◌∷◌, nat_le, nat_lt, IsTrue, ◌≤◌, arith}
use Rattle.std.proofs.lemmas.Bool.Decides.{Decides-eqb, nat_tests}
use Rattle.rdf_term.specs.Classes.{is_in, is_one_of, is_digit, is_letter, pn_chars_base}
use Rattle.query_model.specs.WellFormed.{is_name_start, is_var_char, is_name_char, is_dotted}
use Rattle.query_tokens.specs.Classes.{is_base}
use Rattle.query_tokens.specs.Lexemes.{In}

abbrev pub at : {class : ℕ → Bool} (c : ℕ) → class c ≡ true → In class
at c h = record { char = c; fits = h }

pub same_char : (c d : ℕ) → (c == d) ≡ true → c ≡ d
same_char c d h = (Decides-eqb c d).0 h

pub left_or : (a b : Bool) → a ≡ true → (a || b) ≡ true
left_or true b h = refl
left_or false b h = cc

pub right_or : (a b : Bool) → b ≡ true → (a || b) ≡ true
right_or true b h = refl
right_or false b h = h

pub other_or : (a b : Bool) → (a || b) ≡ true → a ≡ false → b ≡ true
other_or true b h e = cc
other_or false b h e = h

pub both : (a b : Bool) → a ≡ true → b ≡ true → (a && b) ≡ true
both true b e h = h
both false b e h = cc

pub split : (a b : Bool) → (a && b) ≡ true → (a ≡ true) × (b ≡ true)
split true b e = (refl, e)
split false b e = cc

pub by_case : (P : Type 0) (b : Bool) → (b ≡ true → P) → (b ≡ false → P) → P
by_case P true f g = f refl
by_case P false f g = g refl

pub then_is : {A : Type 0} (b : Bool) (x y : A) → b ≡ true → (if b then x else y) ≡ x
then_is true x y e = refl
then_is false x y e = cc

pub else_is : {A : Type 0} (b : Bool) (x y : A) → b ≡ false → (if b then x else y) ≡ y
else_is true x y e = cc
else_is false x y e = refl

-- the class holds of a character that is this one
pub of_char : (class : ℕ → Bool) (c d : ℕ) → (c == d) ≡ true → class d ≡ true → class c ≡ true
of_char class c d h k = ap class (same_char c d h) ∙ k

-- no character of the class is that one
pub apart : (class : ℕ → Bool) (c d : ℕ) → class c ≡ true → class d ≡ false → (c == d) ≡ false
apart class c d h k = by_case ((c == d) ≡ false) (c == d) (λ e. absurd (clash (class d) (ap class (sym (same_char c d e)) ∙ h) k)) (λ e. e) where
  clash : (b : Bool) → b ≡ true → b ≡ false → ⊥
  clash b x y = cc

-- what holds of each character of a list holds of one that is among them
abbrev pub AllOf : (ℕ → Type 0) → List ℕ → Type 0
AllOf P [] = Unit {0}
AllOf P (d ∷ ds) = P d × AllOf P ds

pub member : (P : ℕ → Type 0) (ds : List ℕ) (c : ℕ) → AllOf P ds → is_one_of ds c ≡ true → P c
member P [] c a h = cc
member P (d ∷ ds) c a h =
    by_case (P c) (d == c) (λ e. subst P (same_char d c e) a.0) (λ e. member P ds c a.1 (other_or (d == c) (is_one_of ds c) h e))

widened : (a b r : Bool) → (a || (b || false)) ≡ true → (a || (b || r)) ≡ true
widened true b r h = refl
widened false true r h = refl
widened false false r h = cc

pub letter_base : (c : ℕ) → is_letter c ≡ true → is_base c ≡ true
letter_base c h = widened (nat_le 0x41 c && nat_le c 0x5A) (nat_le 0x61 c && nat_le c 0x7A) _ h

pub base_name : (c : ℕ) → is_base c ≡ true → is_name_start c ≡ true
base_name c h = left_or (is_base c) (is_one_of (95 ∷ []) c) h

pub letter_name : (c : ℕ) → is_letter c ≡ true → is_name_char c ≡ true
letter_name c h = left_or (is_var_char c) (is_one_of (45 ∷ []) c) (left_or (is_name_start c) _ (base_name c (letter_base c h)))

pub name_dotted : (c : ℕ) → is_name_char c ≡ true → is_dotted c ≡ true
name_dotted c h = left_or (is_name_char c) (is_one_of (46 ∷ []) c) h

-- all ranges lie above the number
abbrev AllAbove : ℕ → List (ℕ × ℕ) → Type 0
AllAbove m [] = Unit {0}
AllAbove m (r ∷ rs) = IsTrue (nat_lt m r.0) × AllAbove m rs

-- a character below all ranges lies in none
below : (m c : ℕ) (ranges : List (ℕ × ℕ)) → c ≤ m → AllAbove m ranges → is_in ranges c ≡ false
below m c [] h a = refl
below m c (r ∷ rs) h a =
    let above : IsTrue (nat_lt m r.0) = a.0 in
    let out : nat_le r.0 c ≡ false = grind (arith, nat_tests) in
    none (nat_le r.0 c) (nat_le c r.1) (is_in rs c) out (below m c rs h a.1) where
      none : (x y z : Bool) → x ≡ false → z ≡ false → ((x && y) || z) ≡ false
      none true y z e f = cc
      none false y z e f = f

pub digit_no_base : (c : ℕ) → is_digit c ≡ true → is_base c ≡ false
digit_no_base c h =
    let k : (nat_le 0x30 c && nat_le c 0x39) ≡ true = only (nat_le 0x30 c && nat_le c 0x39) h in
    let small : c ≤ 57 = grind (arith, nat_tests) in
    below 57 c pn_chars_base small (refl, (refl, (refl, (refl, (refl, (refl, (refl, (refl, (refl, (refl, (refl, (refl, (refl, (refl, tt)))))))))))))) where
      only : (a : Bool) → (a || false) ≡ true → a ≡ true
      only true e = refl
      only false e = e

-- a digit is no letter
pub digit_no_letter : (c : ℕ) → is_digit c ≡ true → is_letter c ≡ false
digit_no_letter c h = not_wider (is_letter c) (letter_base c) (digit_no_base c h) where
  not_wider : (a : Bool) → (a ≡ true → is_base c ≡ true) → is_base c ≡ false → a ≡ false
  not_wider true f e = (let g : true ≡ false = sym (f refl) ∙ e in cc)
  not_wider false f e = refl
