-- The numbers of unknowns.
use Rattle.std.proofs.Common.{◌≡◌, ℕ, ◌+◌, List, [], ◌∷◌, ◌++◌, Bool, true, false, cond, Option, Some, None, length, refl, ap, ◌∙◌, sym, ◌||◌, arith, slice_index_or, if◌then◌else◌}
use Rattle.std.proofs.Math.Numerals.{add-one}
use Rattle.std.specs.List.{list_any}
use Rattle.std.specs.Option.{is_some}
use Rattle.std.specs.Ordering.{eq_by_cmp, is_eq}
use Rattle.std.specs.declared.cmp.Ordering.{Ordering}
use Rattle.std.specs.declared.cmp.Ordering.TheVariants.{Less, Equal, Greater}
use Rattle.std.proofs.lemmas.Cmp.{eq_by_cmp_equiv}
use Rattle.rdf_term.specs.OrderLaws.{text_exact}
use Rattle.rdf_term.specs.TextOrder.{text_cmp, text_total}
use Rattle.rdf_term.specs.declared.term.Term.{Term}
use Rattle.query_model.specs.declared.query.Slot.{Slot}
use Rattle.query_model.specs.declared.query.Slot.TheVariants.{Var, Blank, Fixed}
use Rattle.query_model.specs.Unknowns.{is_same, value_at, value_of, with_unknown}
use Rattle.bgp_eval.specs.Parts.{next, number_in, numbered, part_of, part_value}

-- an unknown has a number where it stands among these
pub is_some-number_in : (names : List Slot) (x : Slot) → is_some (number_in names x) ≡ list_any (is_same x) names
is_some-number_in [] x = refl
is_some-number_in (name ∷ names) x = at (is_same x name) (number_in names x) (is_some-number_in names x)
  where
    at : (b : Bool) (n : Option ℕ) → is_some n ≡ list_any (is_same x) names → is_some (if b then Some 0 else next n) ≡ (b || list_any (is_same x) names)
    at true n h = refl
    at false None h = h
    at false (Some n) h = h

-- the number of an unknown that may stand at the end
abbrev pub or_last : Option ℕ → Bool → ℕ → Option ℕ
or_last (Some n) b last = Some n
or_last None b last = if b then Some last else None

pub number_in-push : (names : List Slot) (y x : Slot) → number_in (names ++ y ∷ []) x ≡ or_last (number_in names x) (is_same x y) (length names)
number_in-push [] y x = refl
number_in-push (name ∷ names) y x = at (is_same x name) (number_in names x) (number_in-push names y x)
  where
    inner : (b : Bool) (k : ℕ) → next (if b then Some k else None) ≡ (if b then Some (k + 1) else None)
    inner true k = refl
    inner false k = refl

    more : length names + 1 ≡ length (name ∷ names)
    more = omega arith

    at : (b : Bool) (n : Option ℕ) → number_in (names ++ y ∷ []) x ≡ or_last n (is_same x y) (length names)
        → (if b then Some 0 else next (number_in (names ++ y ∷ []) x)) ≡ or_last (if b then Some 0 else next n) (is_same x y) (length (name ∷ names))
    at true n h = refl
    at false (Some n) h = ap next h
    at false None h = ap next h ∙ inner (is_same x y) (length names) ∙ ap (λ k. if is_same x y then Some k else None) more

-- the value of an unknown is the value of what stands for it
pub value_at-is : (names : List Slot) (row : List (Option Term)) (x : Slot) → value_at names row x ≡ part_value row (numbered (number_in names x))
value_at-is [] row x = refl
value_at-is (name ∷ names) [] x = at (if is_same x name then Some 0 else next (number_in names x))
  where
    at : (n : Option ℕ) → None ≡ part_value [] (numbered n)
    at None = refl
    at (Some n) = refl
value_at-is (name ∷ names) (v ∷ row) x = at (is_same x name) (number_in names x) (value_at-is names row x)
  where
    here : (n : ℕ) → slice_index_or (v ∷ row) (n + 1) None ≡ slice_index_or row n None
    here n = ap (λ k. slice_index_or (v ∷ row) k None) (add-one n)

    at : (b : Bool) (n : Option ℕ) → value_at names row x ≡ part_value row (numbered n)
        → (if b then v else value_at names row x) ≡ part_value (v ∷ row) (numbered (if b then Some 0 else next n))
    at true n h = refl
    at false None h = h
    at false (Some n) h = h ∙ sym (here n)

pub value_of-is : (names : List Slot) (row : List (Option Term)) (x : Slot) → value_of names row x ≡ part_value row (part_of names x)
value_of-is names row (Var x) = value_at-is names row (Var x)
value_of-is names row (Blank x) = value_at-is names row (Blank x)
value_of-is names row (Fixed t) = refl

-- one unknown more in the list, and its number in the map of its kind

pub number_of_other : (names : List Slot) (y x : Slot) → is_same x y ≡ false → number_in (names ++ y ∷ []) x ≡ number_in names x
number_of_other names y x e = number_in-push names y x ∙ ap (λ b. or_last (number_in names x) b (length names)) e ∙ at (number_in names x)
  where
    at : (n : Option ℕ) → or_last n false (length names) ≡ n
    at (Some n) = refl
    at None = refl

number_of_last : (names : List Slot) (y x : Slot) → is_same x y ≡ true → number_in names x ≡ None → number_in (names ++ y ∷ []) x ≡ Some (length names)
number_of_last names y x e n = number_in-push names y x ∙ (λ i. or_last (n i) (e i) (length names))

-- x is looked up behind y in a map
looked_up : (names : List Slot) (y x : Slot) (b : Bool) (k : ℕ) (before after : Option ℕ) → is_same x y ≡ b → k ≡ length names
    → (b ≡ true → number_in names x ≡ None) → before ≡ number_in names x → after ≡ cond b (Some k) before → after ≡ number_in (names ++ y ∷ []) x
looked_up names y x true k before after same last none old new = new ∙ ap Some last ∙ sym (number_of_last names y x same (none refl))
looked_up names y x false k before after same last none old new = new ∙ old ∙ sym (number_of_other names y x same)

-- a text that ties with a key is what the key is
text_same : (key name q : List ℕ) → eq_by_cmp text_cmp key q ≡ true → key ≡ name → q ≡ name
text_same key name q e is = sym (to (text_cmp key q) refl e) ∙ is
  where
    to : (o : Ordering) → text_cmp key q ≡ o → is_eq o ≡ true → key ≡ q
    to Less f g = cc
    to Equal f g = text_exact key q f
    to Greater f g = cc

pub variables_more : (names : List Slot) (key name q : List ℕ) (k : ℕ) (before after : Option ℕ) → key ≡ name → k ≡ length names → number_in names (Var name) ≡ None
    → before ≡ number_in names (Var q) → after ≡ cond (eq_by_cmp text_cmp key q) (Some k) before → after ≡ number_in (names ++ Var name ∷ []) (Var q)
variables_more names key name q k before after is last none old new =
    looked_up names (Var name) (Var q) (eq_by_cmp text_cmp key q) k before after
    ((eq_by_cmp_equiv text_total).symm q name ∙ ap (λ n. eq_by_cmp text_cmp n q) (sym is)) last
    (λ e. ap (λ n. number_in names (Var n)) (text_same key name q e is) ∙ none) old new

pub blanks_more : (names : List Slot) (key name q : List ℕ) (k : ℕ) (before after : Option ℕ) → key ≡ name → k ≡ length names → number_in names (Blank name) ≡ None
    → before ≡ number_in names (Blank q) → after ≡ cond (eq_by_cmp text_cmp key q) (Some k) before → after ≡ number_in (names ++ Blank name ∷ []) (Blank q)
blanks_more names key name q k before after is last none old new =
    looked_up names (Blank name) (Blank q) (eq_by_cmp text_cmp key q) k before after
    ((eq_by_cmp_equiv text_total).symm q name ∙ ap (λ n. eq_by_cmp text_cmp n q) (sym is)) last
    (λ e. ap (λ n. number_in names (Blank n)) (text_same key name q e is) ∙ none) old new

pub no_number : (o : Option ℕ) (r : Bool) → r ≡ is_some o → r ≡ false → o ≡ None
no_number None r e f = refl
no_number (Some n) r e f = cc

pub stands : (names : List Slot) (x : Slot) (o : Option ℕ) (r : Bool) → r ≡ is_some o → r ≡ true → o ≡ number_in names x → names ≡ with_unknown names x
stands names x o r e f g = at (list_any (is_same x) names) (sym (is_some-number_in names x) ∙ ap is_some (sym g) ∙ sym e ∙ f)
  where
    at : (b : Bool) → b ≡ true → names ≡ (if b then names else names ++ x ∷ [])
    at true h = refl
    at false h = cc

pub added : (names : List Slot) (x : Slot) → number_in names x ≡ None → names ++ x ∷ [] ≡ with_unknown names x
added names x e = at (list_any (is_same x) names) (sym (is_some-number_in names x) ∙ ap is_some e)
  where
    at : (b : Bool) → b ≡ false → names ++ x ∷ [] ≡ (if b then names else names ++ x ∷ [])
    at true h = cc
    at false h = refl
