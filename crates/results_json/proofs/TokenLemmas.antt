-- The tokens of values.
use Rattle.std.proofs.Common.{◌≡◌, ℕ, List, [], ◌∷◌, ◌++◌, Option, Some, None, refl, sym, ap, ◌∙◌, append_assoc, append-nil}
use Rattle.rdf_term.specs.declared.term.Term.{Term}
use Rattle.json.specs.Token.{Token, key, begin_array, end_array, begin_object, end_object}
use Rattle.json.specs.Print.{print}
use Rattle.json.specs.Tree.{items_tokens, members_tokens}
use Rattle.serde_json.specs.Data.{Data, array, object, Members, no_members, member}
use Rattle.serde_json.specs.View.{items_of}
use Rattle.serde_json.specs.Written.{items_outline, members_outline, compact_text}
use Rattle.serde_json.proofs.Texts.{print-outline}
use Rattle.results_json.specs.Tables.{term_value}
use Rattle.results_json.specs.Columns.{data_tokens, open_tokens, list_tokens, bound_cell}

-- the bracket closes a list
pub list_closed : (ds : List Data) → items_tokens (items_outline (items_of ds)) ≡ list_tokens ds ++ end_array ∷ []
list_closed [] = refl
list_closed (d ∷ ds) = ap (λ ts. data_tokens d ++ ts) (list_closed ds) ∙ sym (append_assoc (data_tokens d) (list_tokens ds) (end_array ∷ []))

-- and an object
pub members_closed : (ms : Members) → members_tokens (members_outline ms) ≡ open_tokens ms ++ end_object ∷ []
members_closed no_members = refl
members_closed (member k d ms) =
    ap (λ ts. key k ∷ (data_tokens d ++ ts)) (members_closed ms) ∙ ap (λ ts. key k ∷ ts) (sym (append_assoc (data_tokens d) (open_tokens ms) (end_object ∷ [])))

-- a column that is bound stands before the others
pub cell_first : (k : List ℕ) (cell : Option (Option Term)) (ms : Members) → open_tokens (bound_cell k cell ms) ≡ open_tokens (bound_cell k cell no_members) ++ open_tokens ms
cell_first k None ms = refl
cell_first k (Some None) ms = refl
cell_first k (Some (Some t)) ms = ap (λ ts. key k ∷ (ts ++ open_tokens ms)) (sym (append-nil (data_tokens (term_value t))))

pub object_written : (ms : Members) (old a b new : List Token) → a ≡ old ++ begin_object ∷ [] → b ≡ a ++ open_tokens ms → new ≡ b ++ end_object ∷ []
    → new ≡ old ++ data_tokens (object ms)
object_written ms old a b new p q r =
    r ∙ ap (λ ts. ts ++ end_object ∷ []) (q ∙ ap (λ ts. ts ++ open_tokens ms) p)
    ∙ append_assoc (old ++ begin_object ∷ []) (open_tokens ms) (end_object ∷ []) ∙ append_assoc old (begin_object ∷ []) (open_tokens ms ++ end_object ∷ [])
    ∙ ap (λ ts. old ++ begin_object ∷ ts) (sym (members_closed ms))

-- a list in an object in an object
abbrev pub nested : List ℕ → List ℕ → List Data → Members
nested outer inner ds = member outer (object (member inner (array (items_of ds)) no_members)) no_members

nested_tokens : (outer inner : List ℕ) (ds : List Data)
    → open_tokens (nested outer inner ds) ≡ key outer ∷ begin_object ∷ key inner ∷ begin_array ∷ (list_tokens ds ++ end_array ∷ end_object ∷ [])
nested_tokens outer inner ds =
    ap (λ ts. key outer ∷ begin_object ∷ key inner ∷ begin_array ∷ ts)
    (append-nil (items_tokens (items_outline (items_of ds)) ++ end_object ∷ []) ∙ ap (λ ts. ts ++ end_object ∷ []) (list_closed ds)
    ∙ append_assoc (list_tokens ds) (end_array ∷ []) (end_object ∷ []))

pub nested_written : (outer inner : List ℕ) (ds : List Data) (old a b new : List Token) → a ≡ old ++ key outer ∷ begin_object ∷ key inner ∷ begin_array ∷ [] → b ≡ a ++ list_tokens ds
    → new ≡ b ++ end_array ∷ end_object ∷ [] → new ≡ old ++ open_tokens (nested outer inner ds)
nested_written outer inner ds old a b new p q r =
    let front = key outer ∷ begin_object ∷ key inner ∷ begin_array ∷ [] in
    r ∙ ap (λ ts. ts ++ end_array ∷ end_object ∷ []) (q ∙ ap (λ ts. ts ++ list_tokens ds) p)
    ∙ append_assoc (old ++ front) (list_tokens ds) (end_array ∷ end_object ∷ []) ∙ append_assoc old front (list_tokens ds ++ end_array ∷ end_object ∷ [])
    ∙ ap (λ ts. old ++ ts) (sym (nested_tokens outer inner ds))

-- tokens one by one
pub two_written : (old a new : List Token) (s t : Token) → a ≡ old ++ s ∷ [] → new ≡ a ++ t ∷ [] → new ≡ old ++ s ∷ t ∷ []
two_written old a new s t p q = q ∙ ap (λ ts. ts ++ t ∷ []) p ∙ append_assoc old (s ∷ []) (t ∷ [])

pub four_written : (old a b d new : List Token) (s t u v : Token) → a ≡ old ++ s ∷ [] → b ≡ a ++ t ∷ [] → d ≡ b ++ u ∷ [] → new ≡ d ++ v ∷ [] → new ≡ old ++ s ∷ t ∷ u ∷ v ∷ []
four_written old a b d new s t u v p q r w =
    two_written b d new u v r w ∙ ap (λ ts. ts ++ u ∷ v ∷ []) (two_written old a b s t p q) ∙ append_assoc old (s ∷ t ∷ []) (u ∷ v ∷ [])

-- the text of the tokens of a value
pub text_written : (d : Data) (ts : List Token) → ts ≡ data_tokens d → print ts ≡ compact_text d
text_written d ts e = ap print e ∙ print-outline d

pub three_more : (start old a b new : List Token) (r s t u v w x : Token) → start ≡ [] → old ≡ start ++ r ∷ s ∷ t ∷ u ∷ [] → a ≡ old ++ v ∷ [] → b ≡ a ++ w ∷ [] → new ≡ b ++ x ∷ []
    → new ≡ r ∷ s ∷ t ∷ u ∷ v ∷ w ∷ x ∷ []
three_more start old a b new r s t u v w x e f g h k =
    k ∙ ap (λ ts. ts ++ x ∷ []) (h ∙ ap (λ ts. ts ++ w ∷ []) (g ∙ ap (λ ts. ts ++ v ∷ []) (f ∙ ap (λ ts. ts ++ r ∷ s ∷ t ∷ u ∷ []) e)))
