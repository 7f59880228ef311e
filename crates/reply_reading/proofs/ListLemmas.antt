-- Rows and tables of contexts and of namespaces.
use Rattle.std.proofs.Common.{◌≡◌, ℕ, ◌<◌, List, [], ◌∷◌, ◌++◌, Bool, true, false, ◌&&◌, map, sym, ap, ◌∙◌, refl, arith, encode_utf8_all}
use Rattle.std.specs.Prelude.{IsTrue}
use Rattle.std.specs.Char.{is_ascii}
use Rattle.std.specs.List.{list_all}
use Rattle.std.specs.Str.{IsAscii, bytes_eq}
use Rattle.std.proofs.lemmas.Bool.Decides.{nat_tests}
use Rattle.std.proofs.lemmas.Slice.Eq.{bytes_eq-Decides}
use Rattle.std.proofs.lemmas.Str.{encodes_same, encodes-IsAscii}
use Rattle.std.proofs.lemmas.Str.Ascii.{IsAscii-nil, IsAscii-cons}
use Rattle.rdf_term.specs.declared.term.Term.{Term}
use Rattle.query_model.specs.declared.table.Table.{Table}
use Rattle.api_replies.specs.Tables.{context_row, contexts_table, namespace_row, namespaces_table}

-- what stands before the last of one item is nothing
pub one_left : {X : Type 0} (xs : List X) (last x : X) → xs ++ last ∷ [] ≡ x ∷ [] → (xs ≡ []) × (last ≡ x)
one_left [] last x e = (refl, cc)
one_left (y ∷ []) last x e = cc
one_left (y ∷ z ∷ ys) last x e = cc

-- and of two it is the first
pub two_left : {X : Type 0} (xs : List X) (last x y : X) → xs ++ last ∷ [] ≡ x ∷ y ∷ [] → (xs ≡ x ∷ []) × (last ≡ y)
two_left [] last x y e = cc
two_left (z ∷ zs) last x y e =
    let first : z ≡ x = cc in
    let tail : zs ++ last ∷ [] ≡ y ∷ [] = cc in
    let left = one_left zs last y tail in
    (cc (first, left.0), left.1)

-- a list that goes on with what is no image is no list of images
pub no_images : {T R : Type 0} (f : T → R) (xs : List T) (row : R) (rest : List R) (ys : List T) → map f xs ++ row ∷ rest ≡ map f ys
    → ((t : T) → row ≡ f t → ⊥) → ⊥
no_images f [] row rest [] e never = cc
no_images f [] row rest (y ∷ ys) e never = never y (cc)
no_images f (x ∷ xs) row rest [] e never = cc
no_images f (x ∷ xs) row rest (y ∷ ys) e never = let tail : map f xs ++ row ∷ rest ≡ map f ys = cc in no_images f xs row rest ys tail never

-- equal images of lists are images of equal lists
images : {T R : Type 0} (f : T → R) → ((x y : T) → f x ≡ f y → x ≡ y) → (xs ys : List T) → map f xs ≡ map f ys → xs ≡ ys
images f one [] [] e = refl
images f one [] (y ∷ ys) e = cc
images f one (x ∷ xs) [] e = cc
images f one (x ∷ xs) (y ∷ ys) e =
    let first : f x ≡ f y = cc in
    let tail : map f xs ≡ map f ys = cc in
    let head = one x y first in
    let rest = images f one xs ys tail in
    cc

one_context : (t u : Term) → context_row t ≡ context_row u → t ≡ u
one_context t u e = cc

one_pair : (p q : List ℕ × List ℕ) → namespace_row p ≡ namespace_row q → p ≡ q
one_pair p q e =
    let first : p.0 ≡ q.0 = cc in
    let second : p.1 ≡ q.1 = cc in
    λ i. (first i, second i)

-- a table is that of one list of contexts, or of prefixes
pub same_contexts : (names others : List Term) → contexts_table names ≡ contexts_table others → names ≡ others
same_contexts names others e = images context_row one_context names others (ap (λ (t : Table). t.rows) e)

pub same_pairs : (pairs others : List (List ℕ × List ℕ)) → namespaces_table pairs ≡ namespaces_table others → pairs ≡ others
same_pairs pairs others e = images namespace_row one_pair pairs others (ap (λ (t : Table). t.rows) e)

-- Names of columns

both : (a b : Bool) → (a && b) ≡ true → (a ≡ true) × (b ≡ true)
both true b e = (refl, e)
both false b e = cc

ascii_below : (c : ℕ) → is_ascii c ≡ true → c < 128
ascii_below c h = grind (arith, nat_tests, h)

ascii_all : (bytes : List ℕ) → list_all is_ascii bytes ≡ true → IsAscii bytes
ascii_all [] h = IsAscii-nil
ascii_all (b ∷ bs) h = let w = both (is_ascii b) (list_all is_ascii bs) h in IsAscii-cons b bs (ascii_below b w.0) (ascii_all bs w.1)

-- a text is one of ASCII characters where its bytes are
pub same_text : (text wanted bytes : List ℕ) (r : Bool) → list_all is_ascii wanted ≡ true → bytes ≡ encode_utf8_all text → r ≡ bytes_eq bytes wanted
    → (IsTrue r → text ≡ wanted) × (text ≡ wanted → IsTrue r)
same_text text wanted bytes r h is told =
    let same : encode_utf8_all wanted ≡ wanted = encodes-IsAscii wanted (ascii_all wanted h) in (
      λ yes. encodes_same text wanted (sym is ∙ (bytes_eq-Decides bytes wanted).0 (sym told ∙ yes) ∙ sym same),
      λ e. told ∙ (bytes_eq-Decides bytes wanted).1 (is ∙ ap encode_utf8_all e ∙ same),
    )
