-- The triples that shapes make are those that the template makes.
use Rattle.std.proofs.Common.{◌≡◌, ℕ, ◌+◌, ◌<◌, List, [], ◌∷◌, ◌++◌, Option, Some, None, suc, refl, sym, ap, ◌∙◌, length, map, take, get_or, add-zero, zero-add, arith}
use Rattle.std.specs.List.{cons_option, enumerate_from, filter_map, flat_map}
use Rattle.std.specs.Option.{option_to_list}
use Rattle.std.proofs.lemmas.List.{append_assoc, length-take-le, map-append, take_more}
use Rattle.std.proofs.lemmas.List.Elements.{filter_map-append}
use Rattle.rdf_term.specs.declared.term.Term.{Term}
use Rattle.rdf_term.specs.Statement.{Statement}
use Rattle.query_model.specs.declared.query.Slot.{Slot}
use Rattle.query_model.specs.declared.query.TriplePattern.{TriplePattern}
use Rattle.query_model.specs.Found.{made_of, triple_of}
use Rattle.bgp_eval.specs.declared.construct.Shape.{Shape}
use Rattle.bgp_eval.specs.Shapes.{shape_of, triple_in, triples_in}
use Rattle.bgp_eval.specs.Steps.{step_of, search_steps}
use Rattle.bgp_eval.proofs.NumberLemmas.{value_of-is}

-- one item more

filter_map-one : {X Y : Type 0} (f : X → Option Y) (x : X) → filter_map f (x ∷ []) ≡ option_to_list (f x)
filter_map-one f x = at (f x)
  where
    at : {Y : Type 0} (o : Option Y) → cons_option o [] ≡ option_to_list o
    at None = refl
    at (Some y) = refl

pub filter_map_more : {X Y : Type 0} (f : X → Option Y) (xs : List X) (i : ℕ) (d : X) → i < length xs → filter_map f (take (i + 1) xs) ≡ filter_map f (take i xs) ++ option_to_list (f (get_or xs i d))
filter_map_more f xs i d h = ap (filter_map f) (take_more xs i d h) ∙ filter_map-append f (take i xs) (get_or xs i d ∷ []) ∙ ap (λ ys. filter_map f (take i xs) ++ ys) (filter_map-one f (get_or xs i d))

-- shapes and templates

made : (names : List Slot) (row : List (Option Term)) (p : TriplePattern) → triple_in row (shape_of names p) ≡ made_of names row p
made names row p = λ i. triple_of (sym (value_of-is names row p.s) i) (sym (value_of-is names row p.p) i) (sym (value_of-is names row p.o) i)

filter_map-map : {X Y Z : Type 0} (f : Y → Option Z) (g : X → Y) (h : X → Option Z) → ((x : X) → f (g x) ≡ h x) → (xs : List X) → filter_map f (map g xs) ≡ filter_map h xs
filter_map-map f g h e [] = refl
filter_map-map f g h e (x ∷ xs) = λ i. cons_option (e x i) (filter_map-map f g h e xs i)

pub flat_map-same : {X Y : Type 0} (f g : X → List Y) → ((x : X) → f x ≡ g x) → (xs : List X) → flat_map f xs ≡ flat_map g xs
flat_map-same f g e [] = refl
flat_map-same f g e (x ∷ xs) = λ i. e x i ++ flat_map-same f g e xs i

pub triples-are : (names : List Slot) (template : List TriplePattern) (row : List (Option Term)) → triples_in (map (shape_of names) template) row ≡ filter_map (made_of names row) template
triples-are names template row = filter_map-map (triple_in row) (shape_of names) (made_of names row) (made names row) template

-- steps

enumerate_from-append : {X : Type 0} (n : ℕ) (xs : List X) (x : X) → enumerate_from n (xs ++ x ∷ []) ≡ enumerate_from n xs ++ (n + length xs, x) ∷ []
enumerate_from-append n [] x = ap (λ k. (k, x) ∷ []) (sym (add-zero n))
enumerate_from-append n (y ∷ xs) x =
    let next : (n m : ℕ) → (n + 1) + m ≡ n + suc m = λ n m. omega arith in
    ap (λ ys. (n, y) ∷ ys) (enumerate_from-append (n + 1) xs x ∙ ap (λ k. enumerate_from (n + 1) xs ++ (k, x) ∷ []) (next n (length xs)))

pub search_steps_more : (names : List Slot) (views : ℕ) (patterns : List TriplePattern) (i : ℕ) (x : TriplePattern) → i < length patterns → x ≡ get_or patterns i x
    → search_steps names views (take (i + 1) patterns) ≡ search_steps names views (take i patterns) ++ step_of names views (i, x) ∷ []
search_steps_more names views patterns i x h is =
    let long : length (take i patterns) ≡ i = length-take-le i patterns (omega arith) in
    ap (search_steps names views) (take_more patterns i x h)
    ∙ ap (map (step_of names views)) (enumerate_from-append 0 (take i patterns) (get_or patterns i x))
    ∙ map-append (step_of names views) (enumerate_from 0 (take i patterns)) ((0 + length (take i patterns), get_or patterns i x) ∷ [])
    ∙ (λ j. search_steps names views (take i patterns) ++ step_of names views ((zero-add (length (take i patterns)) ∙ long) j, sym is j) ∷ [])

-- triples

pub triples_in_more : (shapes : List Shape) (row : List (Option Term)) (i : ℕ) (x : Shape) (start done new : List Statement) (triple : Option Statement) → i < length shapes → x ≡ get_or shapes i x
    → done ≡ start ++ triples_in (take i shapes) row → triple ≡ triple_in row x → new ≡ done ++ option_to_list triple → new ≡ start ++ triples_in (take (i + 1) shapes) row
triples_in_more shapes row i x start done new triple h is before made now =
    now ∙ (λ j. before j ++ option_to_list (made j))
    ∙ append_assoc start (triples_in (take i shapes) row) (option_to_list (triple_in row x))
    ∙ ap (λ ys. start ++ ys) (ap (λ y. triples_in (take i shapes) row ++ option_to_list (triple_in row y)) is ∙ sym (filter_map_more (triple_in row) shapes i x h))

pub all_triples : (names : List Slot) (template : List TriplePattern) (shapes : List Shape) (rows : List (List (Option Term))) → shapes ≡ map (shape_of names) template
    → flat_map (triples_in shapes) rows ≡ flat_map (λ row. filter_map (made_of names row) template) rows
all_triples names template shapes rows e =
    flat_map-same (triples_in shapes) (λ row. filter_map (made_of names row) template) (λ row. ap (λ ss. triples_in ss row) e ∙ triples-are names template row) rows
