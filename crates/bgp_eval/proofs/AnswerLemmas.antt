-- What is found follows from what was sought.
use Rattle.std.proofs.Common.{◌≡◌, ℕ, ◌+◌, ◌≤◌, List, [], ◌∷◌, Bool, true, false, Option, Some, None, nat_lt, min, refl, sym, ap, subst, ◌∙◌, arith, if◌then◌else◌, length, map}
use Rattle.std.specs.List.{filter_map, flat_map}
use Rattle.std.specs.List.Sorted.{IsPermutation}
use Rattle.std.proofs.lemmas.Bool.Decides.{nat_tests}
use Rattle.std.proofs.lemmas.List.{length-map, length-take, take_all}
use Rattle.std.proofs.lemmas.List.Sorted.{IsPermutation-map, length_permutation}
use Rattle.rdf_term.specs.declared.term.Term.{Term}
use Rattle.rdf_term.specs.Statement.{Statement}
use Rattle.rdf_term.specs.Sets.{in_order, rows_in_order}
use Rattle.query_model.specs.declared.query.Cut.{Cut}
use Rattle.query_model.specs.declared.query.Query.TheVariants.{Select, Ask, Construct}
use Rattle.query_model.specs.declared.query.Slot.{Slot}
use Rattle.query_model.specs.declared.query.Slot.TheVariants.{Var}
use Rattle.query_model.specs.declared.query.TriplePattern.{TriplePattern}
use Rattle.query_model.specs.declared.found.Found.TheVariants as answer
use Rattle.query_model.specs.Found.{are_more, constructed, cut_rows, found, made_of, projection, selected}
use Rattle.query_model.specs.Solutions.{solutions}
use Rattle.query_model.specs.Unknowns.{unknowns}
use Rattle.bgp_eval.specs.declared.part.Part.{Part}
use Rattle.bgp_eval.specs.declared.search.Kept.TheVariants.{Whole}
use Rattle.bgp_eval.specs.declared.search.Wanted.{Wanted}
use Rattle.bgp_eval.specs.Kept.{kept}
use Rattle.bgp_eval.specs.Parts.{part_of}
use Rattle.bgp_eval.specs.Sought.{IsOrdered, IsSought}
use Rattle.bgp_eval.specs.Ways.{columns}
use Rattle.bgp_eval.proofs.NumberLemmas.{value_of-is}

more_than : (m n : ℕ) → nat_lt m (min (m + 1) n) ≡ nat_lt m n
more_than m n = grind (arith, nat_tests)

-- more was found than so many where there are more solutions
pub are_enough : (wanted : Wanted) (group : List TriplePattern) (views : List (List Statement)) (rows : List (List (Option Term))) → IsSought wanted group views rows
    → nat_lt wanted.most (length rows) ≡ are_more wanted.most group views
are_enough wanted group views rows s =
    let long : length rows ≡ min (wanted.most + 1) (length s.all) = ap length s.kept ∙ length-take (wanted.most + 1) (map (kept wanted.kept) s.all) ∙ ap (min (wanted.most + 1)) (length-map s.all (kept wanted.kept)) in
    ap (nat_lt wanted.most) long ∙ more_than wanted.most (length s.all) ∙ ap (nat_lt wanted.most) (length_permutation (solutions group views) s.all s.solutions)

few : (m k n : ℕ) → k ≡ min (m + 1) n → nat_lt m k ≡ false → n ≤ m + 1
few m k n e h = grind (arith, nat_tests)

-- all of it is there where it isn't more
all_kept : (wanted : Wanted) (group : List TriplePattern) (views : List (List Statement)) (rows : List (List (Option Term))) → (s : IsSought wanted group views rows)
    → nat_lt wanted.most (length rows) ≡ false → rows ≡ map (kept wanted.kept) s.all
all_kept wanted group views rows s e =
    let long : length rows ≡ min (wanted.most + 1) (length (map (kept wanted.kept) s.all)) = ap length s.kept ∙ length-take (wanted.most + 1) (map (kept wanted.kept) s.all) in
    s.kept ∙ take_all (wanted.most + 1) (map (kept wanted.kept) s.all) (few wanted.most (length rows) _ long e)

map-same : {X Y : Type 0} (f g : X → Y) → ((x : X) → f x ≡ g x) → (xs : List X) → map f xs ≡ map g xs
map-same f g e [] = refl
map-same f g e (x ∷ xs) = λ i. e x i ∷ map-same f g e xs i

map-itself : {X : Type 0} (f : X → X) → ((x : X) → f x ≡ x) → (xs : List X) → map f xs ≡ xs
map-itself f e [] = refl
map-itself f e (x ∷ xs) = λ i. e x i ∷ map-itself f e xs i

-- the columns of parts that stand for variables
projected : (names : List Slot) (vars : List (List ℕ)) (row : List (Option Term)) → columns (map (λ var. part_of names (Var var)) vars) row ≡ projection names vars row
projected names [] row = refl
projected names (var ∷ vars) row = λ i. sym (value_of-is names row (Var var)) i ∷ projected names vars row i

chosen : {X : Type 0} (b : Bool) (x y : X) → b ≡ false → (if b then x else y) ≡ y
chosen true x y e = cc
chosen false x y e = refl

refused : {X : Type 0} (b : Bool) (x y : X) → b ≡ true → (if b then x else y) ≡ x
refused true x y e = refl
refused false x y e = cc

-- too many

pub select-many : (distinct : Bool) (vars : List (List ℕ)) (group : List TriplePattern) (cut : Cut) (views : List (List Statement)) (wanted : Wanted) (rows : List (List (Option Term)))
    → IsSought wanted group views rows → nat_lt wanted.most (length rows) ≡ true → found (Select distinct vars group cut) views wanted.most ≡ None
select-many distinct vars group cut views wanted rows s e = refused (are_more wanted.most group views) _ _ (sym (are_enough wanted group views rows s) ∙ e)

pub construct-many : (template group : List TriplePattern) (cut : Cut) (views : List (List Statement)) (wanted : Wanted) (rows : List (List (Option Term)))
    → IsSought wanted group views rows → nat_lt wanted.most (length rows) ≡ true → found (Construct template group cut) views wanted.most ≡ None
construct-many template group cut views wanted rows s e = refused (are_more wanted.most group views) _ _ (sym (are_enough wanted group views rows s) ∙ e)

-- what is found

pub select-all : (distinct : Bool) (vars copied : List (List ℕ)) (group : List TriplePattern) (cut : Cut) (views : List (List Statement)) (wanted : Wanted) (parts : List Part)
    (rows ordered left : List (List (Option Term))) → IsSought wanted group views rows → nat_lt wanted.most (length rows) ≡ false → ((row : List (Option Term)) → kept wanted.kept row ≡ columns parts row)
    → parts ≡ map (λ var. part_of (unknowns group) (Var var)) vars → IsOrdered distinct rows ordered → left ≡ cut_rows cut ordered → copied ≡ vars
    → found (Select distinct vars group cut) views wanted.most ≡ Some (answer.Table (record { vars = copied; rows = left }))
unfolding selected
select-all distinct vars copied group cut views wanted parts rows ordered left s few kept-is parts-are in_order cut-is same =
    let names : List Slot = unknowns group in
    let whole : rows ≡ map (projection names vars) s.all =
    all_kept wanted group views rows s few ∙ map-same (kept wanted.kept) (projection names vars) (λ row. kept-is row ∙ ap (λ p. columns p row) parts-are ∙ projected names vars row) s.all in
    let moved : IsPermutation (map (projection names vars) (solutions group views)) rows =
    subst (IsPermutation (map (projection names vars) (solutions group views))) (sym whole) (IsPermutation-map (projection names vars) (solutions group views) s.all s.solutions) in
    let sorted : ordered ≡ selected distinct vars group views = in_order (map (projection names vars) (solutions group views)) moved in
    chosen (are_more wanted.most group views) _ _ (sym (are_enough wanted group views rows s) ∙ few)
    ∙ (λ i. Some (answer.Table (record { vars = sym same i; rows = sym (cut-is ∙ ap (cut_rows cut) sorted) i })))

pub construct-all : (template group : List TriplePattern) (cut : Cut) (views : List (List Statement)) (wanted : Wanted) (names : List Slot)
    (rows ordered left : List (List (Option Term))) (quads : List Statement) → IsSought wanted group views rows → nat_lt wanted.most (length rows) ≡ false → wanted.kept ≡ Whole
    → names ≡ unknowns group → IsOrdered false rows ordered → left ≡ cut_rows cut ordered → quads ≡ in_order (flat_map (λ row. filter_map (made_of names row) template) left)
    → found (Construct template group cut) views wanted.most ≡ Some (answer.Quads quads)
unfolding constructed
construct-all template group cut views wanted names rows ordered left quads s few kept-is names-are sorted cut-is made =
    let whole : rows ≡ s.all = all_kept wanted group views rows s few ∙ ap (λ k. map (kept k) s.all) kept-is ∙ map-itself (kept Whole) (λ row. refl) s.all in
    let moved : IsPermutation (solutions group views) rows = subst (IsPermutation (solutions group views)) (sym whole) s.solutions in
    let rows-are : left ≡ cut_rows cut (rows_in_order (solutions group views)) = cut-is ∙ ap (cut_rows cut) (sorted (solutions group views) moved) in
    chosen (are_more wanted.most group views) _ _ (sym (are_enough wanted group views rows s) ∙ few)
    ∙ sym (ap (λ q. Some (answer.Quads q)) (made ∙ (λ i. in_order (flat_map (λ row. filter_map (made_of (names-are i) row) template) (rows-are i)))))

pub ask-all : (group : List TriplePattern) (views : List (List Statement)) (wanted : Wanted) (most : ℕ) (rows : List (List (Option Term))) (answered : Bool)
    → IsSought wanted group views rows → wanted.most ≡ 0 → answered ≡ nat_lt wanted.most (length rows) → found (Ask group) views most ≡ Some (answer.Truth answered)
ask-all group views wanted most rows answered s none e =
    sym (ap (λ b. Some (answer.Truth b)) (e ∙ are_enough wanted group views rows s ∙ ap (λ m. are_more m group views) none))
