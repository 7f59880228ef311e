-- What is found over valid quads for a well-formed query is valid.
use Rattle.std.proofs.Common.{◌≡◌, ◌≤◌, ℕ, suc, Bool, true, false, cond, ◌&&◌, List, [], ◌∷◌, ◌++◌, map, filter, length, drop, take, fold, max, Option, Some, None, nat_lt, refl, sym, ap, subst, ◌∙◌, arith, if◌then◌else◌}
use Rattle.std.specs.Prelude.{IfSome}
use Rattle.std.specs.List.{All, AllByRecursion, cons_option, filter_map, flat_map, list_all}
use Rattle.std.specs.Ordering.{match_ordering}
use Rattle.std.specs.Str.{all_scalars}
use Rattle.std.specs.BTreeSet.{insert_key}
use Rattle.std.specs.declared.cmp.Ordering.{Ordering}
use Rattle.std.specs.declared.cmp.Ordering.TheVariants.{Less, Equal, Greater}
use Rattle.std.proofs.lemmas.List.{length-map}
use Rattle.std.proofs.lemmas.List.Elements.{All-drop, All-from_recursion, All-head, All-tail, All-take}
use Rattle.rdf_term.specs.declared.term.Term.{Term}
use Rattle.rdf_term.specs.declared.term.Term.TheVariants as term
use Rattle.rdf_term.specs.declared.graph.Graph.{Graph}
use Rattle.rdf_term.specs.declared.graph.Graph.TheVariants.{Absent, Named}
use Rattle.rdf_term.specs.Statement.{Statement}
use Rattle.rdf_term.specs.Order.{quad_cmp, row_cmp, term_cmp}
use Rattle.rdf_term.specs.Sets.{in_order, insert_item, rows_in_order, sorted_list, sorted_set}
use Rattle.rdf_term.specs.Validity.{IsValidGraph, IsValidQuad, IsValidTerm}
use Rattle.query_model.specs.declared.query.Slot.{Slot}
use Rattle.query_model.specs.declared.query.Slot.TheVariants.{Var, Blank, Fixed}
use Rattle.query_model.specs.declared.query.TriplePattern.{TriplePattern}
use Rattle.query_model.specs.declared.query.Cut.{Cut}
use Rattle.query_model.specs.declared.query.Query.{Query}
use Rattle.query_model.specs.declared.query.Query.TheVariants.{Select, Ask, Construct}
use Rattle.query_model.specs.declared.found.Found.{Found}
use Rattle.query_model.specs.declared.found.Found.TheVariants as answer
use Rattle.query_model.specs.Unknowns.{is_same, unknowns, value_at, value_of}
use Rattle.query_model.specs.Solutions.{assignments, graph_terms, group_of, is_found, lookups, lookups_of, quad_terms, solutions, terms_of}
use Rattle.query_model.specs.Found.{are_more, constructed, cut_rows, found, is_iri, is_resource, limited, made_of, projection, selected, triple_of}
use Rattle.query_model.specs.FoundValid.{FewLookups, FoundIsValid, IsValidFound, IsValidRow}
use Rattle.query_model.specs.WellFormed.{AreProjected, ArePatterns, AreTemplate, IsFixed, IsIri, IsPattern, IsSlot, IsTemplatePattern, IsVarName, IsVarOrIri, IsWellFormed}
use Rattle.query_model.proofs.ElementLemmas.{both, each-append}

-- what holds of each item, of lists that are made of others

each_of : {X : Type 0} (P : X → Type 0) (xs : List X) → All P xs → AllByRecursion P xs
each_of P [] a = tt
each_of P (x ∷ xs) a = (All-head P x xs a, each_of P xs (All-tail P x xs a))

each-image : {X Y : Type 0} (P : X → Type 0) (Q : Y → Type 0) (f : X → Y) → ((x : X) → P x → Q (f x)) → (xs : List X) → AllByRecursion P xs → AllByRecursion Q (map f xs)
each-image P Q f h [] a = tt
each-image P Q f h (x ∷ xs) a = (h x a.0, each-image P Q f h xs a.1)

each-joined : {X Y : Type 0} (P : X → Type 0) (Q : Y → Type 0) (f : X → List Y) → ((x : X) → P x → AllByRecursion Q (f x)) → (xs : List X) → AllByRecursion P xs
    → AllByRecursion Q (flat_map f xs)
each-joined P Q f h [] a = tt
each-joined P Q f h (x ∷ xs) a = each-append Q (f x) (flat_map f xs) (h x a.0) (each-joined P Q f h xs a.1)

each-passed : {X : Type 0} (P : X → Type 0) (test : X → Bool) (xs : List X) → AllByRecursion P xs → AllByRecursion P (filter test xs)
each-passed P test [] a = tt
each-passed P test (x ∷ xs) a = at (test x) (each-passed P test xs a.1)
  where
    at : (b : Bool) → AllByRecursion P (filter test xs) → AllByRecursion P (cond b (x ∷ filter test xs) (filter test xs))
    at true rest = (a.0, rest)
    at false rest = rest

each-made : {X Y : Type 0} (P : X → Type 0) (Q : Y → Type 0) (f : X → Option Y) → ((x : X) → P x → IfSome (f x) Q) → (xs : List X) → AllByRecursion P xs
    → AllByRecursion Q (filter_map f xs)
each-made P Q f h [] a = tt
each-made {Y = Y} P Q f h (x ∷ xs) a = at (f x) (h x a.0) (each-made P Q f h xs a.1)
  where
    at : (o : Option Y) → IfSome o Q → AllByRecursion Q (filter_map f xs) → AllByRecursion Q (cons_option o (filter_map f xs))
    at None q rest = rest
    at (Some y) q rest = (q, rest)

module _ {K : Type 0} (P : K → Type 0) (R : K → K → Ordering) where
  each-inserted : (xs : List K) (k : K) → AllByRecursion P xs → P k → AllByRecursion P (insert_key R xs k)
  each-inserted [] k a p = (p, tt)
  each-inserted (x ∷ xs) k a p = at (R k x) (each-inserted xs k a.1 p)
    where
      at : (r : Ordering) → AllByRecursion P (insert_key R xs k) → AllByRecursion P (match_ordering r (k ∷ x ∷ xs) (x ∷ xs) (x ∷ insert_key R xs k))
      at Less rest = (p, a)
      at Equal rest = a
      at Greater rest = (a.0, rest)

  each-set_from : (acc xs : List K) → AllByRecursion P acc → AllByRecursion P xs → AllByRecursion P (fold (λ s x. insert_key R s x) acc xs)
  each-set_from acc [] a b = a
  each-set_from acc (x ∷ xs) a b = each-set_from (insert_key R acc x) xs (each-inserted acc x a b.0) b.1

  each-set : (xs : List K) → AllByRecursion P xs → AllByRecursion P (sorted_set R xs)
  each-set xs a = each-set_from [] xs tt a

  each-put : (xs : List K) (k : K) → AllByRecursion P xs → P k → AllByRecursion P (insert_item R xs k)
  each-put [] k a p = (p, tt)
  each-put (x ∷ xs) k a p = at (R k x) (each-put xs k a.1 p)
    where
      at : (r : Ordering) → AllByRecursion P (insert_item R xs k) → AllByRecursion P (match_ordering r (k ∷ x ∷ xs) (k ∷ x ∷ xs) (x ∷ insert_item R xs k))
      at Less rest = (p, a)
      at Equal rest = (p, a)
      at Greater rest = (a.0, rest)

  each-list_from : (acc xs : List K) → AllByRecursion P acc → AllByRecursion P xs → AllByRecursion P (fold (λ s x. insert_item R s x) acc xs)
  each-list_from acc [] a b = a
  each-list_from acc (x ∷ xs) a b = each-list_from (insert_item R acc x) xs (each-put acc x a b.0) b.1

  each-list : (xs : List K) → AllByRecursion P xs → AllByRecursion P (sorted_list R xs)
  each-list xs a = each-list_from [] xs tt a

-- the terms of valid views are valid

graph_valid : (c : Graph) → IsValidGraph c → AllByRecursion IsValidTerm (graph_terms c)
graph_valid Absent h = tt
graph_valid (Named t) h = (h, tt)

terms_valid : (views : List (List Statement)) → All (All IsValidQuad) views → AllByRecursion IsValidTerm (terms_of views)
unfolding terms_of
terms_valid views h =
    let quads = each-joined (All IsValidQuad) IsValidQuad (λ view. view) (λ view a. each_of IsValidQuad view a) views (each_of (All IsValidQuad) views h) in
    each-set IsValidTerm term_cmp (flat_map quad_terms (flat_map (λ view. view) views))
    (each-joined IsValidQuad IsValidTerm quad_terms (λ q k. (k.0, (k.1, (k.2, graph_valid q.c k.3)))) (flat_map (λ view. view) views) quads)

-- so is what the solutions bind

abbrev IsValidValue : Option Term → Type 0
IsValidValue value = IfSome value IsValidTerm

abbrev IsBound : List (Option Term) → Type 0
IsBound row = AllByRecursion IsValidValue row

each_assigned : (names : List Slot) (terms : List Term) → AllByRecursion IsValidTerm terms → AllByRecursion IsBound (assignments names terms)
each_assigned [] terms a = (tt, tt)
each_assigned (name ∷ names) terms a =
    each-joined IsValidTerm IsBound (λ t. map (λ row. Some t ∷ row) (assignments names terms))
    (λ t h. each-image IsBound IsBound (λ row. Some t ∷ row) (λ row b. (h, b)) (assignments names terms) (each_assigned names terms a)) terms a

solutions_valid : (patterns : List TriplePattern) (views : List (List Statement)) → All (All IsValidQuad) views → AllByRecursion IsBound (solutions patterns views)
unfolding solutions
solutions_valid patterns views h =
    each-passed IsBound (λ row. list_all (is_found (unknowns patterns) row) (lookups views patterns)) (assignments (unknowns patterns) (terms_of views))
    (each_assigned (unknowns patterns) (terms_of views) (terms_valid views h))

value_valid : (names : List Slot) (row : List (Option Term)) (x : Slot) → IsBound row → IsValidValue (value_at names row x)
value_valid [] row x b = tt
value_valid (name ∷ names) [] x b = tt
value_valid (name ∷ names) (value ∷ row) x b = at (is_same x name) (value_valid names row x b.1)
  where
    at : (same : Bool) → IsValidValue (value_at names row x) → IsValidValue (if same then value else value_at names row x)
    at true rest = b.0
    at false rest = rest

-- tables

row_valid : (names : List Slot) (vars : List (List ℕ)) (row : List (Option Term)) → IsBound row → IsValidRow vars (projection names vars row)
row_valid names vars row b = (
  length-map vars (λ var. value_of names row (Var var)),
  All-from_recursion IsValidValue (projection names vars row) (columns vars),
)
  where
    columns : (vs : List (List ℕ)) → IsBound (projection names vs row)
    columns [] = tt
    columns (v ∷ vs) = (value_valid names row (Var v) b, columns vs)

cut_valid : (P : List (Option Term) → Type 0) (cut : Cut) (rows : List (List (Option Term))) → All P rows → All P (cut_rows cut rows)
cut_valid P cut rows a = at cut.limit
  where
    at : (limit : Option ℕ) → All P (limited limit (drop cut.offset rows))
    at None = All-drop P cut.offset rows a
    at (Some n) = All-take P n (drop cut.offset rows) (All-drop P cut.offset rows a)

selected_valid : (distinct : Bool) (vars : List (List ℕ)) (group : List TriplePattern) (views : List (List Statement)) → All (All IsValidQuad) views
    → All (IsValidRow vars) (selected distinct vars group views)
unfolding selected
selected_valid distinct vars group views h = at distinct
  where
    rows : List (List (Option Term))
    rows = map (projection (unknowns group) vars) (solutions group views)

    each : AllByRecursion (IsValidRow vars) (map (projection (unknowns group) vars) (solutions group views))
    each = each-image IsBound (IsValidRow vars) (projection (unknowns group) vars) (λ row b. row_valid (unknowns group) vars row b) (solutions group views) (solutions_valid group views h)

    at : (b : Bool) → All (IsValidRow vars) (if b then sorted_set row_cmp (map (projection (unknowns group) vars) (solutions group views)) else rows_in_order (map (projection (unknowns group) vars) (solutions group views)))
    at true = All-from_recursion (IsValidRow vars) _ (each-set (IsValidRow vars) row_cmp _ each)
    at false = All-from_recursion (IsValidRow vars) _ (each-list (IsValidRow vars) row_cmp _ each)

vars_scalars : (vars : List (List ℕ)) → AllByRecursion IsVarName vars → list_all all_scalars vars ≡ true
vars_scalars [] a = refl
vars_scalars (v ∷ vs) a = λ i. (both (all_scalars v) _ a.0).0 i && vars_scalars vs a.1 i

-- triples

fixed_valid : (t : Term) → IsFixed t → IsValidTerm t
fixed_valid (term.Iri t) h = h
fixed_valid (term.Blank t) h = absurd h
fixed_valid (term.Plain t) h = h
fixed_valid (term.Tagged t u) h = h
fixed_valid (term.Typed t u) h = h

iri_valid : (t : Term) → IsIri t → IsValidTerm t
iri_valid (term.Iri t) h = h
iri_valid (term.Blank t) h = absurd h
iri_valid (term.Plain t) h = absurd h
iri_valid (term.Tagged t u) h = absurd h
iri_valid (term.Typed t u) h = absurd h

slot_valid : (names : List Slot) (row : List (Option Term)) (x : Slot) → IsSlot x → IsBound row → IsValidValue (value_of names row x)
slot_valid names row (Var x) h b = value_valid names row (Var x) b
slot_valid names row (Blank x) h b = value_valid names row (Blank x) b
slot_valid names row (Fixed t) h b = fixed_valid t h

verb_valid : (names : List Slot) (row : List (Option Term)) (x : Slot) → IsVarOrIri x → IsBound row → IsValidValue (value_of names row x)
verb_valid names row (Var x) h b = value_valid names row (Var x) b
verb_valid names row (Blank x) h b = absurd h
verb_valid names row (Fixed t) h b = iri_valid t h

triple_valid : (s p o : Option Term) → IsValidValue s → IsValidValue p → IsValidValue o → IfSome (triple_of s p o) IsValidQuad
triple_valid None p o hs hp ho = tt
triple_valid (Some s) None o hs hp ho = tt
triple_valid (Some s) (Some p) None hs hp ho = tt
triple_valid (Some s) (Some p) (Some o) hs hp ho = at (is_resource s && is_iri p)
  where
    at : (b : Bool) → IfSome (if b then Some (record { s = s; p = p; o = o; c = Absent }) else None) IsValidQuad
    at true = (hs, hp, ho, tt)
    at false = tt

constructed_valid : (template group : List TriplePattern) (cut : Cut) (views : List (List Statement)) → AllByRecursion IsTemplatePattern template → All (All IsValidQuad) views
    → All IsValidQuad (constructed template group cut views)
unfolding constructed
constructed_valid template group cut views t h =
    let names : List Slot = unknowns group in
    let rows : List (List (Option Term)) = cut_rows cut (rows_in_order (solutions group views)) in
    let sorted = All-from_recursion IsBound (rows_in_order (solutions group views)) (each-list IsBound row_cmp (solutions group views) (solutions_valid group views h)) in
    let bound = each_of IsBound rows (cut_valid IsBound cut (rows_in_order (solutions group views)) sorted) in
    let made = each-joined IsBound IsValidQuad (λ row. filter_map (made_of names row) template)
    (λ row b. each-made IsTemplatePattern IsValidQuad (made_of names row)
    (λ x k. triple_valid (value_of names row x.s) (value_of names row x.p) (value_of names row x.o)
    (slot_valid names row x.s k.pattern.subject b) (verb_valid names row x.p k.pattern.predicate b) (slot_valid names row x.o k.pattern.object b)) template t) rows bound in
    All-from_recursion IsValidQuad (constructed template group cut views) (each-set IsValidQuad quad_cmp (flat_map (λ row. filter_map (made_of names row) template) rows) made)

-- what was found, where something was
some_found : (many : Bool) (x it : Found) → (if many then None else Some x) ≡ Some it → IsValidFound x → IsValidFound it
some_found true x it e h = cc
some_found false x it e h = let same : x ≡ it = cc in subst IsValidFound same h

valid : (query : Query) (views : List (List Statement)) (most : ℕ) (it : Found) → IsWellFormed query → All (All IsValidQuad) views → found query views most ≡ Some it → IsValidFound it
valid (Select distinct vars group cut) views most it w h e = some_found (are_more most group views) _ it e
    (w.0.once, vars_scalars vars w.0.each, cut_valid (IsValidRow vars) cut (selected distinct vars group views) (selected_valid distinct vars group views h))
valid (Ask group) views most it w h e = some_found false (answer.Truth (nat_lt 0 (length (solutions group views)))) it e tt
valid (Construct template group cut) views most it w h e = some_found (are_more most group views) _ it e (constructed_valid template group cut views w.0.each h)

pub found_valid : FoundIsValid
found_valid = valid

-- lookups

few : (n : ℕ) → n ≤ 256 → max 1 n ≤ 256
few n h = omega arith

at_most : (query : Query) → IsWellFormed query → lookups_of query ≤ 256
at_most (Select distinct vars group cut) w = few (length group) w.1.count
at_most (Ask group) w = few (length group) w.count
at_most (Construct template group cut) w = few (length group) w.1.count

pub few_lookups : FewLookups
few_lookups = at_most
