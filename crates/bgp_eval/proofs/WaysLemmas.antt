-- How many of the ways in which steps go on from a row agree with a row: one where it fits all of them, and else none.
use Rattle.std.proofs.Common.{◌≡◌, ℕ, ◌+◌, zero, suc, List, [], ◌∷◌, Bool, true, false, ◌&&◌, ◌||◌, cond, Option, Some, None, refl, sym, ap, ◌∙◌, arith, if◌then◌else◌, slice_index_or, filter}
use Rattle.std.specs.List.{list_any, list_all}
use Rattle.std.specs.List.Sorted.{IsStrictlySortedBy}
use Rattle.std.specs.Cmp.{IsTotalOrder}
use Rattle.std.specs.Ordering.{eq_by_cmp, is_eq}
use Rattle.std.specs.declared.cmp.Ordering.{Ordering}
use Rattle.std.specs.declared.cmp.Ordering.TheVariants.{Less, Equal, Greater}
use Rattle.std.proofs.lemmas.Cmp.{tied_itself}
use Rattle.std.proofs.lemmas.Map.Lookups.{CmpEqualImpliesEq}
use Rattle.rdf_term.specs.declared.term.Term.{Term}
use Rattle.rdf_term.specs.declared.graph.Graph.{Graph}
use Rattle.rdf_term.specs.declared.graph.Graph.TheVariants.{Absent, Named}
use Rattle.rdf_term.specs.Statement.{Statement}
use Rattle.rdf_term.specs.Matching.{fits, matches, picks_graph}
use Rattle.rdf_term.specs.Order.{quad_cmp, term_cmp}
use Rattle.rdf_term.specs.OrderLaws.{quad_total, quad_exact, term_exact, term_total}
use Rattle.rdf_term.specs.Sets.{sorted_set}
use Rattle.rdf_term.proofs.SetLemmas.{has, has-sorted_set, sorted_set-sorted}
use Rattle.query_model.specs.Solutions.{is_term}
use Rattle.bgp_eval.specs.declared.part.Part.{Part}
use Rattle.bgp_eval.specs.declared.part.Part.TheVariants.{Given, Unknown, Unbound}
use Rattle.bgp_eval.specs.declared.step.Reach.{Reach}
use Rattle.bgp_eval.specs.declared.step.Reach.TheVariants.{Anywhere, In}
use Rattle.bgp_eval.specs.declared.step.Step.{Step}
use Rattle.bgp_eval.specs.Parts.{part_value}
use Rattle.bgp_eval.specs.Steps.{named_pick, pattern_of, quads_of, reach_pick}
use Rattle.bgp_eval.specs.Ways.{candidates, counts, extended, extensions, in_front, is_one_triple, next_row, next_rows, ways}
use Rattle.query_model.proofs.CountLemmas.{count, one_if}
use Rattle.bgp_eval.proofs.CountLemmas.{count-flat_map}
use Rattle.bgp_eval.proofs.AgreeLemmas.{agrees, agrees_if, agrees-extended, fits_step, is_reached}
use Rattle.bgp_eval.proofs.OnceLemmas.{passing, passing-alone, passing-anywhere}

-- what the tests of a quad say

pub is_term-true : (v : Option Term) (t : Term) → is_term v t ≡ true → v ≡ Some t
is_term-true None t e = cc
is_term-true (Some u) t e = at (term_cmp u t) refl e
  where
    at : (o : Ordering) → term_cmp u t ≡ o → is_eq o ≡ true → Some u ≡ Some t
    at Less f g = cc
    at Equal f g = ap Some (term_exact u t f)
    at Greater f g = cc

pub is_term-same : (t : Term) → is_term (Some t) t ≡ true
is_term-same t = ap is_eq (tied_itself term_total t)

both : (a b : Bool) → (a && b) ≡ true → (a ≡ true) × (b ≡ true)
both true b e = (refl, e)
both false b e = cc

-- the parts of a quad that fits a step
record Parts (a : List (Option Term)) (step : Step) (q : Statement) : Type 0 where
  s : part_value a step.s ≡ Some q.s
  p : part_value a step.p ≡ Some q.p
  o : part_value a step.o ≡ Some q.o
  c : is_reached a step.reach q.c ≡ true

parts : (a : List (Option Term)) (step : Step) (q : Statement) → fits_step a step q ≡ true → Parts a step q
parts a step q e =
    let x = both (is_term (part_value a step.s) q.s) _ e in
    let y = both (is_term (part_value a step.p) q.p) _ x.1 in
    let z = both (is_term (part_value a step.o) q.o) _ y.1 in
    record {
      s = is_term-true (part_value a step.s) q.s x.0;
      p = is_term-true (part_value a step.p) q.p y.0;
      o = is_term-true (part_value a step.o) q.o z.0;
      c = z.1;
    }

some_same : {X : Type 0} (v : Option X) (x y : X) → v ≡ Some x → v ≡ Some y → x ≡ y
some_same v x y e f = let g : Some x ≡ Some y = sym e ∙ f in cc

reached_same : (a : List (Option Term)) (part : Part) (c d : Graph) → is_reached a (In part) c ≡ true → is_reached a (In part) d ≡ true → c ≡ d
reached_same a part Absent d e f = cc
reached_same a part (Named t) Absent e f = cc
reached_same a part (Named t) (Named u) e f = ap Named (some_same (part_value a part) t u (is_term-true (part_value a part) t e) (is_term-true (part_value a part) u f))

-- two quads that fit a step in a graph are one
alone : (a : List (Option Term)) (s p o part : Part) (view : ℕ) (q r : Statement)
    → fits_step a (record { s = s; p = p; o = o; reach = In part; view = view }) q ≡ true → fits_step a (record { s = s; p = p; o = o; reach = In part; view = view }) r ≡ true
    → quad_cmp q r ≡ Less → ⊥
alone a s p o part view q r e f l =
    let x = parts a (record { s = s; p = p; o = o; reach = In part; view = view }) q e in
    let y = parts a (record { s = s; p = p; o = o; reach = In part; view = view }) r f in
    let same : q ≡ r = λ i. record {
      s = some_same (part_value a s) q.s r.s x.s y.s i;
      p = some_same (part_value a p) q.p r.p x.p y.p i;
      o = some_same (part_value a o) q.o r.o x.o y.o i;
      c = reached_same a part q.c r.c x.c y.c i;
    } in
    let bad : Less ≡ Equal = sym l ∙ ap (quad_cmp q) (sym same) ∙ tied_itself quad_total q in cc

-- two quads that fit a step outside GRAPH are one triple
one : (a : List (Option Term)) (s p o : Part) (view : ℕ) (q r : Statement)
    → fits_step a (record { s = s; p = p; o = o; reach = Anywhere; view = view }) q ≡ true → fits_step a (record { s = s; p = p; o = o; reach = Anywhere; view = view }) r ≡ true
    → is_one_triple q r ≡ true
one a s p o view q r e f =
    let x = parts a (record { s = s; p = p; o = o; reach = Anywhere; view = view }) q e in
    let y = parts a (record { s = s; p = p; o = o; reach = Anywhere; view = view }) r f in
    let eq : (t u : Term) → t ≡ u → eq_by_cmp term_cmp t u ≡ true = λ t u h. ap (eq_by_cmp term_cmp t) (sym h) ∙ ap is_eq (tied_itself term_total t) in
    (λ i. eq q.s r.s (some_same (part_value a s) q.s r.s x.s y.s) i && (eq q.p r.p (some_same (part_value a p) q.p r.p x.p y.p) i && eq q.o r.o (some_same (part_value a o) q.o r.o x.o y.o) i))

alike : (a : List (Option Term)) (s p o : Part) (view : ℕ) (q r : Statement) → is_one_triple q r ≡ true
    → fits_step a (record { s = s; p = p; o = o; reach = Anywhere; view = view }) q ≡ fits_step a (record { s = s; p = p; o = o; reach = Anywhere; view = view }) r
alike a s p o view q r e =
    let x = both (eq_by_cmp term_cmp q.s r.s) _ e in
    let y = both (eq_by_cmp term_cmp q.p r.p) _ x.1 in
    let eq : (t u : Term) → eq_by_cmp term_cmp t u ≡ true → t ≡ u = λ t u h. some_same (Some t) t u refl (is_term-true (Some t) u h) in
    (λ i. is_term (part_value a s) (eq q.s r.s x.0 i) && (is_term (part_value a p) (eq q.p r.p y.0 i) && (is_term (part_value a o) (eq q.o r.o y.1 i) && true)))

-- Of a set of quads one counts that fits a step, where one fits at all.
once : (a : List (Option Term)) (step : Step) (qs : List Statement) → IsStrictlySortedBy quad_cmp qs → passing step.reach (fits_step a step) qs ≡ one_if (list_any (fits_step a step) qs)
once a step qs sorted = at step.reach
  where
    at : (reach : Reach) → passing reach (fits_step a (record step { reach = reach })) qs ≡ one_if (list_any (fits_step a (record step { reach = reach })) qs)
    at Anywhere = passing-anywhere (fits_step a (record step { reach = Anywhere })) (one a step.s step.p step.o step.view) (alike a step.s step.p step.o step.view) qs sorted
    at (In part) = passing-alone part (fits_step a (record step { reach = In part })) (alone a step.s step.p step.o part step.view) qs sorted

-- how many rows that quads make of one agree

front : (a : List (Option Term)) (o : Option (List (Option Term))) (rows : List (List (Option Term))) → count (agrees a) (in_front o rows) ≡ one_if (agrees_if a o) + count (agrees a) rows
front a None rows = let z : (n : ℕ) → n ≡ 0 + n = λ n. omega arith in z (count (agrees a) rows)
front a (Some row) rows = refl

count-next_rows : (a row : List (Option Term)) (step : Step) (qs : List Statement)
    → count (agrees a) (next_rows row step qs) ≡ passing step.reach (λ q. agrees a row && fits_step a step q) qs
count-next_rows a row step [] = refl
count-next_rows a row step (q ∷ qs) =
    front a (next_row row step q qs) (next_rows row step qs)
    ∙ (λ i. one_if (at (counts step.reach q qs) i) + count-next_rows a row step qs i)
  where
    at : (b : Bool) → agrees_if a (if b then extended row step q else None) ≡ (b && (agrees a row && fits_step a step q))
    at true = agrees-extended a row step q
    at false = refl

passing-none : (reach : Reach) (qs : List Statement) → passing reach (λ q. false) qs ≡ 0
passing-none reach [] = refl
passing-none reach (q ∷ qs) = at (counts reach q qs) (passing-none reach qs)
  where
    at : (b : Bool) → passing reach (λ q. false) qs ≡ 0 → one_if (b && false) + passing reach (λ q. false) qs ≡ 0
    at true e = omega arith
    at false e = omega arith

-- quads that fit match

value_fits : (a row : List (Option Term)) (n : ℕ) (t : Term) → agrees a row ≡ true → is_term (slice_index_or a n None) t ≡ true → fits (slice_index_or row n None) t ≡ true
value_fits [] [] n t e f = refl
value_fits (v ∷ a) [] n t e f = cc
value_fits [] (p ∷ row) n t e f = cc
value_fits (v ∷ a) (None ∷ row) zero t e f = refl
value_fits (v ∷ a) (None ∷ row) (suc n) t e f = value_fits a row n t e f
value_fits (v ∷ a) (Some u ∷ row) zero t e f =
    let x = both (is_term v u) _ e in
    let same : u ≡ t = some_same v u t (is_term-true v u x.0) (is_term-true v t f) in
    ap (eq_by_cmp term_cmp u) (sym same) ∙ ap is_eq (tied_itself term_total u)
value_fits (v ∷ a) (Some u ∷ row) (suc n) t e f = value_fits a row n t (both (is_term v u) _ e).1 f

part_fits : (a row : List (Option Term)) (part : Part) (t : Term) → agrees a row ≡ true → is_term (part_value a part) t ≡ true → fits (part_value row part) t ≡ true
part_fits a row (Given u) t e f = f
part_fits a row (Unknown n) t e f = value_fits a row n t e f
part_fits a row Unbound t e f = refl

reach_fits : (a row : List (Option Term)) (reach : Reach) (c : Graph) → agrees a row ≡ true → is_reached a reach c ≡ true → picks_graph (reach_pick row reach) c ≡ true
reach_fits a row Anywhere c e f = refl
reach_fits a row (In part) Absent e f = cc
reach_fits a row (In part) (Named t) e f = at (part_value row part) (part_fits a row part t e f)
  where
    at : (v : Option Term) → fits v t ≡ true → picks_graph (named_pick v) (Named t) ≡ true
    at None h = refl
    at (Some u) h = h

matches-fits : (a row : List (Option Term)) (step : Step) (q : Statement) → agrees a row ≡ true → fits_step a step q ≡ true → matches (pattern_of row step) q ≡ true
matches-fits a row step q e f =
    let x = both (is_term (part_value a step.s) q.s) _ f in
    let y = both (is_term (part_value a step.p) q.p) _ x.1 in
    let z = both (is_term (part_value a step.o) q.o) _ y.1 in
    (λ i. part_fits a row step.s q.s e x.0 i && part_fits a row step.p q.p e y.0 i && part_fits a row step.o q.o e z.0 i && reach_fits a row step.reach q.c e z.1 i)

-- a test that finds something in a list finds it where all that passes it is kept

list_any-filter : {X : Type 0} (p keep : X → Bool) → ((x : X) → p x ≡ true → keep x ≡ true) → (xs : List X) → list_any p (filter keep xs) ≡ list_any p xs
list_any-filter p keep h [] = refl
list_any-filter p keep h (x ∷ xs) = at (keep x) (p x) refl refl (list_any-filter p keep h xs)
  where
    at : (k b : Bool) → keep x ≡ k → p x ≡ b → list_any p (filter keep xs) ≡ list_any p xs → list_any p (cond k (x ∷ filter keep xs) (filter keep xs)) ≡ (b || list_any p xs)
    at true b e f rest = λ i. f i || rest i
    at false true e f rest = let bad : true ≡ false = sym (h x f) ∙ e in cc
    at false false e f rest = rest

-- and in the set of a list

module _ {K : Type 0} {R : K → K → Ordering} (o : IsTotalOrder R) (exact : CmpEqualImpliesEq R) where
  -- what passes, and stands in a list
  record Found (p : K → Bool) (xs : List K) : Type 0 where
    at : K
    passes : p at ≡ true
    there : has R xs at ≡ true

  found : (p : K → Bool) (xs : List K) → list_any p xs ≡ true → Found p xs
  found p [] e = cc
  found p (x ∷ xs) e = go (p x) refl e (found p xs)
    where
      later : (b c : Bool) → c ≡ true → (b || c) ≡ true
      later true c h = refl
      later false c h = h

      go : (b : Bool) → p x ≡ b → (b || list_any p xs) ≡ true → (list_any p xs ≡ true → Found p xs) → Found p (x ∷ xs)
      go true f g rest = record { at = x; passes = f; there = λ i. is_eq (tied_itself o x i) || has R xs x }
      go false f g rest = let r = rest g in record { at = r.at; passes = r.passes; there = later (eq_by_cmp R r.at x) (has R xs r.at) r.there }

  find_it : (p : K → Bool) (xs : List K) (k : K) → p k ≡ true → has R xs k ≡ true → list_any p xs ≡ true
  find_it p [] k e h = cc
  find_it p (x ∷ xs) k e h = go (R k x) refl h (find_it p xs k e)
    where
      later : (b c : Bool) → c ≡ true → (b || c) ≡ true
      later true c h = refl
      later false c h = h

      go : (r : Ordering) → R k x ≡ r → (is_eq r || has R xs k) ≡ true → (has R xs k ≡ true → list_any p xs ≡ true) → (p x || list_any p xs) ≡ true
      go Less f g rest = later (p x) (list_any p xs) (rest g)
      go Equal f g rest = λ i. (ap p (sym (exact k x f)) ∙ e) i || list_any p xs
      go Greater f g rest = later (p x) (list_any p xs) (rest g)

  alike_tests : (a b : Bool) → (a ≡ true → b ≡ true) → (b ≡ true → a ≡ true) → a ≡ b
  alike_tests true b f g = sym (f refl)
  alike_tests false true f g = g refl
  alike_tests false false f g = refl

  pub list_any-sorted_set : (p : K → Bool) (xs : List K) → list_any p (sorted_set R xs) ≡ list_any p xs
  list_any-sorted_set p xs = alike_tests (list_any p (sorted_set R xs)) (list_any p xs)
      (λ e. let f = found p (sorted_set R xs) e in find_it p xs f.at f.passes (sym (has-sorted_set o exact xs f.at) ∙ f.there))
      (λ e. let f = found p xs e in find_it p (sorted_set R xs) f.at f.passes (has-sorted_set o exact xs f.at ∙ f.there))

-- One of the rows that a step makes of a row agrees where that agrees and a quad of the view fits, and else none.

-- whether a quad of a step's view is what the row makes of the step
abbrev pub is_step_found : List (List Statement) → List (Option Term) → Step → Bool
is_step_found views a step = list_any (fits_step a step) (quads_of views step)

count-extensions : (views : List (List Statement)) (step : Step) (a row : List (Option Term))
    → count (agrees a) (extensions views step row) ≡ one_if (agrees a row && is_step_found views a step)
count-extensions views step a row =
    count-next_rows a row step (candidates views step row) ∙ at (agrees a row) refl
  where
    at : (b : Bool) → agrees a row ≡ b → passing step.reach (λ q. b && fits_step a step q) (candidates views step row) ≡ one_if (b && is_step_found views a step)
    at true e =
        once a step (candidates views step row) (sorted_set-sorted quad_total quad_exact (filter (matches (pattern_of row step)) (quads_of views step)))
        ∙ ap one_if (list_any-sorted_set quad_total quad_exact (fits_step a step) (filter (matches (pattern_of row step)) (quads_of views step))
        ∙ list_any-filter (fits_step a step) (matches (pattern_of row step)) (λ q f. matches-fits a row step q e f) (quads_of views step))
    at false e = passing-none step.reach (candidates views step row)

pub count-ways : (views : List (List Statement)) (a : List (Option Term)) (steps : List Step) (row : List (Option Term))
    → count (agrees a) (ways views steps row) ≡ one_if (agrees a row && list_all (is_step_found views a) steps)
count-ways views a [] row = at (agrees a row)
  where
    at : (b : Bool) → one_if b + 0 ≡ one_if (b && true)
    at true = refl
    at false = refl
count-ways views a (step ∷ steps) row =
    count-flat_map (agrees a) (ways views steps) (agrees a) (list_all (is_step_found views a) steps) (count-ways views a steps) (extensions views step row)
    ∙ ap (λ n. cond (list_all (is_step_found views a) steps) n 0) (count-extensions views step a row)
    ∙ at (agrees a row) (is_step_found views a step) (list_all (is_step_found views a) steps)
  where
    at : (b c d : Bool) → cond d (one_if (b && c)) 0 ≡ one_if (b && (c && d))
    at true true true = refl
    at true true false = refl
    at true false true = refl
    at true false false = refl
    at false c true = refl
    at false c false = refl
