-- Lists of quads and of the graphs in which they stand.
use Rattle.std.proofs.Common.{◌≡◌, ℕ, zero, suc, ◌+◌, ◌<◌, Bool, true, false, ◌&&◌, ◌||◌, cond, List, [], ◌∷◌, ◌++◌, length, take, filter, min, Option, None, refl, sym, ap, ◌∙◌, arith}
use Rattle.std.specs.Prelude.{◌==◌, slice_index_or}
use Rattle.std.specs.List.{flat_map}
use Rattle.std.specs.List.Sorted.{IsStrictlySortedBy}
use Rattle.std.specs.Ordering.{eq_by_cmp}
use Rattle.std.proofs.lemmas.Bool.Decides.{nat_tests}
use Rattle.std.proofs.lemmas.List.Elements.{filter_agree}
use Rattle.std.proofs.lemmas.List.Folds.{list_any-append}
use Rattle.std.proofs.lemmas.List.Kept.{IsStrictlySortedBy-filter}
use Rattle.rdf_term.specs.declared.term.Term.{Term}
use Rattle.rdf_term.specs.declared.graph.Graph.{Graph}
use Rattle.rdf_term.specs.declared.graph.Graph.TheVariants.{Absent, Named}
use Rattle.rdf_term.specs.declared.pattern.Pattern.{Pattern}
use Rattle.rdf_term.specs.declared.pattern.GraphPick.TheVariants as picks
use Rattle.rdf_term.specs.Statement.{Statement}
use Rattle.rdf_term.specs.EachOnce.{EachOnce}
use Rattle.rdf_term.specs.Matching.{fits, is_named, matches}
use Rattle.rdf_term.specs.Order.{graph_cmp, quad_cmp}
use Rattle.rdf_term.specs.OrderLaws.{quad_total, quad_exact}
use Rattle.rdf_term.specs.SameLaws.{graph_same}
use Rattle.rdf_term.specs.Sets.{in_order}
use Rattle.rdf_term.proofs.SetLemmas.{has, sorted_set-is}
use Rattle.change_set.proofs.Contents.{has-filter}
use Rattle.branch.proofs.LayerLemmas.{map_more}
use Rattle.query_model.specs.Solutions.{graph_terms}
use Rattle.journal.specs.Found.{anywhere, in_graphs, matching, one_matches}
use Rattle.repo_store.specs.Graphs.{graph_by_graph, in_each, in_graph, is_in_one}

-- Patterns of graphs

no_items : {X : Type 0} (xs : List X) → (length xs == 0) ≡ true → xs ≡ []
no_items [] e = refl
no_items (x ∷ xs) e = absurd (grind (arith, nat_tests))

-- whether a slice of these graphs is empty
pub are_none : (slice graphs : List Graph) (empty : Bool) → slice ≡ graphs → empty ≡ (length slice == 0) → empty ≡ true → graphs ≡ []
are_none slice graphs empty same tested is = sym same ∙ no_items slice (sym tested ∙ is)

pub are_some : (slice graphs : List Graph) (empty : Bool) → slice ≡ graphs → empty ≡ (length slice == 0) → empty ≡ false → graphs ≡ [] → ⊥
are_some slice graphs empty same tested is none =
    let all : (length slice == 0) ≡ true = ap (λ (gs : List Graph). length gs == 0) (same ∙ none) in
    let not_all : (length slice == 0) ≡ false = sym tested ∙ is in
    cc

pub in_graphs-some : (p : Pattern) (graphs : List Graph) → (graphs ≡ [] → ⊥) → in_graphs p graphs ≡ in_each p graphs
in_graphs-some p [] some = absurd (some refl)
in_graphs-some p (g ∷ gs) some = refl

or_false : (a : Bool) → (a || false) ≡ a
or_false true = refl
or_false false = refl

one_alone : (p : Pattern) (q : Statement) → one_matches (p ∷ []) q ≡ matches p q
one_alone p q = or_false (matches p q)

-- without a graph the one pattern is looked up
pub matching-none : (p : Pattern) (graphs : List Graph) (quads : List Statement) → graphs ≡ [] → filter (matches p) quads ≡ matching (in_graphs p graphs) quads
matching-none p graphs quads none =
    filter_agree (matches p) (one_matches (p ∷ [])) (λ q. sym (one_alone p q)) quads ∙ ap (λ graphs. matching (in_graphs p graphs) quads) (sym none)

-- Graph by graph

none_there : (b : Bool) → false ≡ (b && false)
none_there true = refl
none_there false = refl

either_there : (b m n : Bool) → ((b && m) || (b && n)) ≡ (b && (m || n))
either_there true m n = refl
either_there false m n = refl

has-graph_by_graph : (p : Pattern) (graphs : List Graph) (quads : List Statement) (q : Statement)
    → has quad_cmp (graph_by_graph p graphs quads) q ≡ (has quad_cmp quads q && one_matches (in_each p graphs) q)
has-graph_by_graph p [] quads q = none_there (has quad_cmp quads q)
has-graph_by_graph p (g ∷ gs) quads q =
    list_any-append (eq_by_cmp quad_cmp q) (filter (matches (in_graph p g)) quads) (graph_by_graph p gs quads)
    ∙ (λ i. has-filter (matches (in_graph p g)) quads q i || has-graph_by_graph p gs quads q i)
    ∙ either_there (has quad_cmp quads q) (matches (in_graph p g) q) (one_matches (in_each p gs) q)

-- what is found graph by graph, as a set, is what matches in one of the graphs
pub graph_by_graph-set : (p : Pattern) (graphs : List Graph) (quads : List Statement) → IsStrictlySortedBy quad_cmp quads
    → in_order (graph_by_graph p graphs quads) ≡ matching (in_each p graphs) quads
graph_by_graph-set p graphs quads sorted =
    sym (sorted_set-is quad_total quad_exact (matching (in_each p graphs) quads) (graph_by_graph p graphs quads)
    (IsStrictlySortedBy-filter quad_cmp (one_matches (in_each p graphs)) quads sorted)
    (λ q. has-filter (one_matches (in_each p graphs)) quads q ∙ sym (has-graph_by_graph p graphs quads q)))

-- At once

filter_twice : {X : Type 0} (f g : X → Bool) (xs : List X) → filter f (filter g xs) ≡ filter (λ x. g x && f x) xs
filter_twice f g [] = refl
filter_twice {X} f g (x ∷ xs) = at (g x) (filter_twice f g xs)
  where
    at : (b : Bool) → filter f (filter g xs) ≡ filter (λ y. g y && f y) xs
        → filter f (cond b (x ∷ filter g xs) (filter g xs)) ≡ cond (b && f x) (x ∷ filter (λ y. g y && f y) xs) (filter (λ y. g y && f y) xs)
    at true rest = λ i. cond (f x) (x ∷ rest i) (rest i)
    at false rest = rest

none_both : (b : Bool) → (b && false) ≡ false
none_both true = refl
none_both false = refl

one_more : (a b c e r o : Bool) → ((a && b && c && true) && r) ≡ o → ((a && b && c && true) && (e || r)) ≡ ((a && b && c && e) || o)
one_more true true true true r o h = refl
one_more true true true false r o h = h
one_more true true false e r o h = h
one_more true false c e r o h = h
one_more false b c e r o h = h

in_each-once : (s p o : Option Term) (graphs : List Graph) (q : Statement)
    → (matches (anywhere s p o) q && is_in_one graphs q) ≡ one_matches (in_each (anywhere s p o) graphs) q
in_each-once s p o [] q = none_both (matches (anywhere s p o) q)
in_each-once s p o (g ∷ gs) q =
    one_more (fits s q.s) (fits p q.p) (fits o q.o) (eq_by_cmp graph_cmp g q.c) (is_in_one gs q) (one_matches (in_each (anywhere s p o) gs) q)
    (in_each-once s p o gs q)

-- what is found in whatever graph, of which what stands in one of the graphs is kept
pub kept-once : (s p o : Option Term) (graphs : List Graph) (quads : List Statement)
    → filter (is_in_one graphs) (filter (matches (anywhere s p o)) quads) ≡ matching (in_each (anywhere s p o) graphs) quads
kept-once s p o graphs quads =
    filter_twice (is_in_one graphs) (matches (anywhere s p o)) quads
    ∙ filter_agree (λ q. matches (anywhere s p o) q && is_in_one graphs q) (one_matches (in_each (anywhere s p o) graphs)) (in_each-once s p o graphs) quads

-- Counts

-- the pattern that matches each quad
abbrev pub every : Pattern
every = anywhere None None None

-- a quad stands in one graph
one_graph : (x g c : Graph) → (x ≡ g → ⊥) → (eq_by_cmp graph_cmp x c && eq_by_cmp graph_cmp g c) ≡ false
one_graph x g c differ = at (eq_by_cmp graph_cmp x c) (eq_by_cmp graph_cmp g c) refl refl
  where
    at : (a b : Bool) → eq_by_cmp graph_cmp x c ≡ a → eq_by_cmp graph_cmp g c ≡ b → (a && b) ≡ false
    at true true l r = absurd (differ ((graph_same x c).0 l ∙ sym ((graph_same g c).0 r)))
    at true false l r = refl
    at false b l r = refl

none_of : (a r b : Bool) → (a && b) ≡ false → (r && b) ≡ false → ((a || r) && b) ≡ false
none_of true r b h k = h
none_of false r b h k = k

apart : (graphs : List Graph) (i : ℕ) (g : Graph) (q : Statement) → ((j : ℕ) → j < i → j < length graphs → slice_index_or graphs j g ≡ g → ⊥)
    → (one_matches (in_each every (take i graphs)) q && matches (in_graph every g) q) ≡ false
apart [] zero g q h = refl
apart [] (suc i) g q h = refl
apart (x ∷ xs) zero g q h = refl
apart (x ∷ xs) (suc i) g q h =
    none_of (matches (in_graph every x) q) (one_matches (in_each every (take i xs)) q) (matches (in_graph every g) q)
    (one_graph x g q.c (h 0 (omega arith) (omega arith)))
    (apart xs i g q (λ j lt short. h (suc j) (omega arith) (omega arith)))

-- of two tests that no item passes both
length-either : {X : Type 0} (f h : X → Bool) (xs : List X) → ((x : X) → (f x && h x) ≡ false)
    → length (filter (λ x. f x || h x) xs) ≡ length (filter f xs) + length (filter h xs)
length-either f h [] e = refl
length-either {X} f h (x ∷ xs) e = at (f x) (h x) (e x) (length-either f h xs e)
  where
    at : (a b : Bool) → (a && b) ≡ false → length (filter (λ y. f y || h y) xs) ≡ length (filter f xs) + length (filter h xs)
        → length (cond (a || b) (x ∷ filter (λ y. f y || h y) xs) (filter (λ y. f y || h y) xs))
        ≡ length (cond a (x ∷ filter f xs) (filter f xs)) + length (cond b (x ∷ filter h xs) (filter h xs))
    at true true d r = cc
    at true false d r = omega (arith, r)
    at false true d r = omega (arith, r)
    at false false d r = r

one_matches-last : (ps : List Pattern) (p : Pattern) (q : Statement) → one_matches (ps ++ p ∷ []) q ≡ (one_matches ps q || matches p q)
one_matches-last ps p q =
    list_any-append (λ p. matches p q) ps (p ∷ []) ∙ ap (λ b. one_matches ps q || b) (or_false (matches p q))

-- one more graph adds the quads that stand there
counted-more : (graphs : List Graph) (i : ℕ) (g : Graph) (quads : List Statement) → EachOnce graphs → i < length graphs → g ≡ slice_index_or graphs i g
    → length (matching (in_each every (take (i + 1) graphs)) quads)
    ≡ length (matching (in_each every (take i graphs)) quads) + length (filter (matches (in_graph every g)) quads)
counted-more graphs i g quads once lt is =
    ap (λ ps. length (matching ps quads)) (sym (map_more (in_graph every) graphs i g lt is))
    ∙ ap length (filter_agree (one_matches (in_each every (take i graphs) ++ in_graph every g ∷ []))
    (λ q. one_matches (in_each every (take i graphs)) q || matches (in_graph every g) q)
    (one_matches-last (in_each every (take i graphs)) (in_graph every g)) quads)
    ∙ length-either (one_matches (in_each every (take i graphs))) (matches (in_graph every g)) quads
    (λ q. apart graphs i g q (λ j below short same. once j i g below lt (same ∙ is)))

min-sum : (a b most : ℕ) → min (min a most + min b most) most ≡ min (a + b) most
min-sum a b most = omega arith

none_passes : {X : Type 0} (xs : List X) → filter (λ x. false) xs ≡ []
none_passes [] = refl
none_passes (x ∷ xs) = none_passes xs

pub nothing_counted : (quads : List Statement) (most : ℕ) → 0 ≡ min (length (matching [] quads)) most
nothing_counted quads most = let none : length (matching [] quads) ≡ 0 = ap length (none_passes quads) in omega (arith, none)

-- a count that stands still at its end, with one more graph
pub counted-on : (graphs : List Graph) (i : ℕ) (g : Graph) (quads : List Statement) (count there most : ℕ) → EachOnce graphs → i < length graphs
    → g ≡ slice_index_or graphs i g → count ≡ min (length (matching (in_each every (take i graphs)) quads)) most
    → there ≡ min (length (filter (matches (in_graph every g)) quads)) most
    → min (count + there) most ≡ min (length (matching (in_each every (take (i + 1) graphs)) quads)) most
counted-on graphs i g quads count there most once lt is counted found =
    (λ k. min (counted k + found k) most)
    ∙ min-sum (length (matching (in_each every (take i graphs)) quads)) (length (filter (matches (in_graph every g)) quads)) most
    ∙ ap (λ n. min n most) (sym (counted-more graphs i g quads once lt is))

pub is_exact : (n count most : ℕ) → count ≡ min n most → count < most → count ≡ n
is_exact n count most is below = omega (arith, is, below)

-- the pattern that matches each quad in a named graph
abbrev pub named : Pattern
named = record { s = None; p = None; o = None; c = picks.NamedOnly }

abbrev names : List Statement → List Term
names quads = flat_map (λ (q : Statement). graph_terms q.c) quads

-- a quad in the absent graph has no name
pub names-named : (quads : List Statement) → flat_map (λ (q : Statement). graph_terms q.c) (filter (matches named) quads) ≡ flat_map (λ (q : Statement). graph_terms q.c) quads
names-named [] = refl
names-named (q ∷ qs) = at q.c refl (names-named qs)
  where
    at : (c : Graph) → q.c ≡ c → names (filter (matches named) qs) ≡ names qs
        → names (cond (is_named c) (q ∷ filter (matches named) qs) (filter (matches named) qs)) ≡ graph_terms c ++ names qs
    at Absent is rest = rest
    at (Named t) is rest = λ i. graph_terms (is i) ++ rest i
