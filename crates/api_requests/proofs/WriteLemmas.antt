-- The tests of changes tell which are the write of some request.
use Rattle.std.proofs.Common.{◌≡◌, ℕ, zero, suc, ◌<◌, List, [], ◌∷◌, ◌++◌, Bool, true, false, ◌&&◌, ◌||◌, not, Option, Some, None, map, refl, sym, ap, ◌∙◌, subst, All, inl, inr, ◌⊎◌, take, drop, take-append-drop, one-add, append-nil, length, arith}
use Rattle.std.specs.Prelude.{Contains}
use Rattle.std.specs.List.{list_all, list_any, flat_map, position_or_len}
use Rattle.std.specs.Ordering.{eq_by_cmp}
use Rattle.std.proofs.lemmas.Cmp.{eq_by_cmp_equiv}
use Rattle.std.proofs.lemmas.List.{get_or_default}
use Rattle.std.proofs.lemmas.List.Elements.{All-nil, All-cons, All-head, All-tail}
use Rattle.std.proofs.lemmas.Map.Views.{Contains-from_any, list_any-from_Contains}
use Rattle.rdf_term.specs.EachOnce.{EachOnce}
use Rattle.rdf_term.specs.Order.{term_cmp, graph_cmp}
use Rattle.rdf_term.specs.OrderLaws.{graph_total}
use Rattle.rdf_term.specs.SameLaws.{term_same, graph_same}
use Rattle.rdf_term.specs.Statement.{Statement}
use Rattle.rdf_term.specs.declared.term.Term.{Term}
use Rattle.rdf_term.specs.declared.graph.Graph.{Graph}
use Rattle.rdf_term.specs.declared.pattern.GraphPick.{GraphPick}
use Rattle.rdf_term.specs.declared.pattern.GraphPick.TheVariants as picks
use Rattle.rdf_term.specs.declared.pattern.Pattern.{Pattern}
use Rattle.nquads.specs.Written.{IsWritable}
use Rattle.change_set.specs.declared.change.Change.{Change}
use Rattle.change_set.specs.declared.change.Change.TheVariants.{Add, Remove, RemoveMatching}
use Rattle.journal.specs.declared.txn.Txn.{Txn}
use Rattle.api_parts.specs.Writes.{in_graph, placed, removals, everything_in, replacements}
use Rattle.api_requests.specs.Spellable.{IsContextGraph, AreContextGraphs, IsSelectable, IsAdding, IsDeleting, IsRemoving, IsReplacing, IsWriting}
use Rattle.api_requests.specs.Tests.{is_context, is_writable, is_subject, is_predicate, is_object, is_addition, is_deletion, is_named, front_of, back_of, same_part, picked, is_graph, goes_on, is_other, are_apart, selects_more, selects, is_free, is_everything, same_triple, stands_first, behind_first, walks, is_placed, removes, removes_first, writes_alone}
use Rattle.api_requests.proofs.ByteLemmas.{first_of, second_of}
use Rattle.api_requests.proofs.ChangeLemmas.{placed_alone, in_graph_writable}
use Rattle.api_requests.proofs.TestLemmas.{both, context_told, context_is, writable_told, writable_is, subject_told, subject_is, predicate_told, predicate_is, object_told, object_is, same_term, same_graph, part_told, part_is}

never : {A : Type 0} → false ≡ true → A
never e = absurd (let x : ⊥ = cc in x)

-- additions and deletions

pub additions_told : (changes : List Change) → list_all is_addition changes ≡ true → IsAdding changes
additions_told [] e = record { quads = []; writable = All-nil IsWritable; are = refl }
additions_told (Add q ∷ changes) e =
    let rest = additions_told changes (second_of (is_writable q) (list_all is_addition changes) e) in
    record {
      quads = q ∷ rest.quads;
      writable = All-cons IsWritable q rest.quads (writable_told q (first_of (is_writable q) (list_all is_addition changes) e)) rest.writable;
      are = ap (λ (cs : List Change). Add q ∷ cs) rest.are;
    }
additions_told (Remove q ∷ changes) e = never e
additions_told (RemoveMatching p ∷ changes) e = never e

pub additions_are : (quads : List Statement) → All IsWritable quads → list_all is_addition (map Add quads) ≡ true
additions_are [] all = refl
additions_are (q ∷ qs) all = both (is_writable q) _ (writable_is q (All-head IsWritable q qs all)) (additions_are qs (All-tail IsWritable q qs all))

pub deletions_told : (changes : List Change) → list_all is_deletion changes ≡ true → IsDeleting changes
deletions_told [] e = record { quads = []; writable = All-nil IsWritable; are = refl }
deletions_told (Add q ∷ changes) e = never e
deletions_told (Remove q ∷ changes) e =
    let rest = deletions_told changes (second_of (is_writable q) (list_all is_deletion changes) e) in
    record {
      quads = q ∷ rest.quads;
      writable = All-cons IsWritable q rest.quads (writable_told q (first_of (is_writable q) (list_all is_deletion changes) e)) rest.writable;
      are = ap (λ (cs : List Change). Remove q ∷ cs) rest.are;
    }
deletions_told (RemoveMatching p ∷ changes) e = never e

pub deletions_are : (quads : List Statement) → All IsWritable quads → list_all is_deletion (map Remove quads) ≡ true
deletions_are [] all = refl
deletions_are (q ∷ qs) all = both (is_writable q) _ (writable_is q (All-head IsWritable q qs all)) (deletions_are qs (All-tail IsWritable q qs all))

-- the changes by patterns at the front

pub front_more : (p : Pattern) (changes : List Change) → front_of (RemoveMatching p ∷ changes) ≡ RemoveMatching p ∷ front_of changes
front_more p changes = ap (λ (n : ℕ). take n (RemoveMatching p ∷ changes)) (one-add (position_or_len is_named changes))

back_more : (p : Pattern) (changes : List Change) → back_of (RemoveMatching p ∷ changes) ≡ back_of changes
back_more p changes = ap (λ (n : ℕ). drop n (RemoveMatching p ∷ changes)) (one-add (position_or_len is_named changes))

front_and_back : (changes : List Change) → changes ≡ front_of changes ++ back_of changes
front_and_back changes = sym (take-append-drop (position_or_len is_named changes) changes)

-- patterns of one selection in graphs
abbrev pattern_in : Option Term → Option Term → Option Term → Graph → Pattern
pattern_in s p o g = record { s = s; p = p; o = o; c = picks.One g }

abbrev In : Option Term → Option Term → Option Term → List Graph → List Change
In s p o gs = map RemoveMatching (map (λ pick. record { s = s; p = p; o = o; c = pick }) (map picks.One gs))

front_of_in : (s p o : Option Term) (gs : List Graph) (qs : List Statement) → front_of (In s p o gs ++ map Add qs) ≡ In s p o gs
front_of_in s p o [] [] = refl
front_of_in s p o [] (q ∷ qs) = refl
front_of_in s p o (g ∷ gs) qs = front_more (pattern_in s p o g) (In s p o gs ++ map Add qs) ∙ ap (λ (cs : List Change). RemoveMatching (pattern_in s p o g) ∷ cs) (front_of_in s p o gs qs)

back_of_in : (s p o : Option Term) (gs : List Graph) (qs : List Statement) → back_of (In s p o gs ++ map Add qs) ≡ map Add qs
back_of_in s p o [] [] = refl
back_of_in s p o [] (q ∷ qs) = refl
back_of_in s p o (g ∷ gs) qs = back_more (pattern_in s p o g) (In s p o gs ++ map Add qs) ∙ back_of_in s p o gs qs

-- graphs that are apart

any_in : (g : Graph) (s p o : Option Term) (gs : List Graph) → list_any (λ change. is_graph g (picked change)) (In s p o gs) ≡ list_any (eq_by_cmp graph_cmp g) gs
any_in g s p o [] = refl
any_in g s p o (h ∷ gs) = ap (λ (b : Bool). eq_by_cmp graph_cmp g h || b) (any_in g s p o gs)

none_once : EachOnce {X = Graph} []
none_once i j d less within e = absurd (omega (arith, within))

once_more : (x : Graph) (xs : List Graph) → (Contains xs x → ⊥) → EachOnce xs → EachOnce (x ∷ xs)
once_more x xs new once i zero d less within e = absurd (omega (arith, less))
once_more x xs new once zero (suc j) d less within e = let inside : j < length xs = omega (arith, within) in new (j, inside, get_or_default xs j x d inside ∙ sym e)
once_more x xs new once (suc i) (suc j) d less within e = once i j d (omega (arith, less)) (omega (arith, within)) e

once_less : (x : Graph) (xs : List Graph) → EachOnce (x ∷ xs) → (Contains xs x → ⊥) × EachOnce xs
once_less x xs once = (λ h. once 0 (suc h.0) x (omega arith) (omega (arith, h.1)) (sym h.2), λ i j d less within. once (suc i) (suc j) d (omega (arith, less)) (omega (arith, within)))

not_true : (b : Bool) → not b ≡ true → b ≡ true → ⊥
not_true true e f = cc
not_true false e f = cc

not_any : (b : Bool) → (b ≡ true → ⊥) → not b ≡ true
not_any true n = absurd (n refl)
not_any false n = refl

apart_told : (s p o : Option Term) (gs : List Graph) → are_apart (In s p o gs) ≡ true → EachOnce gs
apart_told s p o [] e = none_once
apart_told s p o (g ∷ gs) e =
    let new = first_of (is_other (Some g) (In s p o gs)) (are_apart (In s p o gs)) e in
    once_more g gs
    (λ c. not_true (list_any (λ change. is_graph g (picked change)) (In s p o gs)) new (any_in g s p o gs ∙ list_any-from_Contains (eq_by_cmp_equiv graph_total) g gs c))
    (apart_told s p o gs (second_of (is_other (Some g) (In s p o gs)) (are_apart (In s p o gs)) e))

apart_are : (s p o : Option Term) (gs : List Graph) → EachOnce gs → are_apart (In s p o gs) ≡ true
apart_are s p o [] once = refl
apart_are s p o (g ∷ gs) once =
    let less = once_less g gs once in
    both (is_other (Some g) (In s p o gs)) (are_apart (In s p o gs))
    (not_any _ (λ h. less.0 (Contains-from_any (λ (x y : Graph) (e : eq_by_cmp graph_cmp x y ≡ true). (graph_same x y).0 e) g gs (sym (any_in g s p o gs) ∙ h)))) (apart_are s p o gs less.1)

-- changes that go on by the same parts

record GoOn (s p o : Option Term) (more : List Change) : Type 0 where
  gs : List Graph
  each : All IsContextGraph gs
  are : more ≡ In s p o gs

one_told : (s p o : Option Term) (c : GraphPick) (os op oo : Option Term) (oc : GraphPick)
    → goes_on (record { s = s; p = p; o = o; c = c }) (RemoveMatching (record { s = os; p = op; o = oo; c = oc })) ≡ true
    → (g : Graph) × IsContextGraph g × (RemoveMatching (record { s = os; p = op; o = oo; c = oc }) ≡ RemoveMatching (pattern_in s p o g))
one_told s p o c os op oo picks.Any e = never (second_of (same_part o oo) false (second_of (same_part p op) _ (second_of (same_part s os) _ e)))
one_told s p o c os op oo picks.NamedOnly e = never (second_of (same_part o oo) false (second_of (same_part p op) _ (second_of (same_part s os) _ e)))
one_told s p o c os op oo (picks.One g) e =
    let a = second_of (same_part s os) _ e in
    let b = second_of (same_part p op) _ a in (
      g,
      context_told g (second_of (same_part o oo) (is_context g) b),
      λ i. RemoveMatching (record {
        s = part_told s os (first_of (same_part s os) _ e) i;
        p = part_told p op (first_of (same_part p op) _ a) i;
        o = part_told o oo (first_of (same_part o oo) (is_context g) b) i;
        c = picks.One g;
      }),
    )

go_on_told : (s p o : Option Term) (c : GraphPick) (more : List Change) → list_all (goes_on (record { s = s; p = p; o = o; c = c })) more ≡ true → GoOn s p o more
go_on_told s p o c [] e = record { gs = []; each = All-nil IsContextGraph; are = refl }
go_on_told s p o c (Add q ∷ more) e = never e
go_on_told s p o c (Remove q ∷ more) e = never e
go_on_told s p o c (RemoveMatching other ∷ more) e =
    let first : Pattern = record { s = s; p = p; o = o; c = c } in
    let one = one_told s p o c other.s other.p other.o other.c (first_of (goes_on first (RemoveMatching other)) (list_all (goes_on first) more) e) in
    let rest = go_on_told s p o c more (second_of (goes_on first (RemoveMatching other)) (list_all (goes_on first) more) e) in
    record { gs = one.0 ∷ rest.gs; each = All-cons IsContextGraph one.0 rest.gs one.1 rest.each; are = (λ i. one.2 i ∷ rest.are i) }

go_on_are : (s p o : Option Term) (c : GraphPick) (gs : List Graph) → All IsContextGraph gs → list_all (goes_on (record { s = s; p = p; o = o; c = c })) (In s p o gs) ≡ true
go_on_are s p o c [] all = refl
go_on_are s p o c (g ∷ gs) all =
    both _ _ (both _ _ (part_is s) (both _ _ (part_is p) (both _ _ (part_is o) (context_is g (All-head IsContextGraph g gs all))))) (go_on_are s p o c gs (All-tail IsContextGraph g gs all))

-- a selection

record Selected (s p o : Option Term) (changes : List Change) : Type 0 where
  contexts : List Graph
  selectable : IsSelectable (record { s = s; p = p; o = o; contexts = contexts })
  are : changes ≡ removals (record { s = s; p = p; o = o; contexts = contexts })

no_graphs : AreContextGraphs []
no_graphs = record { each = All-nil IsContextGraph; once = none_once }

select_by : (s p o : Option Term) (c : GraphPick) (more : List Change) → is_subject s ≡ true → is_predicate p ≡ true → is_object o ≡ true
    → selects_more (record { s = s; p = p; o = o; c = c }) c more ≡ true → Selected s p o (RemoveMatching (record { s = s; p = p; o = o; c = c }) ∷ more)
select_by s p o picks.Any [] es ep eo e =
    record { contexts = []; selectable = record { s = subject_told s es; p = predicate_told p ep; o = object_told o eo; contexts = no_graphs }; are = refl }
select_by s p o picks.Any (change ∷ more) es ep eo e = never e
select_by s p o picks.NamedOnly more es ep eo e = never e
select_by s p o (picks.One g) more es ep eo e =
    let first = pattern_in s p o g in
    let tail = second_of (is_context g) _ e in
    let rest = go_on_told s p o (picks.One g) more (first_of (list_all (goes_on first) more) (are_apart (RemoveMatching first ∷ more)) tail) in
    let once = apart_told s p o (g ∷ rest.gs) (ap (λ (cs : List Change). are_apart (RemoveMatching first ∷ cs)) (sym rest.are)
    ∙ second_of (list_all (goes_on first) more) (are_apart (RemoveMatching first ∷ more)) tail) in
    record {
      contexts = g ∷ rest.gs;
      selectable = record {
        s = subject_told s es;
        p = predicate_told p ep;
        o = object_told o eo;
        contexts = record { each = All-cons IsContextGraph g rest.gs (context_told g (first_of (is_context g) _ e)) rest.each; once = once };
      };
      are = ap (λ (cs : List Change). RemoveMatching first ∷ cs) rest.are;
    }

select_told : (first : Pattern) (more : List Change) → selects first more ≡ true → Selected first.s first.p first.o (RemoveMatching first ∷ more)
select_told first more e =
    let a = second_of (is_subject first.s) _ e in
    let b = second_of (is_predicate first.p) _ a in
    select_by first.s first.p first.o first.c more (first_of (is_subject first.s) _ e) (first_of (is_predicate first.p) _ a) (first_of (is_object first.o) _ b) (second_of (is_object first.o) _ b)

select_alone : (s p o : Option Term) → IsSelectable (record { s = s; p = p; o = o; contexts = [] }) → selects (record { s = s; p = p; o = o; c = picks.Any }) [] ≡ true
select_alone s p o x = both _ _ (subject_is s x.s) (both _ _ (predicate_is p x.p) (both _ _ (object_is o x.o) refl))

select_in : (s p o : Option Term) (g : Graph) (gs : List Graph) → IsSelectable (record { s = s; p = p; o = o; contexts = g ∷ gs }) → selects (pattern_in s p o g) (In s p o gs) ≡ true
select_in s p o g gs x =
    both _ _ (subject_is s x.s)
    (both _ _ (predicate_is p x.p)
    (both _ _ (object_is o x.o)
    (both _ _ (context_is g (All-head IsContextGraph g gs x.contexts.each))
    (both _ _ (go_on_are s p o (picks.One g) gs (All-tail IsContextGraph g gs x.contexts.each)) (apart_are s p o (g ∷ gs) x.contexts.once)))))

-- statements that stand in each of the graphs

abbrev All' : List Graph → List Change
All' gs = In None None None gs

graph_told : (g h : Graph) → eq_by_cmp graph_cmp g h ≡ true → g ≡ h
graph_told g h e = (graph_same g h).0 e

triple_told : (r q : Statement) (h : Graph) → same_triple (Some r) q ≡ true → eq_by_cmp graph_cmp q.c h ≡ true → q ≡ in_graph r h
triple_told r q h e f =
    let a = second_of (eq_by_cmp term_cmp r.s q.s) _ e in
    λ i. record {
      s = sym ((term_same r.s q.s).0 (first_of (eq_by_cmp term_cmp r.s q.s) _ e)) i;
      p = sym ((term_same r.p q.p).0 (first_of (eq_by_cmp term_cmp r.p q.p) (eq_by_cmp term_cmp r.o q.o) a)) i;
      o = sym ((term_same r.o q.o).0 (second_of (eq_by_cmp term_cmp r.p q.p) (eq_by_cmp term_cmp r.o q.o) a)) i;
      c = graph_told q.c h f i;
    }

abbrev behind : List Graph → List Graph
behind [] = []
behind (g ∷ gs) = gs

-- what is left of a statement
abbrev left_of : List Graph → Option Statement → List Statement
left_of left None = []
left_of left (Some r) = map (in_graph r) left

record Walked (all left : List Graph) (current : Option Statement) (changes : List Change) : Type 0 where
  quads : List Statement
  writable : All IsWritable quads
  are : changes ≡ map Add (left_of left current ++ flat_map (placed all) quads)

nothing_left : (current : Option Statement) → left_of [] current ≡ []
nothing_left None = refl
nothing_left (Some r) = refl

begun : (all : List Graph) (current : Option Statement) (q : Statement) (changes : List Change) → is_writable q ≡ true → stands_first (All' all) q ≡ true
    → Walked all (behind all) (Some q) changes → Walked all [] current (Add q ∷ changes)
begun [] current q changes w e x = never e
begun (g ∷ gs) current q changes w e x =
    let same : q ≡ in_graph q g = λ i. record { s = q.s; p = q.p; o = q.o; c = graph_told q.c g e i } in
    record {
      quads = q ∷ x.quads;
      writable = All-cons IsWritable q x.quads (writable_told q w) x.writable;
      are = (λ i. Add (same i) ∷ x.are i) ∙ ap (λ (front : List Statement). map Add (front ++ flat_map (placed (g ∷ gs)) (q ∷ x.quads))) (sym (nothing_left current));
    }

behind_in : (all : List Graph) → behind_first (All' all) ≡ All' (behind all)
behind_in [] = refl
behind_in (g ∷ gs) = refl

walk_told : (all left : List Graph) (current : Option Statement) (changes : List Change) → walks (All' all) (All' left) current changes ≡ true → Walked all left current changes
walk_told all [] current [] e =
    record { quads = []; writable = All-nil IsWritable; are = ap (λ (front : List Statement). map Add (front ++ [])) (sym (nothing_left current)) }
walk_told all (h ∷ left) current [] e = never e
walk_told all left current (Remove q ∷ changes) e = never e
walk_told all left current (RemoveMatching p ∷ changes) e = never e
walk_told all [] current (Add q ∷ changes) e =
    let a = second_of (is_writable q) _ e in
    begun all current q changes (first_of (is_writable q) _ e) (first_of (stands_first (All' all) q) _ a)
    (walk_told all (behind all) (Some q) changes
    (ap (λ (left : List Change). walks (All' all) left (Some q) changes) (sym (behind_in all)) ∙ second_of (stands_first (All' all) q) _ a))
walk_told all (h ∷ left) None (Add q ∷ changes) e = never (second_of (is_writable q) false e)
walk_told all (h ∷ left) (Some r) (Add q ∷ changes) e =
    let a = second_of (is_writable q) _ e in
    let fit = first_of (same_triple (Some r) q && eq_by_cmp graph_cmp q.c h) _ a in
    let rest = walk_told all left (Some r) changes (second_of (same_triple (Some r) q && eq_by_cmp graph_cmp q.c h) _ a) in
    let same = triple_told r q h (first_of (same_triple (Some r) q) (eq_by_cmp graph_cmp q.c h) fit) (second_of (same_triple (Some r) q) (eq_by_cmp graph_cmp q.c h) fit) in
    record { quads = rest.quads; writable = rest.writable; are = (λ i. Add (same i) ∷ rest.are i) }

-- and all such are

in_graph_is : (g : Graph) → IsContextGraph g → (q : Statement) → IsWritable q → is_writable (in_graph q g) ≡ true
in_graph_is g is q w = writable_is (in_graph q g) (in_graph_writable g is q w)

same_triples : (q : Statement) (g h : Graph) → same_triple (Some (in_graph q g)) (in_graph q h) ≡ true
same_triples q g h = both _ _ (same_term q.s) (both _ _ (same_term q.p) (same_term q.o))

walk_rest : (all left : List Graph) (q : Statement) (g : Graph) (more : List Change) → All IsContextGraph left → IsWritable q
    → walks (All' all) [] (Some (in_graph q g)) more ≡ true → walks (All' all) (All' left) (Some (in_graph q g)) (map Add (map (in_graph q) left) ++ more) ≡ true
walk_rest all [] q g more each w e = e
walk_rest all (h ∷ left) q g more each w e =
    both _ _ (in_graph_is h (All-head IsContextGraph h left each) q w)
    (both _ _ (both _ _ (same_triples q g h) (same_graph h)) (walk_rest all left q g more (All-tail IsContextGraph h left each) w e))

map_append : (a b : List Statement) → map Add (a ++ b) ≡ map Add a ++ map Add b
map_append [] b = refl
map_append (q ∷ qs) b = ap (λ (cs : List Change). Add q ∷ cs) (map_append qs b)

walk_is : (g : Graph) (gs : List Graph) (current : Option Statement) (quads : List Statement) → All IsContextGraph (g ∷ gs) → All IsWritable quads
    → walks (All' (g ∷ gs)) [] current (map Add (flat_map (placed (g ∷ gs)) quads)) ≡ true
walk_is g gs current [] each all = refl
walk_is g gs current (q ∷ qs) each all =
    let w = All-head IsWritable q qs all in
    both _ _ (in_graph_is g (All-head IsContextGraph g gs each) q w)
    (both _ _ (same_graph g)
    (ap (walks (All' (g ∷ gs)) (All' gs) (Some (in_graph q g))) (map_append (map (in_graph q) gs) (flat_map (placed (g ∷ gs)) qs))
    ∙ walk_rest (g ∷ gs) gs q g (map Add (flat_map (placed (g ∷ gs)) qs)) (All-tail IsContextGraph g gs each) w
    (walk_is g gs (Some (in_graph q g)) qs each (All-tail IsWritable q qs all))))

-- a write by its first change

free_told : (part : Option Term) → is_free part ≡ true → part ≡ None
free_told None e = refl
free_told (Some t) e = never e

abbrev first_pick : List Change → GraphPick
first_pick [] = picks.Any
first_pick (Add q ∷ changes) = picks.Any
first_pick (Remove q ∷ changes) = picks.Any
first_pick (RemoveMatching p ∷ changes) = p.c

-- what is placed behind the patterns of everything in graphs
placed_told : (contexts : List Graph) (first : Pattern) (more back : List Change) → RemoveMatching first ∷ more ≡ removals (everything_in contexts)
    → is_placed first.c (RemoveMatching first ∷ more) back ≡ true → AreContextGraphs contexts → IsReplacing (removals (everything_in contexts) ++ back)
placed_told [] first more back same e are =
    let pick : first.c ≡ picks.Any = ap first_pick same in
    let adding = additions_told back (ap (λ (c : GraphPick). is_placed c (RemoveMatching first ∷ more) back) (sym pick) ∙ e) in
    record {
      contexts = [];
      quads = adding.quads;
      graphs = are;
      writable = adding.writable;
      are = ap (λ (cs : List Change). removals (everything_in []) ++ cs) (adding.are ∙ ap (map Add) (sym (placed_alone adding.quads)));
    }
placed_told (g ∷ gs) first more back same e are =
    let pick : first.c ≡ picks.One g = ap first_pick same in
    let walked = walk_told (g ∷ gs) [] None back
    (ap (λ (cs : List Change). walks cs [] None back) (sym same) ∙ ap (λ (c : GraphPick). is_placed c (RemoveMatching first ∷ more) back) (sym pick) ∙ e) in
    record { contexts = g ∷ gs; quads = walked.quads; graphs = are; writable = walked.writable; are = ap (λ (cs : List Change). removals (everything_in (g ∷ gs)) ++ cs) walked.are }

removes_told : (first : Pattern) (more back : List Change) → removes first more (RemoveMatching first ∷ more) back ≡ true
    → IsReplacing ((RemoveMatching first ∷ more) ++ back) ⊎ IsRemoving ((RemoveMatching first ∷ more) ++ back)
removes_told first more [] e =
    let x = select_told first more e in
    inr (record { it = record { s = first.s; p = first.p; o = first.o; contexts = x.contexts }; selectable = x.selectable; are = append-nil (RemoveMatching first ∷ more) ∙ x.are })
removes_told first more (change ∷ back) e =
    let all = first_of (is_everything first) _ e in
    let tail = second_of (is_everything first) _ e in
    let x = select_told first more (first_of (selects first more) _ tail) in
    let b = second_of (is_free first.s) _ all in
    let same : RemoveMatching first ∷ more ≡ removals (everything_in x.contexts) =
    x.are ∙ (λ i. removals (record {
      s = free_told first.s (first_of (is_free first.s) _ all) i;
      p = free_told first.p (first_of (is_free first.p) (is_free first.o) b) i;
      o = free_told first.o (second_of (is_free first.p) (is_free first.o) b) i;
      contexts = x.contexts;
    })) in
    inl (subst (λ (cs : List Change). IsReplacing (cs ++ change ∷ back)) (sym same)
    (placed_told x.contexts first more (change ∷ back) same (second_of (selects first more) _ tail) x.selectable.contexts))

writes_told : (changes : List Change) → writes_alone changes ≡ true → IsWriting None changes
writes_told [] e = inl (record { quads = []; writable = All-nil IsWritable; are = refl })
writes_told (Add q ∷ changes) e = inl (additions_told (Add q ∷ changes) e)
writes_told (Remove q ∷ changes) e = never e
writes_told (RemoveMatching p ∷ changes) e =
    let all = RemoveMatching p ∷ changes in
    let front = front_more p changes in
    let told : removes p (front_of changes) (RemoveMatching p ∷ front_of changes) (back_of all) ≡ true =
    ap (λ (cs : List Change). removes_first p cs (back_of all)) (sym front) ∙ e in
    let whole : (RemoveMatching p ∷ front_of changes) ++ back_of all ≡ all = ap (λ (cs : List Change). cs ++ back_of all) (sym front) ∙ sym (front_and_back all) in
    inr (subst (λ (cs : List Change). IsReplacing cs ⊎ IsRemoving cs) whole (removes_told p (front_of changes) (back_of all) told))

-- and each write is one

adding_is : (quads : List Statement) → All IsWritable quads → writes_alone (map Add quads) ≡ true
adding_is [] all = refl
adding_is (q ∷ qs) all = additions_are (q ∷ qs) all

-- by patterns, and then additions
by_patterns : (s p o : Option Term) (g : Graph) (gs : List Graph) (quads : List Statement) → removes (pattern_in s p o g) (In s p o gs) (In s p o (g ∷ gs)) (map Add quads) ≡ true
    → writes_alone (In s p o (g ∷ gs) ++ map Add quads) ≡ true
by_patterns s p o g gs quads e =
    (λ i. removes_first (pattern_in s p o g) (front_of_in s p o (g ∷ gs) quads i) (back_of_in s p o (g ∷ gs) quads i)) ∙ e

by_one_pattern : (s p o : Option Term) (quads : List Statement)
    → removes (record { s = s; p = p; o = o; c = picks.Any }) [] (RemoveMatching (record { s = s; p = p; o = o; c = picks.Any }) ∷ []) (map Add quads) ≡ true
    → writes_alone (RemoveMatching (record { s = s; p = p; o = o; c = picks.Any }) ∷ map Add quads) ≡ true
by_one_pattern s p o quads e =
    let first : Pattern = record { s = s; p = p; o = o; c = picks.Any } in
    (λ i. removes_first first ((front_more first (map Add quads) ∙ ap (λ (cs : List Change). RemoveMatching first ∷ cs) (front_of_in None None None [] quads)) i)
    ((back_more first (map Add quads) ∙ back_of_in None None None [] quads) i)) ∙ e

removing_by : (s p o : Option Term) (contexts : List Graph) → IsSelectable (record { s = s; p = p; o = o; contexts = contexts })
    → writes_alone (removals (record { s = s; p = p; o = o; contexts = contexts })) ≡ true
removing_by s p o [] x = by_one_pattern s p o [] (select_alone s p o x)
removing_by s p o (g ∷ gs) x = ap writes_alone (sym (append-nil (In s p o (g ∷ gs)))) ∙ by_patterns s p o g gs [] (select_in s p o g gs x)

everything : (contexts : List Graph) → AreContextGraphs contexts → IsSelectable (everything_in contexts)
everything contexts are = record { s = tt; p = tt; o = tt; contexts = are }

added_behind : (first : Pattern) (more front : List Change) (quads : List Statement) → is_everything first ≡ true → selects first more ≡ true
    → is_placed first.c front (map Add quads) ≡ true → removes first more front (map Add quads) ≡ true
added_behind first more front [] e f h = f
added_behind first more front (q ∷ qs) e f h = both _ _ e (both _ _ f h)

replacing_is : (contexts : List Graph) (quads : List Statement) → AreContextGraphs contexts → All IsWritable quads → writes_alone (replacements contexts quads) ≡ true
replacing_is [] quads are all =
    ap (λ (qs : List Statement). writes_alone (removals (everything_in []) ++ map Add qs)) (placed_alone quads)
    ∙ by_one_pattern None None None quads
    (added_behind (record { s = None; p = None; o = None; c = picks.Any }) [] (RemoveMatching (record { s = None; p = None; o = None; c = picks.Any }) ∷ []) quads refl (select_alone None None None (everything [] are)) (additions_are quads all))
replacing_is (g ∷ gs) quads are all =
    by_patterns None None None g gs (flat_map (placed (g ∷ gs)) quads)
    (added_behind (pattern_in None None None g) (All' gs) (All' (g ∷ gs)) (flat_map (placed (g ∷ gs)) quads) refl (select_in None None None g gs (everything (g ∷ gs) are))
    (walk_is g gs None quads are.each all))

writes_is : (changes : List Change) → IsWriting None changes → writes_alone changes ≡ true
writes_is changes (inl x) = ap writes_alone x.are ∙ adding_is x.quads x.writable
writes_is changes (inr (inl x)) = ap writes_alone x.are ∙ replacing_is x.contexts x.quads x.graphs x.writable
writes_is changes (inr (inr x)) = ap writes_alone x.are ∙ removing_by x.it.s x.it.p x.it.o x.it.contexts x.selectable

-- the tests decide

pub alone_decides : (changes : List Change) (r : Bool) → r ≡ writes_alone changes → (r ≡ true → IsWriting None changes) × (IsWriting None changes → r ≡ true)
alone_decides changes r e = (λ h. writes_told changes (sym e ∙ h), λ x. e ∙ writes_is changes x)

pub acted_decides : (t : Txn) (changes : List Change) (a d r : Bool) → a ≡ list_all is_addition changes → d ≡ list_all is_deletion changes → r ≡ (a || d)
    → (r ≡ true → IsWriting (Some t) changes) × (IsWriting (Some t) changes → r ≡ true)
acted_decides t changes true d r ea ed er = (λ h. inl (additions_told changes (sym ea)), λ x. er)
acted_decides t changes false d r ea ed er = (
  λ h. inr (deletions_told changes (sym ed ∙ (sym er ∙ h))),
  λ x. elim x [
    | inl y ↦ er ∙ never (ea ∙ (ap (list_all is_addition) y.are ∙ additions_are y.quads y.writable))
    | inr y ↦ er ∙ (ed ∙ (ap (list_all is_deletion) y.are ∙ deletions_are y.quads y.writable))
  ],
)

-- the front of a list, by its rest

pub front_is : (p : Pattern) (rest changes front more : List Change) → changes ≡ RemoveMatching p ∷ rest → front ≡ front_of changes → more ≡ front_of rest → front ≡ RemoveMatching p ∷ more
front_is p rest changes front more e f g = f ∙ ap front_of e ∙ front_more p rest ∙ ap (λ (cs : List Change). RemoveMatching p ∷ cs) (sym g)

pub removed_by_front : (p : Pattern) (rest changes front more back : List Change) → changes ≡ RemoveMatching p ∷ rest → front ≡ front_of changes → more ≡ front_of rest → back ≡ back_of changes
    → removes p more front back ≡ removes_first p (front_of changes) (back_of changes)
removed_by_front p rest changes front more back e f g b =
    let m : more ≡ behind_first (front_of changes) = g ∙ sym (ap behind_first (ap front_of e ∙ front_more p rest)) in λ i. removes p (m i) (f i) (b i)
