-- The tests that tell without memory whether a call is spellable. No contract of a public call cites it.
use Rattle.std.specs.Prelude.{Bool, true, false, ◌&&◌, not, List, [], ◌∷◌, Option, Some, None, take, drop}
use Rattle.std.specs.List.{list_all, list_any, position_or_len}
use Rattle.std.specs.Ordering.{eq_by_cmp}
use Rattle.rdf_term.specs.declared.term.Term.{Term}
use Rattle.rdf_term.specs.declared.term.Term.TheVariants.{Iri, Blank, Plain, Tagged, Typed}
use Rattle.rdf_term.specs.declared.graph.Graph.{Graph}
use Rattle.rdf_term.specs.declared.graph.Graph.TheVariants.{Absent, Named}
use Rattle.rdf_term.specs.declared.pattern.GraphPick.{GraphPick}
use Rattle.rdf_term.specs.declared.pattern.GraphPick.TheVariants as picks
use Rattle.rdf_term.specs.declared.pattern.Pattern.{Pattern}
use Rattle.rdf_term.specs.Order.{term_cmp, graph_cmp}
use Rattle.rdf_term.specs.Statement.{Statement}
use Rattle.rdf_term.specs.Validity.{is_valid}
use Rattle.change_set.specs.declared.change.Change.{Change}
use Rattle.change_set.specs.declared.change.Change.TheVariants.{Add, Remove, RemoveMatching}
use Rattle.media.specs.declared.form.Form.{Form}
use Rattle.media.specs.declared.form.Form.TheVariants.{NQuads, XNQuads, NTriples, PlainTriples, ResultsJson, Json, Boolean, PlainText}

-- terms

abbrev pub is_resource : Term → Bool
is_resource (Iri t) = true
is_resource (Blank t) = true
is_resource (Plain t) = false
is_resource (Tagged t u) = false
is_resource (Typed t u) = false

abbrev pub is_iri : Term → Bool
is_iri (Iri t) = true
is_iri (Blank t) = false
is_iri (Plain t) = false
is_iri (Tagged t u) = false
is_iri (Typed t u) = false

abbrev pub is_valid_resource : Term → Bool
is_valid_resource t = is_valid t && is_resource t

-- the absent graph, or one with a valid name
abbrev pub is_context : Graph → Bool
is_context Absent = true
is_context (Named t) = is_valid_resource t

-- a statement of valid terms
abbrev pub is_writable : Statement → Bool
is_writable q = is_valid_resource q.s && (is_valid q.p && (is_iri q.p && (is_valid q.o && is_context q.c)))

-- parts that are given
abbrev pub is_subject : Option Term → Bool
is_subject None = true
is_subject (Some t) = is_valid_resource t

abbrev pub is_predicate : Option Term → Bool
is_predicate None = true
is_predicate (Some t) = is_valid t && is_iri t

abbrev pub is_object : Option Term → Bool
is_object None = true
is_object (Some t) = is_valid t

-- forms

abbrev pub is_table : Form → Bool
is_table NQuads = false
is_table XNQuads = false
is_table NTriples = false
is_table PlainTriples = false
is_table ResultsJson = true
is_table Json = true
is_table Boolean = false
is_table PlainText = false

abbrev pub is_truth : Form → Bool
is_truth NQuads = false
is_truth XNQuads = false
is_truth NTriples = false
is_truth PlainTriples = false
is_truth ResultsJson = true
is_truth Json = true
is_truth Boolean = true
is_truth PlainText = false

abbrev pub is_quad_form : Form → Bool
is_quad_form NQuads = true
is_quad_form XNQuads = true
is_quad_form NTriples = true
is_quad_form PlainTriples = true
is_quad_form ResultsJson = false
is_quad_form Json = false
is_quad_form Boolean = false
is_quad_form PlainText = false

abbrev pub is_plain : Form → Bool
is_plain NQuads = false
is_plain XNQuads = false
is_plain NTriples = false
is_plain PlainTriples = false
is_plain ResultsJson = false
is_plain Json = false
is_plain Boolean = false
is_plain PlainText = true

-- changes

abbrev pub is_addition : Change → Bool
is_addition (Add q) = is_writable q
is_addition (Remove q) = false
is_addition (RemoveMatching p) = false

abbrev pub is_deletion : Change → Bool
is_deletion (Add q) = false
is_deletion (Remove q) = is_writable q
is_deletion (RemoveMatching p) = false

-- the change names a quad
abbrev pub is_named : Change → Bool
is_named (Add q) = true
is_named (Remove q) = true
is_named (RemoveMatching p) = false

-- the quad that is added
abbrev pub added : Change → Option Statement
added (Add q) = Some q
added (Remove q) = None
added (RemoveMatching p) = None

-- the changes by patterns at the front, and what stands behind them
abbrev pub front_of : List Change → List Change
front_of changes = take (position_or_len is_named changes) changes

abbrev pub back_of : List Change → List Change
back_of changes = drop (position_or_len is_named changes) changes

-- two parts are the same
abbrev pub same_part : Option Term → Option Term → Bool
same_part None None = true
same_part None (Some u) = false
same_part (Some t) None = false
same_part (Some t) (Some u) = eq_by_cmp term_cmp t u

-- the graph that is picked
abbrev pub picked_by : GraphPick → Option Graph
picked_by picks.Any = None
picked_by picks.NamedOnly = None
picked_by (picks.One g) = Some g

abbrev pub picked : Change → Option Graph
picked (Add q) = None
picked (Remove q) = None
picked (RemoveMatching p) = picked_by p.c

abbrev pub is_graph : Graph → Option Graph → Bool
is_graph g None = false
is_graph g (Some h) = eq_by_cmp graph_cmp g h

-- a context is picked
abbrev pub is_pick : Option Graph → Bool
is_pick None = false
is_pick (Some g) = is_context g

-- the change removes by the same parts in a context
abbrev pub goes_on : Pattern → Change → Bool
goes_on p (Add q) = false
goes_on p (Remove q) = false
goes_on p (RemoveMatching other) = same_part p.s other.s && (same_part p.p other.p && (same_part p.o other.o && is_pick (picked_by other.c)))

-- none of the changes picks this graph
abbrev pub is_other : Option Graph → List Change → Bool
is_other None changes = false
is_other (Some g) changes = not (list_any (λ change. is_graph g (picked change)) changes)

-- each change picks another graph
abbrev pub are_apart : List Change → Bool
are_apart [] = true
are_apart (change ∷ changes) = is_other (picked change) changes && are_apart changes

abbrev pub is_lone : List Change → Bool
is_lone [] = true
is_lone (change ∷ changes) = false

-- the patterns behind the first one are those of a selection with it
abbrev pub selects_more : Pattern → GraphPick → List Change → Bool
selects_more p picks.Any more = is_lone more
selects_more p picks.NamedOnly more = false
selects_more p (picks.One g) more = is_context g && (list_all (goes_on p) more && are_apart (RemoveMatching p ∷ more))

abbrev pub selects : Pattern → List Change → Bool
selects p more = is_subject p.s && (is_predicate p.p && (is_object p.o && selects_more p p.c more))

abbrev pub is_free : Option Term → Bool
is_free None = true
is_free (Some t) = false

abbrev pub is_everything : Pattern → Bool
is_everything p = is_free p.s && (is_free p.p && is_free p.o)

-- the triple of a quad is that of another
abbrev pub same_triple : Option Statement → Statement → Bool
same_triple None q = false
same_triple (Some r) q = eq_by_cmp term_cmp r.s q.s && (eq_by_cmp term_cmp r.p q.p && eq_by_cmp term_cmp r.o q.o)

-- the quad stands in the graph that the first change picks
abbrev pub stands_first : List Change → Statement → Bool
stands_first [] q = false
stands_first (change ∷ changes) q = is_graph q.c (picked change)

-- the quad is the next one of a statement that stands in each of the graphs: the first one of a further statement, or of the current one
abbrev pub fits : List Change → List Change → Option Statement → Statement → Bool
fits front [] current q = stands_first front q
fits front (change ∷ changes) current q = same_triple current q && is_graph q.c (picked change)

abbrev pub behind_first : List Change → List Change
behind_first [] = []
behind_first (change ∷ changes) = changes

abbrev pub left_after : List Change → List Change → List Change
left_after front [] = behind_first front
left_after front (change ∷ changes) = changes

abbrev pub current_after : List Change → Option Statement → Statement → Option Statement
current_after [] current q = Some q
current_after (change ∷ changes) current q = current

-- the changes add statements, each in all of the graphs
abbrev pub walks : List Change → List Change → Option Statement → List Change → Bool
walks front left current [] = is_lone left
walks front left current (Add q ∷ changes) =
    is_writable q && (fits front left current q && walks front (left_after front left) (current_after left current q) changes)
walks front left current (Remove q ∷ changes) = false
walks front left current (RemoveMatching p ∷ changes) = false

abbrev pub is_placed : GraphPick → List Change → List Change → Bool
is_placed picks.Any front back = list_all is_addition back
is_placed picks.NamedOnly front back = false
is_placed (picks.One g) front back = walks front [] None back

-- a removal, or a replacement
abbrev pub removes : Pattern → List Change → List Change → List Change → Bool
removes p more front [] = selects p more
removes p more front (change ∷ back) = is_everything p && (selects p more && is_placed p.c front (change ∷ back))

abbrev pub removes_first : Pattern → List Change → List Change → Bool
removes_first p front back = removes p (behind_first front) front back

-- a write outside transactions, by its first change
abbrev pub writes_alone : List Change → Bool
writes_alone [] = true
writes_alone (Add q ∷ changes) = list_all is_addition (Add q ∷ changes)
writes_alone (Remove q ∷ changes) = false
writes_alone (RemoveMatching p ∷ changes) = removes_first p (front_of (RemoveMatching p ∷ changes)) (back_of (RemoveMatching p ∷ changes))
