-- What is found for a query: the answer that its solutions fix (SPARQL 1.1, sections 15, 16 and 18.5).
use Rattle.std.specs.Prelude.{ℕ, Bool, true, false, ◌&&◌, List, Option, Some, None, if◌then◌else◌, nat_lt, length, map, drop, take}
use Rattle.std.specs.List.{flat_map, filter_map}
use Rattle.rdf_term.specs.declared.term.Term.{Term}
use Rattle.rdf_term.specs.declared.term.Term.TheVariants as term
use Rattle.rdf_term.specs.declared.graph.Graph.TheVariants.{Absent}
use Rattle.rdf_term.specs.Statement.{Statement}
use Rattle.rdf_term.specs.Order.{row_cmp}
use Rattle.rdf_term.specs.Sets.{in_order, rows_in_order, sorted_set}
use Rattle.query_model.specs.declared.query.Slot.{Slot}
use Rattle.query_model.specs.declared.query.Slot.TheVariants as slot
use Rattle.query_model.specs.declared.query.TriplePattern.{TriplePattern}
use Rattle.query_model.specs.declared.query.Cut.{Cut}
use Rattle.query_model.specs.declared.query.Query.{Query}
use Rattle.query_model.specs.declared.query.Query.TheVariants.{Select, Ask, Construct}
use Rattle.query_model.specs.declared.found.Found.{Found}
use Rattle.query_model.specs.declared.found.Found.TheVariants as answer
use Rattle.query_model.specs.Unknowns.{unknowns, value_of}
use Rattle.query_model.specs.Solutions.{solutions}

-- at most so many rows
abbrev pub limited : Option ℕ → List (List (Option Term)) → List (List (Option Term))
limited None rows = rows
limited (Some n) rows = take n rows

-- behind OFFSET rows, at most LIMIT
abbrev pub cut_rows : Cut → List (List (Option Term)) → List (List (Option Term))
cut_rows c rows = limited c.limit (drop c.offset rows)

-- the columns of a row: the values of these variables, unbound where the group doesn't hold one
abbrev pub projection : List Slot → List (List ℕ) → List (Option Term) → List (Option Term)
projection names vars row = map (λ var. value_of names row (slot.Var var)) vars

-- the rows of a SELECT, in order: each as often as a solution gives it, or with DISTINCT once
unfoldable pub selected : Bool → List (List ℕ) → List TriplePattern → List (List Statement) → List (List (Option Term))
selected distinct vars group views =
    let rows = map (projection (unknowns group) vars) (solutions group views) in
    if distinct then sorted_set row_cmp rows else rows_in_order rows

-- what may stand as a subject, and as a predicate
abbrev pub is_resource : Term → Bool
is_resource (term.Iri t) = true
is_resource (term.Blank t) = true
is_resource (term.Plain t) = false
is_resource (term.Tagged t u) = false
is_resource (term.Typed t u) = false

abbrev pub is_iri : Term → Bool
is_iri (term.Iri t) = true
is_iri (term.Blank t) = false
is_iri (term.Plain t) = false
is_iri (term.Tagged t u) = false
is_iri (term.Typed t u) = false

-- the triple of these parts, in the absent graph, where all are bound and they are one
abbrev pub triple_of : Option Term → Option Term → Option Term → Option Statement
triple_of (Some s) (Some p) (Some o) = if is_resource s && is_iri p then Some (record { s = s; p = p; o = o; c = Absent }) else None
triple_of (Some s) (Some p) None = None
triple_of (Some s) None o = None
triple_of None p o = None

-- the triple that a row makes of a template's pattern; a template that was read holds no blank node
abbrev pub made_of : List Slot → List (Option Term) → TriplePattern → Option Statement
made_of names row p = triple_of (value_of names row p.s) (value_of names row p.p) (value_of names row p.o)

-- the triples of a CONSTRUCT, in order, each once: those that the solutions make that are left of the sorted ones
unfoldable pub constructed : List TriplePattern → List TriplePattern → Cut → List (List Statement) → List Statement
constructed template group cut views =
    in_order (flat_map (λ row. filter_map (made_of (unknowns group) row) template) (cut_rows cut (rows_in_order (solutions group views))))

-- whether there are more solutions than so many
abbrev pub are_more : ℕ → List TriplePattern → List (List Statement) → Bool
are_more most group views = nat_lt most (length (solutions group views))

-- The answer of a query over one view, or one for each of its patterns. A SELECT or a CONSTRUCT with more than `most` solutions, counted before
-- DISTINCT, OFFSET and LIMIT, has none.
abbrev pub found : Query → List (List Statement) → ℕ → Option Found
found (Select distinct vars group cut) views most =
    if are_more most group views then None
    else Some (answer.Table (record { vars = vars; rows = cut_rows cut (selected distinct vars group views) }))
found (Ask group) views most = Some (answer.Truth (nat_lt 0 (length (solutions group views))))
found (Construct template group cut) views most =
    if are_more most group views then None else Some (answer.Quads (constructed template group cut views))
