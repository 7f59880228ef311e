-- The quads that a triple pattern can be found among, whatever its unknowns stand for.
use Rattle.std.specs.Prelude.{List, Option, Some, None, map}
use Rattle.rdf_term.specs.declared.term.Term.{Term}
use Rattle.rdf_term.specs.declared.graph.Graph.TheVariants.{Named}
use Rattle.rdf_term.specs.declared.pattern.GraphPick.{GraphPick}
use Rattle.rdf_term.specs.declared.pattern.GraphPick.TheVariants as picks
use Rattle.rdf_term.specs.declared.pattern.Pattern.{Pattern}
use Rattle.query_model.specs.declared.query.Slot.{Slot}
use Rattle.query_model.specs.declared.query.Slot.TheVariants.{Var, Blank, Fixed}
use Rattle.query_model.specs.declared.query.Scope.{Scope}
use Rattle.query_model.specs.declared.query.Scope.TheVariants as scope
use Rattle.query_model.specs.declared.query.TriplePattern.{TriplePattern}
use Rattle.query_model.specs.declared.query.Query.{Query}
use Rattle.query_model.specs.Solutions.{group_of}

-- a term is asked for; a variable and a blank node stand for any
abbrev pub fixed_term : Slot → Option Term
fixed_term (Var x) = None
fixed_term (Blank x) = None
fixed_term (Fixed t) = Some t

-- inside GRAPH the graph of that name, or every named one
abbrev pub named_pick : Option Term → GraphPick
named_pick None = picks.NamedOnly
named_pick (Some t) = picks.One (Named t)

-- outside GRAPH every graph, the absent one too
abbrev pub pick_of : Scope → GraphPick
pick_of scope.Any = picks.Any
pick_of (scope.Graph x) = named_pick (fixed_term x)

-- the observed pattern of a triple pattern
abbrev pub pattern_of : TriplePattern → Pattern
pattern_of p = record { s = fixed_term p.s; p = fixed_term p.p; o = fixed_term p.o; c = pick_of p.g }

-- the observed patterns of a query: those of its triple patterns, in their order
abbrev pub patterns_of : Query → List Pattern
patterns_of q = map pattern_of (group_of q)
