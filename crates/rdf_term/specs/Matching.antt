-- Which quads a pattern matches.
use Rattle.std.specs.Prelude.{◌≡◌, IfSome, Bool, true, false, ◌&&◌, Option, Some, None}
use Rattle.std.specs.Ordering.{eq_by_cmp}
use Rattle.rdf_term.specs.declared.term.Term.{Term}
use Rattle.rdf_term.specs.declared.graph.Graph.{Graph}
use Rattle.rdf_term.specs.declared.graph.Graph.TheVariants.{Absent, Named}
use Rattle.rdf_term.specs.declared.pattern.GraphPick.{GraphPick}
use Rattle.rdf_term.specs.declared.pattern.GraphPick.TheVariants as picks
use Rattle.rdf_term.specs.declared.pattern.Pattern.{Pattern}
use Rattle.rdf_term.specs.Statement.{Statement}
use Rattle.rdf_term.specs.Order.{term_cmp, graph_cmp}

abbrev pub IsNamed : Graph → Type 0
IsNamed Absent = ⊥
IsNamed (Named t) = Unit {0}

abbrev pub Picks : GraphPick → Graph → Type 0
Picks picks.Any c = Unit {0}
Picks picks.NamedOnly c = IsNamed c
Picks (picks.One g) c = g ≡ c

-- each given part of the pattern equals the part of the quad
pub record Matches (p : Pattern) (q : Statement) : Type 0 where
  pub subject : IfSome p.s (λ t. t ≡ q.s)
  pub predicate : IfSome p.p (λ t. t ≡ q.p)
  pub object : IfSome p.o (λ t. t ≡ q.o)
  pub graph : Picks p.c q.c

-- the same as a test that computes

abbrev pub fits : Option Term → Term → Bool
fits None t = true
fits (Some u) t = eq_by_cmp term_cmp u t

abbrev pub is_named : Graph → Bool
is_named Absent = false
is_named (Named t) = true

abbrev pub picks_graph : GraphPick → Graph → Bool
picks_graph picks.Any c = true
picks_graph picks.NamedOnly c = is_named c
picks_graph (picks.One g) c = eq_by_cmp graph_cmp g c

abbrev pub matches : Pattern → Statement → Bool
matches p q = fits p.s q.s && fits p.p q.p && fits p.o q.o && picks_graph p.c q.c
