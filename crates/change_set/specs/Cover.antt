-- Which patterns match whatever another one matches.
use Rattle.std.specs.Prelude.{Bool, true, false, ◌&&◌, Option, Some, None}
use Rattle.std.specs.Ordering.{eq_by_cmp}
use Rattle.rdf_term.specs.declared.term.Term.{Term}
use Rattle.rdf_term.specs.declared.pattern.GraphPick.{GraphPick}
use Rattle.rdf_term.specs.declared.pattern.GraphPick.TheVariants as picks
use Rattle.rdf_term.specs.declared.pattern.Pattern.{Pattern}
use Rattle.rdf_term.specs.Order.{term_cmp, graph_cmp}

-- a part that isn't given covers every part, another one the same alone
abbrev pub covers_part : Option Term → Option Term → Bool
covers_part None other = true
covers_part (Some t) None = false
covers_part (Some t) (Some u) = eq_by_cmp term_cmp t u

abbrev pub covers_pick : GraphPick → GraphPick → Bool
covers_pick picks.Any other = true
covers_pick picks.NamedOnly picks.Any = false
covers_pick picks.NamedOnly picks.NamedOnly = true
covers_pick picks.NamedOnly (picks.One g) = false
covers_pick (picks.One g) picks.Any = false
covers_pick (picks.One g) picks.NamedOnly = false
covers_pick (picks.One g) (picks.One h) = eq_by_cmp graph_cmp g h

-- each part that the first pattern gives the other one gives alike
abbrev pub covers : Pattern → Pattern → Bool
covers p other = covers_part p.s other.s && covers_part p.p other.p && covers_part p.o other.o && covers_pick p.c other.c
