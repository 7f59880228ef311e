-- The steps of a search: a triple pattern in the view where it is looked up.
use Rattle.std.specs.Prelude.{ℕ, ◌==◌, List, [], Option, Some, None, if◌then◌else◌, map, slice_get, unwrap_or}
use Rattle.std.specs.List.{enumerate_from}
use Rattle.rdf_term.specs.declared.term.Term.{Term}
use Rattle.rdf_term.specs.declared.graph.Graph.TheVariants.{Named}
use Rattle.rdf_term.specs.declared.pattern.GraphPick.{GraphPick}
use Rattle.rdf_term.specs.declared.pattern.GraphPick.TheVariants as picks
use Rattle.rdf_term.specs.declared.pattern.Pattern.{Pattern}
use Rattle.rdf_term.specs.Statement.{Statement}
use Rattle.query_model.specs.declared.query.Slot.{Slot}
use Rattle.query_model.specs.declared.query.Scope.{Scope}
use Rattle.query_model.specs.declared.query.Scope.TheVariants as scope
use Rattle.query_model.specs.declared.query.TriplePattern.{TriplePattern}
use Rattle.bgp_eval.specs.declared.step.Reach.{Reach}
use Rattle.bgp_eval.specs.declared.step.Reach.TheVariants.{Anywhere, In}
use Rattle.bgp_eval.specs.declared.step.Step.{Step}
use Rattle.bgp_eval.specs.Parts.{part_of, part_value}

abbrev pub reach_of : List Slot → Scope → Reach
reach_of names scope.Any = Anywhere
reach_of names (scope.Graph x) = In (part_of names x)

-- the step of the pattern of this number, where there are so many views
abbrev pub step_of : List Slot → ℕ → ℕ × TriplePattern → Step
step_of names views x = record {
  s = part_of names x.1.s;
  p = part_of names x.1.p;
  o = part_of names x.1.o;
  reach = reach_of names x.1.g;
  view = if views == 1 then 0 else x.0;
}

abbrev pub search_steps : List Slot → ℕ → List TriplePattern → List Step
search_steps names views patterns = map (step_of names views) (enumerate_from 0 patterns)

-- the quads among which a step looks
abbrev pub quads_of : List (List Statement) → Step → List Statement
quads_of views step = unwrap_or (slice_get views step.view) []

-- the graphs that a name's value picks
abbrev pub named_pick : Option Term → GraphPick
named_pick None = picks.NamedOnly
named_pick (Some t) = picks.One (Named t)

abbrev pub reach_pick : List (Option Term) → Reach → GraphPick
reach_pick row Anywhere = picks.Any
reach_pick row (In part) = named_pick (part_value row part)

-- what a row makes of a step: the pattern of the quads that may go on from it
abbrev pub pattern_of : List (Option Term) → Step → Pattern
pattern_of row step = record { s = part_value row step.s; p = part_value row step.p; o = part_value row step.o; c = reach_pick row step.reach }
