-- The changes that a write makes.
use Rattle.std.specs.Prelude.{List, [], ◌∷◌, ◌++◌, map, None}
use Rattle.std.specs.List.{flat_map}
use Rattle.rdf_term.specs.declared.graph.Graph.{Graph}
use Rattle.rdf_term.specs.Statement.{Statement}
use Rattle.change_set.specs.declared.change.Change.{Change}
use Rattle.change_set.specs.declared.change.Change.TheVariants.{Add, Remove, RemoveMatching}
use Rattle.api_parts.specs.declared.selection.Selection.{Selection}
use Rattle.api_parts.specs.declared.writes.Kept.{Kept}
use Rattle.api_parts.specs.declared.writes.Kept.TheVariants.{Added, Removed}
use Rattle.api_parts.specs.Selections.{patterns_of}

-- a statement with another graph
abbrev pub in_graph : Statement → Graph → Statement
in_graph q g = record { s = q.s; p = q.p; o = q.o; c = g }

-- a statement in its own graph, or in each of the contexts in their order
abbrev pub placed : List Graph → Statement → List Statement
placed [] q = q ∷ []
placed (g ∷ gs) q = map (in_graph q) (g ∷ gs)

-- the change that adds a statement, or removes it
abbrev pub change_by : Kept → Statement → Change
change_by Added q = Add q
change_by Removed q = Remove q

-- statements are added in their order
abbrev pub additions : List Graph → List Statement → List Change
additions contexts quads = map Add (flat_map (placed contexts) quads)

-- statements are removed in their order, each from its own graph or from each of the contexts
abbrev pub deletions : List Graph → List Statement → List Change
deletions contexts quads = map Remove (flat_map (placed contexts) quads)

-- what is selected is removed: by one pattern for each context, or by one for every graph
abbrev pub removals : Selection → List Change
removals it = map RemoveMatching (patterns_of it)

-- everything in the contexts is selected, or everything where there is none
abbrev pub everything_in : List Graph → Selection
everything_in contexts = record { s = None; p = None; o = None; contexts = contexts }

-- everything in the contexts is removed, and then statements are added
abbrev pub replacements : List Graph → List Statement → List Change
replacements contexts quads = removals (everything_in contexts) ++ additions contexts quads
