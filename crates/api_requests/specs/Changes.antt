-- The parts of a list of changes, from which a request is written.
use Rattle.std.specs.Prelude.{ℕ, zero, suc, ◌-◌, List, [], ◌∷◌, length}
use Rattle.rdf_term.specs.declared.graph.Graph.{Graph}
use Rattle.rdf_term.specs.declared.pattern.GraphPick.{GraphPick}
use Rattle.rdf_term.specs.declared.pattern.GraphPick.TheVariants as picks
use Rattle.rdf_term.specs.declared.pattern.Pattern.{Pattern}
use Rattle.rdf_term.specs.Statement.{Statement}
use Rattle.change_set.specs.declared.change.Change.{Change}
use Rattle.change_set.specs.declared.change.Change.TheVariants.{Add, Remove, RemoveMatching}
use Rattle.api_parts.specs.declared.selection.Selection.{Selection}
use Rattle.api_parts.specs.Writes.{everything_in}

-- the quads that are added or removed one by one
abbrev pub quads_in : List Change → List Statement
quads_in [] = []
quads_in (Add q ∷ changes) = q ∷ quads_in changes
quads_in (Remove q ∷ changes) = q ∷ quads_in changes
quads_in (RemoveMatching p ∷ changes) = quads_in changes

-- the patterns by which quads are removed
abbrev pub patterns_in : List Change → List Pattern
patterns_in [] = []
patterns_in (Add q ∷ changes) = patterns_in changes
patterns_in (Remove q ∷ changes) = patterns_in changes
patterns_in (RemoveMatching p ∷ changes) = p ∷ patterns_in changes

-- a graph in front of others, where one is picked
abbrev pub with_pick : GraphPick → List Graph → List Graph
with_pick picks.Any graphs = graphs
with_pick picks.NamedOnly graphs = graphs
with_pick (picks.One g) graphs = g ∷ graphs

-- the graphs that are picked
abbrev pub graphs_in : List Change → List Graph
graphs_in [] = []
graphs_in (Add q ∷ changes) = graphs_in changes
graphs_in (Remove q ∷ changes) = graphs_in changes
graphs_in (RemoveMatching p ∷ changes) = with_pick p.c (graphs_in changes)

-- the selection whose patterns these are
abbrev pub selection_by : List Pattern → List Graph → Selection
selection_by [] graphs = everything_in graphs
selection_by (p ∷ patterns) graphs = record { s = p.s; p = p.p; o = p.o; contexts = graphs }

abbrev pub selection_in : List Change → Selection
selection_in changes = selection_by (patterns_in changes) (graphs_in changes)

-- one of every so many items, behind some that are passed over
abbrev pub every : ℕ → ℕ → List Statement → List Statement
every count skipped [] = []
every count zero (q ∷ quads) = q ∷ every count (count - 1) quads
every count (suc skipped) (q ∷ quads) = every count skipped quads

-- The statements of a document that is added in each of the graphs: the first of each so many quads, which stand in the first graph. Without
-- graphs it is every quad.
abbrev pub sources_in : List Change → List Statement
sources_in changes = every (length (graphs_in changes)) 0 (quads_in changes)
