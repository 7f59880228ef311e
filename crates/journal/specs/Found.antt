-- What an ask finds in views, and the patterns of quads that it observes.
use Rattle.std.specs.Prelude.{ℕ, Bool, List, [], ◌∷◌, length, map, filter, Option, Some, None}
use Rattle.std.specs.List.{list_any, flat_map}
use Rattle.rdf_term.specs.declared.term.Term.{Term}
use Rattle.rdf_term.specs.declared.graph.Graph.{Graph}
use Rattle.rdf_term.specs.declared.pattern.Pattern.{Pattern}
use Rattle.rdf_term.specs.declared.pattern.GraphPick.TheVariants as picks
use Rattle.rdf_term.specs.Statement.{Statement}
use Rattle.rdf_term.specs.Matching.{matches}
use Rattle.rdf_term.specs.Order.{term_cmp}
use Rattle.rdf_term.specs.Sets.{sorted_set}
use Rattle.query_model.specs.declared.found.Found.{Found}
use Rattle.query_model.specs.declared.found.Found.TheVariants as answer
use Rattle.query_model.specs.Found as query
use Rattle.query_model.specs.Solutions.{group_of, graph_terms, view_of}
use Rattle.journal.specs.declared.ask.Ask.{Ask}
use Rattle.journal.specs.declared.ask.Ask.TheVariants as ask
use Rattle.journal.specs.declared.reply.Reply.{Reply}
use Rattle.journal.specs.declared.reply.Reply.TheVariants as reply
use Rattle.query_model.specs.Observed.{pattern_of}

-- Observed patterns

-- the quads with these parts, in whatever graph
abbrev pub anywhere : Option Term → Option Term → Option Term → Pattern
anywhere s p o = record { s = s; p = p; o = o; c = picks.Any }

-- the pattern in each of the graphs; no graph at all stands for every graph
abbrev pub in_graphs : Pattern → List Graph → List Pattern
in_graphs p [] = p ∷ []
in_graphs p (c ∷ cs) = map (λ graph. record p { c = picks.One graph }) (c ∷ cs)

-- the observed patterns of an ask: those of a query's triple patterns, in order; one for each graph of a list or a size, or one for every graph; and all
-- quads in named graphs for the names of the graphs
unfoldable pub patterns_of : Ask → List Pattern
patterns_of (ask.Query q) = map pattern_of (group_of q)
patterns_of (ask.List s p o contexts) = in_graphs (anywhere s p o) contexts
patterns_of (ask.Size contexts) = in_graphs (anywhere None None None) contexts
patterns_of ask.Contexts = record { s = None; p = None; o = None; c = picks.NamedOnly } ∷ []

-- What is found

abbrev pub one_matches : List Pattern → Statement → Bool
one_matches patterns q = list_any (λ p. matches p q) patterns

-- the quads of the view that one of the patterns matches; a view is in order with each quad once, and so are they
abbrev pub matching : List Pattern → List Statement → List Statement
matching patterns view = filter (one_matches patterns) view

-- the names of the graphs of these quads, in order, each once
abbrev pub graph_names : List Statement → List Term
graph_names quads = sorted_set term_cmp (flat_map (λ (q : Statement). graph_terms q.c) quads)

-- the answer of a query as a reply; a query with too many solutions has none
abbrev pub answer_of : Option Found → Reply
answer_of None = reply.TooManyRows
answer_of (Some (answer.Table table)) = reply.Table table
answer_of (Some (answer.Truth truth)) = reply.Truth truth
answer_of (Some (answer.Quads quads)) = reply.Quads quads

-- What is found in one view, or for a query in one for each of its patterns: the query's answer, the quads of a list, how many those of a size are, or
-- the names of the graphs. Only a query that has more than `most` solutions finds nothing.
unfoldable pub found : Ask → List (List Statement) → ℕ → Reply
found (ask.Query q) views most = answer_of (query.found q views most)
found (ask.List s p o contexts) views most = reply.Quads (matching (in_graphs (anywhere s p o) contexts) (view_of views 0))
found (ask.Size contexts) views most = reply.Count (length (matching (in_graphs (anywhere None None None) contexts) (view_of views 0)))
found ask.Contexts views most = reply.Contexts (graph_names (view_of views 0))
