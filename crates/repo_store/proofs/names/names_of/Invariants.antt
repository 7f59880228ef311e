use Rattle.std.proofs.Common.{◌≡◌, take}
use Rattle.std.specs.List.{flat_map}
use Rattle.rdf_term.specs.Order.{term_cmp}
use Rattle.rdf_term.specs.Sets.{sorted_set}
use Rattle.rdf_term.specs.Statement.{Statement}
use Rattle.query_model.specs.Solutions.{graph_terms}
use Rattle.repo_store.proofs.names.names_of.Given as goal

abbrev pub invariant-loop-quad : goal.invariant-loop-quad
invariant-loop-quad l = l.names.keys ≡ sorted_set term_cmp (flat_map (λ (q : Statement). graph_terms q.c) (take l.quad-index l.quads))
