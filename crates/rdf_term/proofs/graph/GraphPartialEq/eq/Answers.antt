use Rattle.std.proofs.Common.{◌∙◌, ap}
use Rattle.std.specs.Ordering.{is_eq}
use Rattle.rdf_term.specs.OrderLaws.{graph_total, graph_exact}
use Rattle.rdf_term.proofs.Same.{same_by_cmp}
use Rattle.rdf_term.proofs.graph.GraphPartialEq.eq.Goals as goal

pub returns-clause-same : goal.returns-clause-same
returns-clause-same c = same_by_cmp graph_total graph_exact _ _ _ (c.is_eq.ensures ∙ ap is_eq c.order.ensures)
