use Rattle.std.proofs.Common.{length}
use Rattle.rdf_server.proofs.ServeParts.{Left}
use Rattle.rdf_server.proofs.serve_words.named_orders.Given as goal

abbrev pub invariant-loop-option : goal.invariant-loop-option
invariant-loop-option l = Left l.words l.left l.orders

abbrev pub decreases-loop-option : goal.decreases-loop-option
decreases-loop-option l = length l.left
