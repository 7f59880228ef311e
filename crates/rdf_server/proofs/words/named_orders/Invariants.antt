use Rattle.std.proofs.Common.{◌≡◌, ℕ, List, ◌++◌, length}
use Rattle.quad_index.specs.declared.letter.Letter.{Letter}
use Rattle.session.specs.Houses.{AreNames}
use Rattle.rdf_server.specs.Words.{AreOptions}
use Rattle.rdf_server.proofs.words.named_orders.Given as goal

abbrev pub invariant-loop-order : goal.invariant-loop-order
invariant-loop-order l = (orders : List (List Letter)) (ids : List (List ℕ)) → AreOptions l.words orders ids → AreNames ids
    → (later : List (List Letter)) × AreOptions l.left later ids × (orders ≡ l.orders ++ later)

abbrev pub decreases-loop-order : goal.decreases-loop-order
decreases-loop-order l = length l.left
