use Rattle.std.proofs.Common.{◌≤◌, length, map, arith}
use Rattle.std.proofs.lemmas.List.{length-map}
use Rattle.std.specs.Arc.{arc_value}
use Rattle.branch.proofs.BoundLemmas.{few}
use Rattle.branch.proofs.stack.Stack.layers.Goals as goal

pub returns-clause-most : goal.returns-clause-most
returns-clause-most c =
    let layers = c.self.inside.layers in
    let most : length (map arc_value layers.items) ≤ 64 = few (map arc_value layers.items) c.self.invariant in
    omega (arith, c.len.ensures, layers.ok.0, length-map layers.items arc_value)
