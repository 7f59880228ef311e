use Rattle.std.proofs.Common.{◌≡◌, ◌+◌, ◌<◌, length, take, slice_set, ap, arith, rules}
use Rattle.std.specs.Arc.{arc_value}
use Rattle.branch.proofs.BoundLemmas.{topped-none, topped-replaced}
use Rattle.branch.proofs.layers.put.Goals as goal

pub returns-then-len-eq0-clause-ok : goal.returns-then-len-eq0-clause-ok
returns-then-len-eq0-clause-ok c =
    let none : length c.args.pile.top.value ≡ 0 = omega (arith, ap length c.deref.ensures, c.len.ensures) in
    topped-none arc_value c.args.layers.now.items c.truncate.new.self.items c.args.pile.below c.args.pile.top.value none c.truncate.ensures.items

pub returns-then-below-len-clause-ok : goal.returns-then-below-len-clause-ok
returns-then-below-len-clause-ok c =
    let old = c.args.layers.now.items in
    let below = c.args.pile.below in
    let inside : below < length old = omega (arith, c.args.layers.now.ok.0, c.len-2.ensures) in
    let wrote : c.truncate-then-below-len.new.self.items ≡ take (below + 1) (slice_set old below c.args.pile.top) = search rules in
    topped-replaced arc_value old c.truncate-then-below-len.new.self.items below c.args.pile.top
    (λ e. omega (arith, e, ap length c.deref.ensures, c.len.ensures)) inside wrote
