use Rattle.std.proofs.Common.{map, ◌∙◌}
use Rattle.std.specs.Arc.{arc_value}
use Rattle.branch.specs.Counts.{counted_quads}
use Rattle.branch.proofs.CountLemmas.{named_quads_counted}
use Rattle.branch.proofs.counts.Scope.named_by.Goals as goal

pub returns : goal.returns
returns c =
    c.near.ensures
    ∙ named_quads_counted c.args.self.now.pattern.now (map arc_value c.args.below.now) c.args.layer.now (counted_quads c.args.self.now) c.named_near.result.now c.requires c.named_near.ensures
