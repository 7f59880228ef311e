use Rattle.std.proofs.Common.{map, ap, ◌∙◌}
use Rattle.std.specs.Arc.{arc_value}
use Rattle.branch.specs.Layers.{found_in, layered}
use Rattle.branch.proofs.LayerLemmas.{scan-layered, sorted-layered, sorted-matching}
use Rattle.branch.proofs.layers.scan.Goals as goal

pub returns-clause-value : goal.returns-clause-value
returns-clause-value c =
    let pattern = c.args.pattern.now in
    let layers = map arc_value c.args.layers.now in
    c.in_ok-found-2.ensures
    ∙ ap (λ found. found_in pattern found layers) c.in_ok-found.ensures.value
    ∙ scan-layered pattern c.args.base.now.quads layers

pub returns-clause-ascending : goal.returns-clause-ascending
returns-clause-ascending c =
    let layers = map arc_value c.args.layers.now in
    sorted-matching c.args.pattern.now (layered c.args.base.now.quads layers) c.in_ok-found-2.found (sorted-layered c.args.base.now.quads layers c.len-quads.ensures.ascending) (returns-clause-value c)
