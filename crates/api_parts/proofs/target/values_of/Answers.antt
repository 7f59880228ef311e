use Rattle.std.proofs.Common.{◌∙◌, ◌∷◌, [], ◌++◌, ap}
use Rattle.std.specs.List.{filter_map}
use Rattle.api_parts.specs.Parameters.{value_of}
use Rattle.api_parts.proofs.SelectionLemmas.{values_more}
use Rattle.api_parts.proofs.target.values_of.Goals as goal

pub loop-pair-preserved : goal.loop-pair-preserved
loop-pair-preserved c =
    let pair = c.pair-item.result in
    c.in_ok-push_value.ensures
    ∙ ap (λ values. values ++ filter_map (value_of c.args.name.now) (pair ∷ [])) c.loop-pair.invariant
    ∙ values_more c.args.name.now c.args.parameters.now c.loop-pair.pair-index pair c.loop-pair-test.true c.pair-item.is
