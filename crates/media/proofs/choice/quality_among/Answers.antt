use Rattle.std.proofs.Common.{rules, tests, ℕ, List, Bor, ◌==◌, ◌∙◌, sym, ap}
use Rattle.std.specs.List.{filter_map}
use Rattle.std.proofs.lemmas.Iterator.Consumers.{YieldsList-end}
use Rattle.std.proofs.lemmas.Iterator.Splits.{YieldsList-from_slice_split}
use Rattle.media.specs.Ranges.{range_of, ranges_of}
use Rattle.media.specs.Choice.{best_of, quality_among}
use Rattle.media.proofs.RangeLaws.{best_none, best_quality, ranges_push}
use Rattle.media.proofs.choice.quality_among.Goals as goal

pub loop-element-init : goal.loop-element-init
loop-element-init c = best_none c.args.form

pub loop-element-preserved : goal.loop-element-preserved
loop-element-preserved c =
    c.with-best.ensures _ c.loop-element.invariant
    ∙ ap (best_of c.args.form) (sym (ranges_push (λ (x : Bor (List ℕ)). x.now) c.loop-element.yielded c.in-Some.element))

pub returns : goal.returns
unfolding ranges_of
returns c =
    let all = YieldsList-end (YieldsList-from_slice_split _ (λ b. b == 44) c.args.accept.now (cc) (cc) (cc) (λ x b q k. search (rules, tests)))
    c.loop-element.yielded _ c.loop-element.yielded_by _ _ c.in-None.is c.next.ensures.steps in
    best_quality c.args.form _ c.loop-element.best c.loop-element.invariant
    ∙ ap (λ elements. quality_among c.args.form (filter_map range_of elements)) all.0
