use Rattle.std.proofs.Common.{◌∙◌, sym, ap, arith}
use Rattle.media.specs.declared.form.Form.TheVariants.{NQuads}
use Rattle.media.specs.Choice.{quality, chosen}
use Rattle.media.proofs.GreatestLaws.{key_of, computes, next_greater, next_other, none_exactly, whole}
use Rattle.media.proofs.choice.choose.Goals as goal
use Rattle.media.proofs.choice.choose.Goals.{then-quality-greatest, else-quality-greatest}

pub loop-form-preserved : goal.loop-form-preserved
loop-form-preserved c =
    let key = quality c.args.accept.now in
    let so_far = c.loop-form.invariant in
    elim c.if-quality-greatest.branch [
      | then-quality-greatest w ↦ record {
        first = next_greater key c.args.offers.now c.loop-form.form-index NQuads c.loop-form.best c.if-quality-greatest.best c.loop-form-test.true so_far.first
            (omega (arith, so_far.greatest, c.quality-quality.ensures)) w.best-is;
        greatest = w.greatest-is ∙ c.quality-quality.ensures ∙ sym (ap (key_of key) w.best-is);
      }
      | else-quality-greatest w ↦ record {
        first = next_other key c.args.offers.now c.loop-form.form-index NQuads c.loop-form.best c.if-quality-greatest.best c.loop-form-test.true so_far.first
            (omega (arith, so_far.greatest, c.quality-quality.ensures)) w.best-is;
        greatest = w.greatest-is ∙ so_far.greatest ∙ ap (key_of key) (sym w.best-is);
      }
    ]

pub returns-clause-value : goal.returns-clause-value
unfolding chosen
returns-clause-value c =
    let key = quality c.args.accept.now in
    sym (computes key c.args.offers.now c.loop-form.best (whole key c.args.offers.now c.loop-form.form-index c.loop-form.best c.loop-form-test.false c.loop-form.invariant.first))

pub returns-clause-none : goal.returns-clause-none
returns-clause-none c =
    let key = quality c.args.accept.now in
    none_exactly key c.args.offers.now c.loop-form.best (whole key c.args.offers.now c.loop-form.form-index c.loop-form.best c.loop-form-test.false c.loop-form.invariant.first)
