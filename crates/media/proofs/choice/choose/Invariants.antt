use Rattle.std.proofs.Common.{◌≡◌, take}
use Rattle.media.specs.Choice.{quality}
use Rattle.media.proofs.GreatestLaws.{Gives, key_of}
use Rattle.media.proofs.choice.choose.Given as goal

abbrev pub invariant-loop-form : goal.invariant-loop-form
invariant-loop-form l = record {
  first : Gives (quality l.accept) (take l.form-index l.offers) l.best;
  greatest : l.greatest ≡ key_of (quality l.accept) l.best;
}
