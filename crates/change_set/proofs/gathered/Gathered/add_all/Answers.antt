use Rattle.std.proofs.Common.{List, ◌∷◌, ◌++◌, map, subst}
use Rattle.change_set.specs.declared.change.Change.{Change}
use Rattle.change_set.specs.Content.{SameChanges}
use Rattle.change_set.proofs.Effects.{SameChanges-refl}
use Rattle.change_set.proofs.Gathering.{older_step, none_left}
use Rattle.change_set.proofs.gathered.Gathered.add_all.Goals as goal

pub loop-change-init : goal.loop-change-init
loop-change-init c = SameChanges-refl _

pub loop-change-preserved : goal.loop-change-preserved
loop-change-preserved c =
    older_step c.loop-change.left.now c.in-Some.before.now c.loop-change.self c.add.new.self (c.args.changes.now ++ c.args.self.now) c.in-Some.change.now c.in-Some.ensures.cases.0 c.in_ok-add.ensures c.loop-change.invariant

pub returns : goal.returns
returns c =
    subst (λ (left : List Change). SameChanges (left ++ c.loop-change.self) (c.args.changes.now ++ c.args.self.now))
    (none_left c.loop-change.left.now c.in_default.ensures.cases) c.loop-change.invariant
