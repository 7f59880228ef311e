use Rattle.std.proofs.Common.{List, ◌∷◌, ◌++◌, map, subst}
use Rattle.rdf_term.specs.Statement.{Statement}
use Rattle.change_set.specs.Kept.{marked}
use Rattle.change_set.specs.Content.{SameChanges}
use Rattle.change_set.proofs.Effects.{SameChanges-refl}
use Rattle.change_set.proofs.Gathering.{mapped_step, none_left}
use Rattle.change_set.proofs.gathered.Gathered.add_each.Goals as goal

pub loop-quad-init : goal.loop-quad-init
loop-quad-init c = SameChanges-refl _

pub loop-quad-preserved : goal.loop-quad-preserved
loop-quad-preserved c =
    mapped_step (λ (q : Statement). marked q c.args.mark) c.loop-quad.left.now c.in-Some.before.now c.in-Some.quad.now c.loop-quad.self c.add_named.new.self (map (λ (q : Statement). marked q c.args.mark) c.args.quads.now ++ c.args.self.now) c.in-Some.ensures.cases.0 c.in_ok-add_named.ensures c.loop-quad.invariant

pub returns : goal.returns
returns c =
    subst (λ (left : List (Statement)). SameChanges (map (λ (q : Statement). marked q c.args.mark) left ++ c.loop-quad.self) (map (λ (q : Statement). marked q c.args.mark) c.args.quads.now ++ c.args.self.now))
    (none_left c.loop-quad.left.now c.in_default.ensures.cases) c.loop-quad.invariant
