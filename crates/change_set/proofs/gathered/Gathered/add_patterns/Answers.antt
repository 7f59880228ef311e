use Rattle.std.proofs.Common.{List, ◌∷◌, ◌++◌, map, subst}
use Rattle.change_set.specs.declared.change.Change.TheVariants.{RemoveMatching}
use Rattle.rdf_term.specs.declared.pattern.Pattern.{Pattern}
use Rattle.change_set.specs.Content.{SameChanges}
use Rattle.change_set.proofs.Effects.{SameChanges-refl}
use Rattle.change_set.proofs.Gathering.{mapped_step, none_left}
use Rattle.change_set.proofs.gathered.Gathered.add_patterns.Goals as goal

pub loop-pattern-init : goal.loop-pattern-init
loop-pattern-init c = SameChanges-refl _

pub loop-pattern-preserved : goal.loop-pattern-preserved
loop-pattern-preserved c =
    mapped_step RemoveMatching c.loop-pattern.left.now c.in-Some.before.now c.in-Some.pattern.now c.loop-pattern.self c.add_pattern.new.self (map RemoveMatching c.args.patterns.now ++ c.args.self.now) c.in-Some.ensures.cases.0 c.in_ok-add_pattern.ensures c.loop-pattern.invariant

pub returns : goal.returns
returns c =
    subst (λ (left : List (Pattern)). SameChanges (map RemoveMatching left ++ c.loop-pattern.self) (map RemoveMatching c.args.patterns.now ++ c.args.self.now))
    (none_left c.loop-pattern.left.now c.in_default.ensures.cases) c.loop-pattern.invariant
