use Rattle.std.proofs.Common.{List, ◌∷◌, ◌++◌, map, subst}
use Rattle.rdf_term.specs.Statement.{Statement}
use Rattle.change_set.specs.Kept.{marked_entry}
use Rattle.change_set.specs.declared.effect.Mark.{Mark}
use Rattle.change_set.specs.Content.{SameChanges}
use Rattle.change_set.proofs.Effects.{SameChanges-refl}
use Rattle.change_set.proofs.Gathering.{mapped_step, none_left}
use Rattle.change_set.proofs.gathered.Gathered.add_entries.Goals as goal

pub loop-entry-init : goal.loop-entry-init
loop-entry-init c = SameChanges-refl _

pub loop-entry-preserved : goal.loop-entry-preserved
loop-entry-preserved c =
    mapped_step marked_entry c.loop-entry.left.now c.in-Some.before.now c.in-Some.entry.now c.loop-entry.self c.add_marked.new.self (map marked_entry c.args.named.now ++ c.args.self.now) c.in-Some.ensures.cases.0 (subst (λ (e : Statement × Mark). SameChanges c.add_marked.new.self (marked_entry e ∷ c.loop-entry.self)) c.in_ok-share.ensures c.in_ok-add_marked.ensures) c.loop-entry.invariant

pub returns : goal.returns
returns c =
    subst (λ (left : List (Statement × Mark)). SameChanges (map marked_entry left ++ c.loop-entry.self) (map marked_entry c.args.named.now ++ c.args.self.now))
    (none_left c.loop-entry.left.now c.in_default.ensures.cases) c.loop-entry.invariant
