use Rattle.std.proofs.Common.{List, ◌++◌, map, subst, ap, ◌∙◌, append-nil}
use Rattle.change_set.specs.declared.change.Change.{Change}
use Rattle.change_set.specs.declared.change.Change.TheVariants.{Add, Remove}
use Rattle.change_set.specs.Content.{SameChanges}
use Rattle.change_set.proofs.Effects.{SameChanges-trans, SameChanges-append, SameChanges-refl}
use Rattle.change_set.proofs.set.ChangeSet.swapping.Goals as goal

pub returns : goal.returns
returns c =
    let added = map Add c.args.added.now in
    let removed = map Remove c.args.removed.now in
    let first : SameChanges c.add_each.new.self added =
    subst (λ (all : List Change). SameChanges c.add_each.new.self all) (ap (λ start. added ++ start) c.new-gathered.ensures ∙ append-nil added) c.in_ok-add_each.ensures in
    SameChanges-trans c.in_ok-set.set c.add_each-2.new.self (removed ++ added) c.in_ok-set.ensures
    (SameChanges-trans c.add_each-2.new.self (removed ++ c.add_each.new.self) (removed ++ added) c.in_ok-add_each-2.ensures
    (SameChanges-append removed removed c.add_each.new.self added (SameChanges-refl removed) first))
