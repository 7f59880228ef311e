use Rattle.std.proofs.Common.{List, [], ◌∷◌, ◌++◌, subst, sym}
use Rattle.change_set.specs.declared.change.Change.{Change}
use Rattle.change_set.specs.Content.{SameChanges}
use Rattle.change_set.proofs.Effects.{SameChanges-trans, SameChanges-append, SameChanges-refl}
use Rattle.change_set.proofs.set.ChangeSet.push.Goals as goal

pub returns-clause-ok : goal.returns-clause-ok
returns-clause-ok c =
    let old = c.args.self.now in
    let change = c.args.change.now in
    let first : SameChanges c.add.new.self (change ∷ []) =
    subst (λ (start : List Change). SameChanges c.add.new.self (change ∷ start)) c.new-gathered.ensures c.in_ok-add.ensures in
    subst (λ (new : List Change). SameChanges new (old ++ change ∷ [])) (sym c.longer.view_is)
    (SameChanges-trans c.in_ok-longer.longer c.add_older.new.gathered (old ++ change ∷ []) c.in_ok-longer.ensures
    (SameChanges-trans c.add_older.new.gathered (old ++ c.add.new.self) (old ++ change ∷ []) c.in_ok-add_older.ensures
    (SameChanges-append old old c.add.new.self (change ∷ []) (SameChanges-refl old) first)))
