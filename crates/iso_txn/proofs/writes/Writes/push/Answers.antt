use Rattle.std.proofs.Common.{◌≡◌, List, [], ◌∷◌, ◌++◌, sym, subst, rules}
use Rattle.iso_txn.specs.Kept.{Pending}
use Rattle.iso_txn.specs.Stacks.{AreSeen}
use Rattle.iso_txn.proofs.writes.Writes.push.Goals as goal

pub invariant_of-self-2 : goal.invariant_of-self-2
invariant_of-self-2 c =
    let longer : c.push.new.self.items ≡ c.self.inside.writes.items ++ c.args.write ∷ [] = search rules in
    subst (λ (ws : List Pending). AreSeen ws c.follow.new.seen.items) (sym longer) (c.follow.ensures c.self.inside.writes.items c.self.invariant)
