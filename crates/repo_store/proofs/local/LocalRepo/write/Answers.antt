use Rattle.std.proofs.Common.{◌∷◌, [], ◌++◌, refl, ap, ◌∙◌}
use Rattle.journal.specs.declared.op.Op.{Op}
use Rattle.journal.specs.declared.op.Op.TheVariants.{Write}
use Rattle.journal.specs.Journal.{entry_of}
use Rattle.repo_store.proofs.StoreLemmas.{stored_next}
use Rattle.repo_store.proofs.local.LocalRepo.write.Goals as goal

pub invariant_of-self-2 : goal.invariant_of-self-2
invariant_of-self-2 c =
    let op : Op = Write c.args.txn c.args.changes.now in
    stored_next c.legal_in_turn.ensures 0 c.self.inside.limits c.self.inside.repo c.write.new.self c.self.inside.entries.items c.push_reserved.new.self.items op
    c.self.invariant c.in_ok-entered.ensures.entered.added
    (c.push_reserved.ensures.items ∙ ap (λ it. c.make_room.new.entries.items ++ entry_of 0 (Write c.args.txn it) ∷ []) c.in_ok-copy.ensures
    ∙ ap (λ es. es ++ entry_of 0 op ∷ []) c.make_room.ensures.entries)
    (λ t query number e. cc) refl
