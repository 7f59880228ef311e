use Rattle.std.proofs.Common.{◌∷◌, [], ◌++◌, refl, ap, ◌∙◌}
use Rattle.journal.specs.declared.op.Op.{Op}
use Rattle.journal.specs.declared.op.Op.TheVariants.{Read}
use Rattle.journal.specs.Journal.{entry_of}
use Rattle.repo_store.proofs.StoreLemmas.{stored_next}
use Rattle.repo_store.proofs.local.LocalRepo.pin.Goals as goal

pub invariant_of-self-2 : goal.invariant_of-self-2
invariant_of-self-2 c =
    let op : Op = Read c.args.txn c.args.ask.now in
    stored_next c.legal_in_turn.ensures 0 c.self.inside.limits c.self.inside.repo c.pin.new.self c.self.inside.entries.items c.push_reserved.new.self.items op
    c.self.invariant c.in_ok-entered.ensures.journal
    (c.push_reserved.ensures.items ∙ ap (λ it. c.make_room.new.entries.items ++ entry_of 0 (Read c.args.txn it) ∷ []) c.in_ok-copy.ensures
    ∙ ap (λ es. es ++ entry_of 0 op ∷ []) c.make_room.ensures.entries)
    (λ t query number e. cc) refl
