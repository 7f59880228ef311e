use Rattle.std.proofs.Common.{◌∷◌, [], ◌++◌, ap, sym, subst, ◌∙◌}
use Rattle.journal.specs.declared.level.Level.TheVariants.{ReadCommitted}
use Rattle.journal.specs.declared.op.Op.{Op}
use Rattle.journal.specs.declared.op.Op.TheVariants.{Step}
use Rattle.journal.specs.Journal.{entry_of}
use Rattle.journal.specs.Levels.{is_level}
use Rattle.iso_txn.specs.Repository.{Repository}
use Rattle.repo_store.specs.Stores.{IsNextStep}
use Rattle.repo_store.proofs.StoreLemmas.{step_legal, stored_next}
use Rattle.repo_store.proofs.local.LocalRepo.step.Goals as goal

pub invariant_of-self-2 : goal.invariant_of-self-2
invariant_of-self-2 c =
    let s = c.self.inside.repo in
    let op : Op = Step c.args.txn c.args.query.now c.args.number in
    let next : IsNextStep s 0 c.args.txn c.args.query.now c.args.number c.args.pinned.now =
    subst (λ (repo : Repository). IsNextStep repo 0 c.args.txn c.args.query.now c.args.number c.args.pinned.now) (sym c.self.view_is) c.requires in
    stored_next c.legal_in_turn.ensures 0 c.self.inside.limits s c.step.new.self c.self.inside.entries.items c.push_reserved.new.self.items op
    c.self.invariant c.in_ok-place.ensures.journal
    (c.push_reserved.ensures.items ∙ ap (λ it. c.make_room.new.entries.items ++ entry_of 0 (Step c.args.txn it c.args.number) ∷ []) c.in_ok-copy.ensures
    ∙ ap (λ es. es ++ entry_of 0 op ∷ []) c.make_room.ensures.entries)
    (step_legal s.journal 0 c.args.txn c.args.query.now c.args.number next.turn) (ap (λ l. is_level l ReadCommitted) c.requires.level)
