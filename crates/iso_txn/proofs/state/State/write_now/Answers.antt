use Rattle.std.proofs.Common.{ap, sym, ◌∙◌, subst}
use Rattle.change_set.specs.Content.{SameChanges}
use Rattle.iso_txn.specs.Kept.{done_if}
use Rattle.iso_txn.proofs.StateLemmas.{applied_kept_same, fits_same}
use Rattle.iso_txn.proofs.state.State.write_now.Goals as goal

pub returns-then-branch-clause-reply : goal.returns-then-branch-clause-reply
returns-then-branch-clause-reply c =
    let same : SameChanges c.in_ok-set.set c.args.changes.now = subst (SameChanges c.in_ok-set.set) c.as_slice.ensures c.in_ok-set.ensures in
    ap done_if (sym c.if-branch.true ∙ (c.in_ok-apply.ensures.fits ∙ fits_same c.args.limits.now c.args.place c.args.self.now c.in_ok-set.set c.args.changes.now same))

pub returns-clause-reply : goal.returns-clause-reply
returns-clause-reply c =
    let same : SameChanges c.in_ok-set.set c.args.changes.now = subst (SameChanges c.in_ok-set.set) c.as_slice.ensures c.in_ok-set.ensures in
    ap done_if (sym c.if-branch.false ∙ (c.in_ok-apply.ensures.fits ∙ fits_same c.args.limits.now c.args.place c.args.self.now c.in_ok-set.set c.args.changes.now same))

pub returns-then-branch-clause-state : goal.returns-then-branch-clause-state
returns-then-branch-clause-state c =
    let same : SameChanges c.in_ok-set.set c.args.changes.now = subst (SameChanges c.in_ok-set.set) c.as_slice.ensures c.in_ok-set.ensures in
    c.in_ok-apply.ensures.state ∙ applied_kept_same c.args.limits.now c.args.place c.args.self.now c.in_ok-set.set c.args.changes.now same

pub returns-clause-state : goal.returns-clause-state
returns-clause-state c =
    let same : SameChanges c.in_ok-set.set c.args.changes.now = subst (SameChanges c.in_ok-set.set) c.as_slice.ensures c.in_ok-set.ensures in
    c.in_ok-apply.ensures.state ∙ applied_kept_same c.args.limits.now c.args.place c.args.self.now c.in_ok-set.set c.args.changes.now same
