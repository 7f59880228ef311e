use Rattle.std.proofs.Common.{◌<◌, ◌&&◌, ◌∷◌, [], ◌++◌, Some, length, refl, sym, ap, ◌∙◌}
use Rattle.journal.specs.declared.op.Op.TheVariants.{Step}
use Rattle.journal.specs.declared.entry.Entry.{Entry}
use Rattle.journal.specs.Journal.{entry_of, is_live_after, view_after}
use Rattle.iso_txn.specs.Repository.{PinnedRead, Repository}
use Rattle.iso_txn.proofs.Calls.{step_stands}
use Rattle.iso_txn.proofs.Holding.{holds_noted, room_left}
use Rattle.iso_txn.proofs.WatchCalls.{step_watch}
use Rattle.iso_txn.proofs.Views.{live_is, seen_open}
use Rattle.iso_txn.proofs.repository.RepoState.step.Goals as goal

pub invariant_of-self : goal.invariant_of-self
invariant_of-self c =
    let s = c.self.inside in
    let h = c.self.invariant in
    let e : Entry = entry_of c.args.seat (Step c.args.txn c.args.query.now c.args.number) in
    let room : length s.journal < s.limits.places = room_left s.limits s.journal c.args.self.now c.is_full.result c.self.view_is c.is_full.ensures c.if-is_full.false in
    holds_noted s.limits s.count s.journal s.state h e c.step-entry.result c.note.new.count c.note.new.journal s.state s.state room
    c.step-entry.ensures c.note.ensures.count c.note.ensures.journal refl
    (step_stands s.limits s.journal s.state h.stands c.args.seat c.args.txn c.args.query.now c.args.number)
    (step_watch s.limits s.journal s.state h.stands h.watches c.args.seat c.args.txn c.args.query.now c.args.number (step_stands s.limits s.journal s.state h.stands c.args.seat c.args.txn c.args.query.now c.args.number))
    h.idle

pub returns-clause-live : goal.returns-clause-live
returns-clause-live c =
    let s = c.self.inside in
    ap (λ (it : PinnedRead). it.live) c.in_ok-add.ensures.ok
    ∙ ap (λ b. c.args.pinned.now.live && b)
    (c.is_live.ensures
    ∙ (sym (live_is s.limits s.journal s.state c.self.invariant.stands (Some c.args.txn))
    ∙ ap (λ (r : Repository). is_live_after r.limits r.journal (Some c.args.txn)) c.self.view_is))

pub returns-clause-views : goal.returns-clause-views
returns-clause-views c =
    let s = c.self.inside in
    λ live. ap (λ (it : PinnedRead). it.views) c.in_ok-add.ensures.ok
    ∙ ap (λ view. c.args.pinned.now.views ++ view ∷ [])
    (c.in_ok-view.ensures
    ∙ (seen_open s.limits s.journal s.state c.self.invariant.stands c.args.txn s.state.content (ap (λ (r : Repository). is_live_after r.limits r.journal (Some c.args.txn)) c.self.view_is ∙ live)
    ∙ ap (λ (r : Repository). view_after r.limits r.journal (Some c.args.txn)) c.self.view_is))
