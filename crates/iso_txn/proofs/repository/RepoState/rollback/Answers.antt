use Rattle.std.proofs.Common.{◌<◌, length, ap, ◌∙◌}
use Rattle.journal.specs.declared.op.Op.TheVariants.{Rollback}
use Rattle.journal.specs.declared.entry.Entry.{Entry}
use Rattle.journal.specs.Journal.{entry_of}
use Rattle.iso_txn.specs.Kept.{end_answer, rollback_kept}
use Rattle.iso_txn.proofs.Calls.{rollback_reply, rollback_stands}
use Rattle.iso_txn.proofs.Holding.{answered_entry, changed_below, holds_noted, place_small, room_left}
use Rattle.iso_txn.proofs.WatchEmpty.{rollback_empty}
use Rattle.iso_txn.proofs.WatchCalls.{rollback_watch}
use Rattle.iso_txn.proofs.repository.RepoState.rollback.Goals as goal

pub invariant_of-self : goal.invariant_of-self
invariant_of-self c =
    let s = c.self.inside in
    let h = c.self.invariant in
    let e : Entry = entry_of c.args.seat (Rollback c.args.txn) in
    let room : length s.journal < s.limits.places = room_left s.limits s.journal c.args.self.now c.is_full.result c.self.view_is c.is_full.ensures c.if-is_full.false in
    holds_noted s.limits s.count s.journal s.state h e c.rollback-entry.result c.note.new.count c.note.new.journal c.rollback-reply.new.self (rollback_kept (length s.journal) s.state c.args.txn) room
    c.rollback-entry.ensures c.note.ensures.count c.note.ensures.journal (c.rollback-reply.ensures.state ∙ ap (λ n. rollback_kept n s.state c.args.txn) h.count_is)
    (rollback_stands s.limits s.journal s.state h.stands c.args.seat c.args.txn) (rollback_watch s.limits s.journal s.state h.stands h.watches c.args.seat c.args.txn)
    (rollback_empty s.limits (length s.journal) s.state h.idle (changed_below s.limits s.count s.journal s.state h) c.args.txn)

pub returns-clause-reply : goal.returns-clause-reply
returns-clause-reply c =
    let s = c.self.inside in
    let h = c.self.invariant in
    let e : Entry = entry_of c.args.seat (Rollback c.args.txn) in
    answered_entry s.limits s.journal e c.args.self.now c.rollback-reply.result (end_answer s.state c.args.txn) c.self.view_is
    (rollback_reply s.limits s.journal s.state h.stands c.args.seat c.args.txn) c.rollback-reply.ensures.reply

pub rollback-reply-requires : goal.rollback-reply-requires
rollback-reply-requires c =
    let s = c.self.inside in
    place_small s.limits s.count s.journal s.state c.self.invariant (room_left s.limits s.journal c.args.self.now c.is_full.result c.self.view_is c.is_full.ensures c.if-is_full.false)
