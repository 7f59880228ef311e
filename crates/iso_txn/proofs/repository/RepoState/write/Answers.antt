use Rattle.std.proofs.Common.{◌<◌, length, ap, ◌∙◌}
use Rattle.journal.specs.declared.op.Op.TheVariants.{Write}
use Rattle.journal.specs.declared.entry.Entry.{Entry}
use Rattle.journal.specs.Journal.{entry_of}
use Rattle.iso_txn.specs.Kept.{write_answer, write_kept}
use Rattle.iso_txn.proofs.Calls.{write_reply, write_stands}
use Rattle.iso_txn.proofs.Holding.{answered_entry, holds_noted, ready_now, room_left}
use Rattle.iso_txn.proofs.WatchEmpty.{write_empty}
use Rattle.iso_txn.proofs.WatchCalls.{write_watch}
use Rattle.iso_txn.proofs.repository.RepoState.write.Goals as goal

pub invariant_of-self-2 : goal.invariant_of-self-2
invariant_of-self-2 c =
    let s = c.self.inside in
    let h = c.self.invariant in
    let e : Entry = entry_of c.args.seat (Write c.args.txn c.args.changes.now) in
    let room : length s.journal < s.limits.places = room_left s.limits s.journal c.args.self.now c.is_full.result c.self.view_is c.is_full.ensures c.if-is_full.false in
    holds_noted s.limits s.count s.journal s.state h e c.write-entry.result c.note.new.count c.note.new.journal c.write.new.self (write_kept s.limits (length s.journal) s.state c.args.txn c.args.changes.now) room
    c.write-entry.ensures c.note.ensures.count c.note.ensures.journal (c.in_ok-reply.ensures.state ∙ ap (λ n. write_kept s.limits n s.state c.args.txn c.args.changes.now) h.count_is)
    (write_stands s.limits s.journal s.state h.stands c.args.seat c.args.txn c.args.changes.now) (write_watch s.limits s.journal s.state h.stands h.watches c.args.seat c.args.txn c.args.changes.now)
    (write_empty s.limits (length s.journal) s.state h.idle c.args.txn c.args.changes.now)

pub returns-clause-reply : goal.returns-clause-reply
returns-clause-reply c =
    let s = c.self.inside in
    let h = c.self.invariant in
    let e : Entry = entry_of c.args.seat (Write c.args.txn c.args.changes.now) in
    answered_entry s.limits s.journal e c.args.self.now c.in_ok-reply.reply (write_answer s.limits s.state c.args.txn c.args.changes.now) c.self.view_is
    (write_reply s.limits s.journal s.state h.stands c.args.seat c.args.txn c.args.changes.now) c.in_ok-reply.ensures.reply

pub write-requires-clause-below : goal.write-requires-clause-below
write-requires-clause-below c =
    let s = c.self.inside in
    (ready_now s.limits s.count s.journal s.state c.self.invariant).below
