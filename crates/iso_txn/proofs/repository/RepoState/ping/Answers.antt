use Rattle.std.proofs.Common.{◌<◌, length, refl}
use Rattle.journal.specs.declared.op.Op.TheVariants.{Ping}
use Rattle.journal.specs.declared.entry.Entry.{Entry}
use Rattle.journal.specs.Journal.{entry_of}
use Rattle.iso_txn.specs.Kept.{end_answer}
use Rattle.iso_txn.proofs.Calls.{ping_reply, ping_stands}
use Rattle.iso_txn.proofs.Holding.{answered_entry, holds_noted, room_left}
use Rattle.iso_txn.proofs.WatchCalls.{ping_watch}
use Rattle.iso_txn.proofs.repository.RepoState.ping.Goals as goal

pub invariant_of-self : goal.invariant_of-self
invariant_of-self c =
    let s = c.self.inside in
    let h = c.self.invariant in
    let e : Entry = entry_of c.args.seat (Ping c.args.txn) in
    let room : length s.journal < s.limits.places = room_left s.limits s.journal c.args.self.now c.is_full.result c.self.view_is c.is_full.ensures c.if-is_full.false in
    holds_noted s.limits s.count s.journal s.state h e c.ping-entry.result c.note.new.count c.note.new.journal s.state s.state room
    c.ping-entry.ensures c.note.ensures.count c.note.ensures.journal refl
    (ping_stands s.limits s.journal s.state h.stands c.args.seat c.args.txn)
    (ping_watch s.limits s.journal s.state h.stands h.watches c.args.seat c.args.txn (ping_stands s.limits s.journal s.state h.stands c.args.seat c.args.txn))
    h.idle

pub returns-clause-reply : goal.returns-clause-reply
returns-clause-reply c =
    let s = c.self.inside in
    let h = c.self.invariant in
    let e : Entry = entry_of c.args.seat (Ping c.args.txn) in
    answered_entry s.limits s.journal e c.args.self.now c.ping-reply.result (end_answer s.state c.args.txn) c.self.view_is
    (ping_reply s.limits s.journal s.state h.stands c.args.seat c.args.txn) c.ping-reply.ensures
