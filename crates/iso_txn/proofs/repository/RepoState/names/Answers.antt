use Rattle.std.proofs.Common.{◌<◌, length}
use Rattle.journal.specs.declared.op.Op.TheVariants.{Names}
use Rattle.journal.specs.declared.entry.Entry.{Entry}
use Rattle.journal.specs.Replies.{names_reply}
use Rattle.journal.specs.Journal.{entry_of}
use Rattle.iso_txn.specs.Kept.{names_kept}
use Rattle.iso_txn.proofs.Calls.{names_answer, names_stands}
use Rattle.iso_txn.proofs.Holding.{answered_entry, holds_noted, room_left}
use Rattle.iso_txn.proofs.WatchEmpty.{names_empty}
use Rattle.iso_txn.proofs.WatchCalls.{names_watch}
use Rattle.iso_txn.proofs.repository.RepoState.names.Goals as goal

pub invariant_of-self-2 : goal.invariant_of-self-2
invariant_of-self-2 c =
    let s = c.self.inside in
    let h = c.self.invariant in
    let e : Entry = entry_of c.args.seat (Names c.args.names.now) in
    let room : length s.journal < s.limits.places = room_left s.limits s.journal c.args.self.now c.is_full.result c.self.view_is c.is_full.ensures c.if-is_full.false in
    holds_noted s.limits s.count s.journal s.state h e c.names-entry.result c.note.new.count c.note.new.journal c.names.new.self (names_kept s.limits s.state c.args.names.now) room
    c.names-entry.ensures c.note.ensures.count c.note.ensures.journal c.in_ok-reply.ensures.state
    (names_stands s.limits s.journal s.state h.stands c.args.seat c.args.names.now)
    (names_watch s.limits s.journal s.state h.stands h.watches c.args.seat c.args.names.now (names_stands s.limits s.journal s.state h.stands c.args.seat c.args.names.now))
    (names_empty s.limits (length s.journal) s.state h.idle c.args.names.now)

pub returns-clause-reply : goal.returns-clause-reply
returns-clause-reply c =
    let s = c.self.inside in
    let h = c.self.invariant in
    let e : Entry = entry_of c.args.seat (Names c.args.names.now) in
    answered_entry s.limits s.journal e c.args.self.now c.in_ok-reply.reply (names_reply s.limits s.state.prefixes c.args.names.now) c.self.view_is
    (names_answer s.limits s.journal s.state h.stands c.args.seat c.args.names.now) c.in_ok-reply.ensures.reply
