use Rattle.std.proofs.Common.{ℕ, ◌<◌, length, ap, ◌∙◌}
use Rattle.journal.specs.declared.txn.Txn.{Txn}
use Rattle.journal.specs.declared.op.Op.TheVariants.{Begin}
use Rattle.journal.specs.declared.entry.Entry.{Entry}
use Rattle.journal.specs.Journal.{entry_of}
use Rattle.iso_txn.specs.Kept.{begin_answer, begin_kept}
use Rattle.iso_txn.proofs.Calls.{begin_reply, begin_stands}
use Rattle.iso_txn.proofs.Holding.{answered_entry, holds_noted, room_left}
use Rattle.iso_txn.proofs.WatchEmpty.{begin_empty}
use Rattle.iso_txn.proofs.WatchCalls.{begin_watch}
use Rattle.iso_txn.proofs.repository.RepoState.begin.Goals as goal

pub invariant_of-self-2 : goal.invariant_of-self-2
invariant_of-self-2 c =
    let s = c.self.inside in
    let h = c.self.invariant in
    let e : Entry = entry_of c.args.seat (Begin c.args.level) in
    let begun : ℕ → Txn = λ place. record { place = place; level = c.args.level } in
    let room : length s.journal < s.limits.places = room_left s.limits s.journal c.args.self.now c.is_full.result c.self.view_is c.is_full.ensures c.if-is_full.false in
    holds_noted s.limits s.count s.journal s.state h e c.begin-entry.result c.note.new.count c.note.new.journal c.begin.new.self (begin_kept s.limits s.state (begun (length s.journal))) room
    c.begin-entry.ensures c.note.ensures.count c.note.ensures.journal (c.in_ok-reply.ensures.state ∙ ap (λ n. begin_kept s.limits s.state (begun n)) h.count_is)
    (begin_stands s.limits s.journal s.state h.stands c.args.seat c.args.level) (begin_watch s.limits s.journal s.state h.stands h.watches c.args.seat c.args.level)
    (begin_empty s.limits (length s.journal) s.state h.idle (begun (length s.journal)))

pub returns-clause-reply : goal.returns-clause-reply
returns-clause-reply c =
    let s = c.self.inside in
    let h = c.self.invariant in
    let e : Entry = entry_of c.args.seat (Begin c.args.level) in
    let begun : ℕ → Txn = λ place. record { place = place; level = c.args.level } in
    answered_entry s.limits s.journal e c.args.self.now c.in_ok-reply.reply (begin_answer s.limits s.state (begun (length s.journal))) c.self.view_is
    (begin_reply s.limits s.journal s.state h.stands c.args.seat c.args.level) (c.in_ok-reply.ensures.reply ∙ ap (λ n. begin_answer s.limits s.state (begun n)) h.count_is)
