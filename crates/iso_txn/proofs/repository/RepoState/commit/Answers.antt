use Rattle.std.proofs.Common.{◌≡◌, ◌<◌, length, sym, ap, ◌∙◌}
use Rattle.journal.specs.declared.op.Op.TheVariants.{Commit}
use Rattle.journal.specs.declared.entry.Entry.{Entry}
use Rattle.journal.specs.declared.reply.Reply.TheVariants as reply
use Rattle.journal.specs.Journal.{entry_of, reply_next}
use Rattle.iso_txn.specs.Kept.{commit_answer, commit_kept}
use Rattle.journal.proofs.AloneReads.{done_commit_reads_as_if_alone}
use Rattle.iso_txn.proofs.Calls.{commit_reply, commit_stands}
use Rattle.iso_txn.proofs.Holding.{alone_noted, answered_entry, changed_below, commits_small, holds_noted, place_small, ready_now, room_left}
use Rattle.iso_txn.proofs.WatchEmpty.{commit_empty}
use Rattle.iso_txn.proofs.WatchCalls.{commit_watch}
use Rattle.iso_txn.proofs.repository.RepoState.commit.Goals as goal

pub invariant_of-self-2 : goal.invariant_of-self-2
invariant_of-self-2 c =
    let s = c.self.inside in
    let h = c.self.invariant in
    let e : Entry = entry_of c.args.seat (Commit c.args.txn) in
    let room : length s.journal < s.limits.places = room_left s.limits s.journal c.args.self.now c.is_full.result c.self.view_is c.is_full.ensures c.if-is_full.false in
    holds_noted s.limits s.count s.journal s.state h e c.commit-entry.result c.note.new.count c.note.new.journal c.commit.new.self (commit_kept s.limits (length s.journal) s.state c.args.txn) room
    c.commit-entry.ensures c.note.ensures.count c.note.ensures.journal (c.in_ok-reply.ensures.state ∙ ap (λ n. commit_kept s.limits n s.state c.args.txn) h.count_is)
    (commit_stands s.limits s.journal s.state h.stands h.watches c.args.seat c.args.txn) (commit_watch s.limits s.journal s.state h.stands h.watches c.args.seat c.args.txn)
    (commit_empty s.limits (length s.journal) s.state h.idle (changed_below s.limits s.count s.journal s.state h) c.args.txn)

pub returns-clause-reply : goal.returns-clause-reply
returns-clause-reply c =
    let s = c.self.inside in
    let h = c.self.invariant in
    let e : Entry = entry_of c.args.seat (Commit c.args.txn) in
    answered_entry s.limits s.journal e c.args.self.now c.in_ok-reply.reply (commit_answer s.limits s.state c.args.txn) c.self.view_is
    (commit_reply s.limits s.journal s.state h.stands h.watches c.args.seat c.args.txn) c.in_ok-reply.ensures.reply

pub commit-requires-clause-commits : goal.commit-requires-clause-commits
commit-requires-clause-commits c =
    let s = c.self.inside in
    commits_small s.limits s.count s.journal s.state c.self.invariant (room_left s.limits s.journal c.args.self.now c.is_full.result c.self.view_is c.is_full.ensures c.if-is_full.false)

pub commit-requires-clause-place : goal.commit-requires-clause-place
commit-requires-clause-place c =
    let s = c.self.inside in
    place_small s.limits s.count s.journal s.state c.self.invariant (room_left s.limits s.journal c.args.self.now c.is_full.result c.self.view_is c.is_full.ensures c.if-is_full.false)

pub commit-requires-clause-ready : goal.commit-requires-clause-ready
commit-requires-clause-ready c =
    let s = c.self.inside in
    ready_now s.limits s.count s.journal s.state c.self.invariant

pub returns-clause-alone : goal.returns-clause-alone
returns-clause-alone c =
    let s = c.self.inside in
    let h = c.self.invariant in
    let e : Entry = entry_of c.args.seat (Commit c.args.txn) in
    λ is level.
    let replied : reply_next s.limits s.journal e ≡ reply.Done =
    commit_reply s.limits s.journal s.state h.stands h.watches c.args.seat c.args.txn ∙ (sym c.in_ok-reply.ensures.reply ∙ is) in
    alone_noted s.limits s.journal c.note.new.journal e c.commit-entry.result c.args.txn c.args.self.now c.self.view_is c.commit-entry.ensures c.note.ensures.journal
    (done_commit_reads_as_if_alone s.limits s.journal c.args.seat c.args.txn level replied)
