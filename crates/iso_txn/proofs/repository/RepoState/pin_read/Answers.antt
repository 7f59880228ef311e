use Rattle.std.proofs.Common.{◌≡◌, ◌<◌, ◌∷◌, ◌++◌, [], length, ap, ◌∙◌}
use Rattle.journal.specs.declared.op.Op.TheVariants.{Read}
use Rattle.journal.specs.declared.entry.Entry.{Entry}
use Rattle.journal.specs.Journal.{entry_of, is_live_after, view_after}
use Rattle.journal.specs.Found.{patterns_of}
use Rattle.iso_txn.specs.Kept.{Standing, read_kept, seen}
use Rattle.iso_txn.specs.Watch.{watch_read}
use Rattle.iso_txn.specs.Repository.{Repository, pinned_of}
use Rattle.iso_txn.proofs.Calls.{read_stands}
use Rattle.iso_txn.proofs.Holding.{holds_noted, room_left}
use Rattle.iso_txn.proofs.Steps.{stands_watching}
use Rattle.iso_txn.proofs.WatchEmpty.{read_empty}
use Rattle.iso_txn.proofs.WatchCalls.{read_watch}
use Rattle.iso_txn.proofs.Views.{pinned_live, pinned_views}
use Rattle.iso_txn.proofs.repository.RepoState.pin_read.Goals as goal

pub invariant_of-self-2 : goal.invariant_of-self-2
invariant_of-self-2 c =
    let s = c.self.inside in
    let h = c.self.invariant in
    let e : Entry = entry_of c.args.seat (Read c.args.txn c.args.ask.now) in
    let room : length s.journal < s.limits.places = room_left s.limits s.journal c.args.self.now c.is_full.result c.self.view_is c.is_full.ensures c.if-is_full.false in
    let stands : Standing s.limits (s.journal ++ e ∷ []) s.state = read_stands s.limits s.journal s.state h.stands c.args.seat c.args.txn c.args.ask.now in
    holds_noted s.limits s.count s.journal s.state h e c.read-entry.result c.note.new.count c.note.new.journal c.read.new.self (read_kept s.state c.args.txn (patterns_of c.args.ask.now)) room
    c.read-entry.ensures c.note.ensures.count c.note.ensures.journal c.in_ok-read.ensures.state
    (stands_watching s.limits (s.journal ++ e ∷ []) s.state (watch_read c.args.txn (patterns_of c.args.ask.now) s.state.watch) stands)
    (read_watch s.limits s.journal s.state h.stands h.watches c.args.seat c.args.txn c.args.ask.now stands)
    (read_empty s.limits (length s.journal) s.state h.idle c.args.txn (patterns_of c.args.ask.now))

pub returns-clause-live : goal.returns-clause-live
returns-clause-live c =
    let s = c.self.inside in
    let is : c.in_ok-pinned.pinned ≡ pinned_of (seen s.state c.args.txn) s.limits.rows = c.in_ok-pinned.ensures ∙ ap (λ view. pinned_of view s.limits.rows) c.in_ok-view.ensures in
    pinned_live s.limits s.journal s.state c.self.invariant.stands c.args.txn s.limits.rows c.in_ok-pinned.pinned is
    ∙ ap (λ (r : Repository). is_live_after r.limits r.journal c.args.txn) c.self.view_is

pub returns-clause-views : goal.returns-clause-views
returns-clause-views c =
    let s = c.self.inside in
    let is : c.in_ok-pinned.pinned ≡ pinned_of (seen s.state c.args.txn) s.limits.rows = c.in_ok-pinned.ensures ∙ ap (λ view. pinned_of view s.limits.rows) c.in_ok-view.ensures in
    λ live. pinned_views s.limits s.journal s.state c.self.invariant.stands c.args.txn s.limits.rows c.in_ok-pinned.pinned is live
    ∙ ap (λ (r : Repository). view_after r.limits r.journal c.args.txn ∷ []) c.self.view_is
