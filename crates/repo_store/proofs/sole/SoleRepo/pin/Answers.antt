use Rattle.std.proofs.Common.{refl}
use Rattle.journal.specs.declared.op.Op.TheVariants.{Read}
use Rattle.journal.specs.declared.entry.Entry.{Entry}
use Rattle.journal.specs.Journal.{entry_of}
use Rattle.repo_store.proofs.PinnedLemmas.{pinned_at, pinned_is_answered, read_is_pinned}
use Rattle.repo_store.proofs.sole.SoleRepo.pin.Goals as goal

pub returns-clause-pinned : goal.returns-clause-pinned
returns-clause-pinned c =
    let s = c.self.inside.state in
    let is = c.in_ok-pinned.ensures in
    pinned_at s c.pin_read.new.self (entry_of 0 (Read c.args.txn c.args.ask.now)) c.length-place.result c.in_ok-pinned.pinned is.journal c.length-place.ensures.length
    (read_is_pinned s.limits s.journal 0 c.args.txn c.args.ask.now c.in_ok-pinned.pinned is.live is.views is.rows)

pub returns-clause-answer : goal.returns-clause-answer
returns-clause-answer c =
    let s = c.self.inside.state in
    let is = c.in_ok-pinned.ensures in
    let e : Entry = entry_of 0 (Read c.args.txn c.args.ask.now) in
    pinned_is_answered c.pin_read.new.self c.length-place.result e c.in_ok-pinned.pinned c.args.ask.now
    (pinned_at s c.pin_read.new.self e c.length-place.result c.in_ok-pinned.pinned is.journal c.length-place.ensures.length
    (read_is_pinned s.limits s.journal 0 c.args.txn c.args.ask.now c.in_ok-pinned.pinned is.live is.views is.rows))
    refl
