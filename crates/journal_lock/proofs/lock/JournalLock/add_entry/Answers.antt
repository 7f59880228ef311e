use Rattle.std.proofs.Common.{rules, sym, ◌∙◌}
use Rattle.journal_lock.proofs.Keeps.{adds_entry_as}
use Rattle.journal_lock.proofs.lock.JournalLock.add_entry.Goals as goal

pub fetch_add-requires : goal.fetch_add-requires
fetch_add-requires g c =
    let p = c.requires.pass in
    (p.0, search rules, adds_entry_as _ _ _ _ _ _ _ _ _ _ c.args.entry.now c.args.self.now.sized.1 p.2 c.requires.turn p.3 c.requires.room (c.requires.entry.0 ∙ sym p.1) c.requires.entry.1)
