use Rattle.journal.proofs.Growth.{each_entry_is_judged_once}
use Rattle.journal.proofs.laws.each_entry_is_judged_once.Goals as goal

pub returns : goal.returns
returns c = each_entry_is_judged_once
