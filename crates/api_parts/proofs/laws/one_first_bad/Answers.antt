use Rattle.api_parts.proofs.SelectionLemmas.{one_first_bad, bad_or_selection}
use Rattle.api_parts.proofs.laws.one_first_bad.Goals as goal

pub returns : goal.returns
returns c = record { one = one_first_bad; apart = bad_or_selection }
