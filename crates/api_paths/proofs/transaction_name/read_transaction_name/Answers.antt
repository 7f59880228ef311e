use Rattle.api_paths.proofs.NameLemmas.{not_named}
use Rattle.api_paths.proofs.transaction_name.read_transaction_name.Goals as goal

pub returns-in-Some-clause-none : goal.returns-in-Some-clause-none
returns-in-Some-clause-none c =
    not_named c.args.text.now c.as_str.result.now c.in-Some.place c.in-Some.code c.transaction_at.result c.as_str.ensures c.in-Some.ensures.some
    c.in-Some.ensures.small.0 c.in-Some.ensures.small.1 c.transaction_at.ensures.none
