use Rattle.std.proofs.Common.{sym, arith, decimal, lit<}
use Rattle.std.proofs.lemmas.Str.Pattern.{split_after}
use Rattle.api_paths.proofs.NameLemmas.{no_hyphen}
use Rattle.api_paths.proofs.transaction_name.numbers.Goals as goal

pub returns-in-None-clause-none : goal.returns-in-None-clause-none
returns-in-None-clause-none c = λ m n p q e.
    let sides = split_after 45 c.args.text.now (decimal m) (decimal n) c.split_once.result c.split_once.ensures.cases (lit< tt) e (no_hyphen m (omega arith)) in
    rw c.in-None.is at sides

pub returns-in-None-number-clause-none : goal.returns-in-None-number-clause-none
returns-in-None-number-clause-none c = λ m n p q e.
    let sides = split_after 45 c.args.text.now (decimal m) (decimal n) c.split_once.result c.split_once.ensures.cases (lit< tt) e (no_hyphen m (omega arith)) in
    let parts = rw c.in-Some.is at sides in
    c.in-None-number.ensures.none m p (sym parts.0)

pub returns-in-None-number-2-clause-none : goal.returns-in-None-number-2-clause-none
returns-in-None-number-2-clause-none c = λ m n p q e.
    let sides = split_after 45 c.args.text.now (decimal m) (decimal n) c.split_once.result c.split_once.ensures.cases (lit< tt) e (no_hyphen m (omega arith)) in
    let parts = rw c.in-Some.is at sides in
    c.in-None-number-2.ensures.none n q (sym parts.1)
