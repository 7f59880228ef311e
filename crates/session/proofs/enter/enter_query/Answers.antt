use Rattle.std.proofs.Common.{refl}
use Rattle.session.proofs.StepLemmas.{few_lookups}
use Rattle.session.proofs.enter.enter_query.Goals as goal

pub enter_steps-requires-clause-most : goal.enter_steps-requires-clause-most
enter_steps-requires-clause-most g c =
    few_lookups c.in-Some.txn c.args.query.now (c.if-eq.ensures.same.0 refl) (rw (c.in-Some.is, c.requires.asked) at c.requires.most)
