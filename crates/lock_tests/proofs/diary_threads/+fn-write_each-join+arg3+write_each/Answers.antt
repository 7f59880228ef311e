use Rattle.std.proofs.Common.{rules, sym, subst}
use Rattle.journal_lock.specs.Passes.{AreIdle}
use Rattle.lock_tests.proofs.IdlePasses.{idle_parts, idle_more}
use Rattle.lock_tests.proofs.diary_threads.+fn-write_each-join+arg3+write_each.Goals as goal

pub join-last-requires-after_bounds : goal.join-last-requires-after_bounds
join-last-requires-after_bounds g t c κs within =
    let r = idle_parts c.args.lock.now c.pop.new.self.items c.in-Some.last (subst (λ l. AreIdle c.args.lock.now l) c.in-Some.ensures.items c.requires) in
    (r.1, (search rules, ((λ a m. m), ((search rules, r.0), search rules))))

pub returns-clause-idle : goal.returns-clause-idle
returns-clause-idle g t c =
    subst (λ l. AreIdle c.args.lock.now l) (sym c.push_reserved.ensures.items) (idle_more c.args.lock.now _ _ (search rules) (search rules))
