use Rattle.std.proofs.Common.{rules, sym, subst}
use Rattle.shared_repo.specs.Passes.{ArePasses}
use Rattle.shared_repo.proofs.PassLists.{passes_more, passes_parts}
use Rattle.bench_shared.proofs.crew.+fn-work_each-join+arg3+work_each.Goals as goal

pub join-last-requires-after_bounds : goal.join-last-requires-after_bounds
join-last-requires-after_bounds g t c κs within =
    let r = passes_parts c.args.repo.now c.pop.new.self.items c.in-Some.last (subst (λ l. ArePasses c.args.repo.now l) c.in-Some.ensures.items c.requires) in
    ((search rules, r.1), (search rules, ((λ a m. m), ((search rules, r.0), search rules))))

pub returns-clause-passes : goal.returns-clause-passes
returns-clause-passes g t c =
    subst (λ l. ArePasses c.args.repo.now l) (sym c.push_reserved.ensures.items) (passes_more c.args.repo.now _ _ (search rules) (search rules))
