use Rattle.std.proofs.Common.{◌≡◌, ◌++◌, ◌∷◌, [], List, sym, subst, arith, rules}
use Rattle.journal.specs.declared.limits.Limits.{Limits}
use Rattle.shared_repo.specs.declared.repo.Repo.{Repo}
use Rattle.shared_repo.specs.Passes.{RepoPass}
use Rattle.shared_session.specs.declared.passes.Passes.{Passes}
use Rattle.worker_pool.specs.Columns.{AreClosed, IsClosed, MayClose}
use Rattle.worker_pool.specs.declared.house_end.RepoCount.{RepoCount}
use Rattle.worker_pool.proofs.ColumnLemmas.{close_last, closed_more}
use Rattle.worker_pool.proofs.columns.+close_all.Goals as goal

pub close_all-requires : goal.close_all-requires
close_all-requires t c =
    let limits = c.requires.columns.0 in
    let parts = close_last limits c.args.repos.now.items c.pop.new.self.items c.in-Some.repo c.args.columns.now.items c.pop-2.new.self.items c.in-Some-pop.column
    c.in-Some.ensures.items c.in-Some-pop.ensures.items c.requires.columns.1 in
    (search rules, ((limits, parts.0), ((c.requires.closing.0, omega (arith, c.requires.closing.1, c.in-Some.ensures.cases)), (c.requires.counts.0, omega (arith, c.requires.counts.1, c.in-Some.ensures.cases)))))

pub close_one-pass-requires-clause-passes : goal.close_one-pass-requires-clause-passes
close_one-pass-requires-clause-passes t c =
    (close_last c.requires.columns.0 c.args.repos.now.items c.pop.new.self.items c.in-Some.repo c.args.columns.now.items c.pop-2.new.self.items c.in-Some-pop.column
    c.in-Some.ensures.items c.in-Some-pop.ensures.items c.requires.columns.1).1.0

pub close_one-pass-requires-clause-all : goal.close_one-pass-requires-clause-all
close_one-pass-requires-clause-all t c =
    (close_last c.requires.columns.0 c.args.repos.now.items c.pop.new.self.items c.in-Some.repo c.args.columns.now.items c.pop-2.new.self.items c.in-Some-pop.column
    c.in-Some.ensures.items c.in-Some-pop.ensures.items c.requires.columns.1).1.1

pub returns-clause-closed : goal.returns-clause-closed
returns-clause-closed t c = λ limits h.
    let parts = close_last limits c.args.repos.now.items c.pop.new.self.items c.in-Some.repo c.args.columns.now.items c.pop-2.new.self.items c.in-Some-pop.column
    c.in-Some.ensures.items c.in-Some-pop.ensures.items h in
    let q : RepoPass = c.close_one-pass.result.0 in
    let n : RepoCount = c.close_one-pass.result.1 in
    let one : IsClosed limits c.in-Some-pop.column.list.items q n =
    subst (λ (z : Limits). IsClosed z c.in-Some-pop.column.list.items q n) parts.1.2 c.close_one-pass.ensures in
    subst (λ (z : List RepoPass). AreClosed limits c.args.columns.now.items z c.push_reserved-2.new.self.items) (sym c.push_reserved.ensures.items)
    (subst (λ (z : List RepoCount). AreClosed limits c.args.columns.now.items (c.close_all.new.closing.items ++ q ∷ []) z) (sym c.push_reserved-2.ensures.items)
    (subst (λ (z : List Passes). AreClosed limits z (c.close_all.new.closing.items ++ q ∷ []) (c.close_all.new.counts.items ++ n ∷ [])) (sym c.in-Some-pop.ensures.items)
    (closed_more limits c.pop-2.new.self.items c.close_all.new.closing.items c.close_all.new.counts.items c.in-Some-pop.column q n (c.close_all.ensures.closed limits parts.0) one)))
