use Rattle.std.proofs.Common.{◌≡◌, ◌++◌, List, length, take, drop, ap, sym, subst, arith}
use Rattle.shared_session.specs.Houses.{AllOf, AreFirst, House}
use Rattle.shared_session.specs.declared.passes.Passes.{Passes}
use Rattle.shared_session.proofs.RowLemmas.{rows_first, rows_of, slice_back}
use Rattle.shared_session.proofs.house.House.new.Goals as goal

pub returns-clause-passes : goal.returns-clause-passes
returns-clause-passes c =
    let house : House = record { names = c.in_ok-catalog.catalog.names; limits = c.in_ok-catalog.catalog.limits; repos = c.in_ok-repos.repos.items } in
    let back : take c.in_ok-rows.rows.len (c.make_repos.new.rows ++ drop (length c.make_repos.new.rows) c.in_ok-rows.rows.items) ≡ c.make_repos.new.rows =
    slice_back c.in_ok-rows.rows.len c.make_repos.new.rows c.in_ok-rows.rows.items (omega (arith, c.make_repos.auto.rows, ap length c.as_mut_slice.ensures.value))
    (omega (arith, c.in_ok-rows.rows.ok.0)) in
    subst (λ (z : List Passes). AllOf house z) (sym back) (rows_of house 0 (length c.args.ids.now) c.make_repos.new.rows c.in_ok-repos.ensures.rows)

pub returns-clause-first : goal.returns-clause-first
returns-clause-first c =
    let back : take c.in_ok-rows.rows.len (c.make_repos.new.rows ++ drop (length c.make_repos.new.rows) c.in_ok-rows.rows.items) ≡ c.make_repos.new.rows =
    slice_back c.in_ok-rows.rows.len c.make_repos.new.rows c.in_ok-rows.rows.items (omega (arith, c.make_repos.auto.rows, ap length c.as_mut_slice.ensures.value))
    (omega (arith, c.in_ok-rows.rows.ok.0)) in
    subst (λ (z : List Passes). AreFirst 0 z) (sym back) (rows_first c.in_ok-repos.repos.items 0 (length c.args.ids.now) c.make_repos.new.rows c.in_ok-repos.ensures.rows)
