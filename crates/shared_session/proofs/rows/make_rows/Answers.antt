use Rattle.std.proofs.Common.{◌≡◌, ◌++◌, ◌∷◌, [], ℕ, List, sym, subst, arith}
use Rattle.shared_session.specs.Rows.{AreRows}
use Rattle.shared_session.specs.declared.passes.Passes.{Passes}
use Rattle.shared_session.proofs.RowLemmas.{rows_none}
use Rattle.shared_session.proofs.rows.make_rows.Goals as goal

pub loop-preserved : goal.loop-preserved
loop-preserved c =
    let row : Passes = record { list = c.in_ok-list.list } in
    record {
      rows = subst (λ (z : List Passes). AreRows [] 0 c.args.room z) (sym c.push_reserved.ensures.items)
          (rows_none 0 c.args.room c.loop.rows.items row c.loop.invariant.rows c.in_ok-list.ensures.items (omega (arith, c.in_ok-list.ensures.capacity)));
      count = omega (arith, c.push_reserved.ensures.len, c.loop.invariant.count);
      room = omega (arith, c.push_reserved.ensures.capacity, c.loop.invariant.room);
    }
