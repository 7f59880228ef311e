use Rattle.std.proofs.Common.{◌≡◌, ◌++◌, ◌∷◌, [], List, sym, subst, arith}
use Rattle.worker_pool.specs.Columns.{AreColumns}
use Rattle.shared_session.specs.declared.passes.Passes.{Passes}
use Rattle.worker_pool.proofs.ColumnLemmas.{columns_none}
use Rattle.worker_pool.proofs.columns.make_columns.Goals as goal

pub loop-preserved : goal.loop-preserved
loop-preserved c =
    let column : Passes = record { list = c.in_ok-list.list } in
    record {
      columns = subst (λ (z : List Passes). AreColumns c.args.workers [] z) (sym c.push_reserved.ensures.items)
          (columns_none c.args.workers c.loop.columns.items column c.loop.invariant.columns c.in_ok-list.ensures.items (omega (arith, c.in_ok-list.ensures.capacity)));
      count = omega (arith, c.push_reserved.ensures.len, c.loop.invariant.count);
      room = omega (arith, c.push_reserved.ensures.capacity, c.loop.invariant.room);
    }
