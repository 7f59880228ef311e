use Rattle.std.proofs.Common.{◌≡◌, ◌≤◌, [], vec_len, vec_capacity}
use Rattle.worker_pool.specs.Columns.{AreColumns}
use Rattle.worker_pool.proofs.columns.make_columns.Given as goal

abbrev pub invariant-loop : goal.invariant-loop
invariant-loop l = record {
  columns : AreColumns l.workers [] l.columns.items;
  count : vec_len l.columns ≡ l.counter;
  room : l.repos ≤ vec_capacity l.columns;
}
