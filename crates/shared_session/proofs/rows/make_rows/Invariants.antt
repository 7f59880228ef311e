use Rattle.std.proofs.Common.{◌≡◌, ◌≤◌, ℕ, [], vec_len, vec_capacity}
use Rattle.shared_session.specs.Rows.{AreRows}
use Rattle.shared_session.proofs.rows.make_rows.Given as goal

abbrev pub invariant-loop : goal.invariant-loop
invariant-loop l = record { rows : AreRows [] 0 l.room l.rows.items; count : vec_len l.rows ≡ l.counter; room : l.count ≤ vec_capacity l.rows }
