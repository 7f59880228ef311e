use Rattle.std.proofs.Common.{append_assoc}
use Rattle.workload.proofs.requests.put_transactions.Goals as goal

pub returns : goal.returns
returns c = rw (c.in_ok-append-2.ensures.ok, c.in_ok-append_decimal.ensures.ok, c.in_ok-append.ensures.ok, c.from.ensures) (simp append_assoc)
