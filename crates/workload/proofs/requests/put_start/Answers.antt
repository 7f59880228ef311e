use Rattle.std.proofs.Common.{append_assoc}
use Rattle.workload.proofs.requests.put_start.Goals as goal

pub returns : goal.returns
returns c =
    rw (c.in_ok-append-3.ensures.ok, c.in_ok-put_target.ensures, c.in_ok-append-2.ensures.ok, c.in_ok-append.ensures.ok, c.method_of.ensures) (simp append_assoc)
