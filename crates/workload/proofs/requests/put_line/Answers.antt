use Rattle.std.proofs.Common.{append_assoc}
use Rattle.workload.specs.Requests.{line_of}
use Rattle.workload.proofs.requests.put_line.Goals as goal

pub returns : goal.returns
unfolding line_of
returns c =
    rw (
      c.in_ok-append-4.ensures.ok,
      c.in_ok-append_decimal-3.ensures.ok,
      c.in_ok-append-3.ensures.ok,
      c.in_ok-append_decimal-2.ensures.ok,
      c.in_ok-append-2.ensures.ok,
      c.in_ok-append_decimal.ensures.ok,
      c.in_ok-append.ensures.ok,
      c.from.ensures,
      c.from-2.ensures,
      c.requires,
    ) (simp append_assoc)
