use Rattle.std.proofs.Common.{arith}
use Rattle.http_frame.proofs.StatusLemmas.{too_many, none_in_nothing}
use Rattle.http_frame.proofs.status_search.look.Goals as goal

pub returns-then-buf-eq0 : goal.returns-then-buf-eq0
returns-then-buf-eq0 c = none_in_nothing c.args.buf.now (omega arith)

pub returns-else-found-le-MOST_FIELDS : goal.returns-else-found-le-MOST_FIELDS
returns-else-found-le-MOST_FIELDS c = (
  omega arith,
  too_many c.args.buf.now c.parse_response.new.headers c.in-Ok-Complete.found (rw c.in-Ok-Complete.field-0-is at c.in-Ok-Complete.ensures.complete) (rw c.in-Ok-Complete.field-0-is at c.in-Ok-Complete.ensures.within) (omega arith),
)
