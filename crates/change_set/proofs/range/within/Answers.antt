use Rattle.std.proofs.Common.{arith}
use Rattle.change_set.proofs.Ranges.{middle, middle_named}
use Rattle.change_set.proofs.range.within.Goals as goal

pub returns : goal.returns
returns c = record {
  added = middle c.args.pattern.now c.args.named.now c.lower-start.result c.max-end.result (omega arith) (omega arith)
      c.lower-start.ensures.before (λ k d l m. c.upper.ensures.behind k d (omega arith) m);
  named = middle_named c.args.pattern.now c.args.named.now c.lower-start.result c.max-end.result (omega arith) (omega arith)
      c.lower-start.ensures.before (λ k d l m. c.upper.ensures.behind k d (omega arith) m);
}
