use Rattle.std.proofs.Common.{arith, rules, get_or}
use Rattle.std.specs.Ordering.{is_lt}
use Rattle.std.proofs.lemmas.List.Sorted.{IsPartitionPoint-from_clause}
use Rattle.rdf_term.specs.Statement.{Statement}
use Rattle.change_set.specs.declared.effect.Mark.{Mark}
use Rattle.change_set.specs.Places.{place}
use Rattle.change_set.proofs.Ranges.{before, lower_parts}
use Rattle.change_set.proofs.range.lower.Goals as goal

pub returns-clause-before : goal.returns-clause-before
returns-clause-before c = λ k d l. before c.args.pattern.now (get_or c.args.named.now k d).0
    ((IsPartitionPoint-from_clause (λ (e : Statement × Mark). is_lt (place c.args.pattern.now e.0)) c.args.named.now c.partition_point.result c.partition_point.ensures.partitioned
    (lower_parts c.args.pattern.now c.args.named.now c.requires) (λ a r q k. search rules)).0 k d (omega arith) l)
