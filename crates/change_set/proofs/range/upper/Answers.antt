use Rattle.std.proofs.Common.{rules, get_or}
use Rattle.std.specs.Ordering.{is_le}
use Rattle.std.proofs.lemmas.List.Sorted.{IsPartitionPoint-from_clause}
use Rattle.rdf_term.specs.Statement.{Statement}
use Rattle.change_set.specs.declared.effect.Mark.{Mark}
use Rattle.change_set.specs.Places.{place}
use Rattle.change_set.proofs.Ranges.{behind, upper_parts}
use Rattle.change_set.proofs.range.upper.Goals as goal

pub returns-clause-behind : goal.returns-clause-behind
returns-clause-behind c = λ k d l m. behind c.args.pattern.now (get_or c.args.named.now k d).0
    ((IsPartitionPoint-from_clause (λ (e : Statement × Mark). is_le (place c.args.pattern.now e.0)) c.args.named.now c.partition_point.result c.partition_point.ensures.partitioned
    (upper_parts c.args.pattern.now c.args.named.now c.requires) (λ a r q k. search rules)).1 k d l m)
