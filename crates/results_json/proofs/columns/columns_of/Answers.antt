use Rattle.std.proofs.Common.{arith}
use Rattle.results_json.proofs.ColumnLemmas.{columns_step}
use Rattle.results_json.proofs.columns.columns_of.Goals as goal

pub loop-place-preserved : goal.loop-place-preserved
loop-place-preserved c =
    let l = c.loop-place in (
      omega arith,
      columns_step c.args.names.now _ l.place c.index-names-place.result l.columns.entries c.insert.new.self.entries c.as_str.result
          (omega arith) (omega arith) c.index-names-place.is c.as_str.ensures l.invariant.1 c.in_ok-insert.ensures.entries,
    )
