use Rattle.std.proofs.Common.{ap, arith}
use Rattle.std.proofs.lemmas.List.Sums.{sum_by_more}
use Rattle.journal.specs.Replies.{line_bytes}
use Rattle.iso_txn.proofs.SizeLemmas.{line_is}
use Rattle.iso_txn.proofs.sizes.bytes_of.Goals as goal

pub loop-quad-preserved : goal.loop-quad-preserved
loop-quad-preserved c =
    let more = sum_by_more line_bytes c.args.quads.now c.loop-quad.quad-index c.quad-item.result c.loop-quad-test.true in
    let here = ap line_bytes c.quad-item.is in
    let line = line_is c.quad-item.result in
    omega (arith, more, here, line)
