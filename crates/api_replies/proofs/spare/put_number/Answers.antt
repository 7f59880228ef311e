use Rattle.std.proofs.Common.{◌≤◌, length, decimal, arith}
use Rattle.api_replies.proofs.PutLemmas.{room_kept}
use Rattle.api_replies.proofs.TextLemmas.{decimal_short}
use Rattle.api_replies.proofs.spare.put_number.Goals as goal

pub returns-clause-kept : goal.returns-clause-kept
returns-clause-kept c =
    let few : length (decimal c.args.number) ≤ 20 = decimal_short c.args.number c.ranges.number.fits in
    room_kept c.append_decimal.result c.args.out.now.items c.append_decimal.new.self.items (decimal c.args.number) c.args.out.now.spare
    c.append_decimal.new.self.spare (c.append_decimal.ensures.succeeds (omega arith)) c.append_decimal.ensures.ok c.append_decimal.ensures.spare
