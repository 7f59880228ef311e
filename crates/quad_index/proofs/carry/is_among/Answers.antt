use Rattle.std.proofs.Common.{sym}
use Rattle.quad_index.specs.Codes.{code_total}
use Rattle.quad_index.proofs.ListLemmas.{absent}
use Rattle.quad_index.proofs.IndexLemmas.{found_at}
use Rattle.quad_index.proofs.carry.is_among.Goals as goal

pub returns-in-Ok : goal.returns-in-Ok
returns-in-Ok c = sym (found_at c.args.codes.now c.args.code.now c.in-Ok.field-0 c.in-Ok.ensures.bound c.in-Ok.ensures.ok)

pub returns-in-Err : goal.returns-in-Err
returns-in-Err c = sym (absent code_total c.args.codes.now c.args.code.now c.in-Err.field-0 c.requires c.in-Err.ensures.position)
