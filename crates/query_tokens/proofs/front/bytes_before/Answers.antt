use Rattle.std.proofs.Common.{arith}
use Rattle.query_tokens.proofs.PlaceLemmas.{text_bytes}
use Rattle.query_tokens.proofs.front.bytes_before.Goals as goal

pub overflow_sub-result : goal.overflow_sub-result
overflow_sub-result c = let a = text_bytes c.args.text.now c.utf8.text in let b = text_bytes c.args.rest.now c.utf8.rest in omega arith

pub returns : goal.returns
returns c = let a = text_bytes c.args.text.now c.utf8.text in let b = text_bytes c.args.rest.now c.utf8.rest in omega arith
