use Rattle.std.proofs.Common.{arith}
use Rattle.std.specs.Str.{chars}
use Rattle.query_tokens.proofs.PlaceLemmas.{text_bytes}
use Rattle.query_tokens.proofs.Prefixes.{nothing_searched}
use Rattle.query_tokens.proofs.read.Tokens.new.Goals as goal

pub invariant_of-result : goal.invariant_of-result
invariant_of-result c = let e = text_bytes c.args.text.now c.utf8.text in (nothing_searched (chars c.args.text.now), omega arith)
