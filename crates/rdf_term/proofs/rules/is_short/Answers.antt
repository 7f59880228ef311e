use Rattle.std.proofs.Common.{sym, ap, length, nat_le}
use Rattle.std.proofs.lemmas.Str.{encodes-chars}
use Rattle.rdf_term.proofs.rules.is_short.Goals as goal

pub returns : goal.returns
returns c = ap (λ v. nat_le (length v) 65535) (sym (encodes-chars c.args.text.now c.utf8.text))
