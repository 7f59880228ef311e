use Rattle.std.proofs.Common.{sym, ap, ◌∙◌, length, nat_le}
use Rattle.std.specs.Str.{chars}
use Rattle.std.proofs.lemmas.Str.{Chars-Drains, encodes-chars}
use Rattle.api_replies.proofs.ids.is_short.Goals as goal

pub returns : goal.returns
returns c =
    let r = c.count.ensures.ran in
    let same = Chars-Drains (chars c.args.text.now) r.0 c.chars.result (encodes-chars c.args.text.now c.utf8.text ∙ sym c.chars.ensures.rest) r.1 in
    ap (λ n. nat_le n 64) (r.2 ∙ ap length same)
