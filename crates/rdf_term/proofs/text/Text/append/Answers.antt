use Rattle.std.proofs.Common.{◌∙◌, ◌++◌, ap, string_bytes}
use Rattle.std.specs.Str.{chars}
use Rattle.std.proofs.lemmas.Str.{chars-append, IsUtf8-string_bytes}
use Rattle.rdf_term.proofs.text.Text.append.Goals as goal

pub returns-clause-ok : goal.returns-clause-ok
returns-clause-ok c =
    let old = c.self.inside.bytes in
    ap chars c.in_ok-push_str.ensures.bytes ∙ chars-append (string_bytes old) c.args.more.now (IsUtf8-string_bytes old)
    ∙ ap (λ r. r ++ chars c.args.more.now) c.self.view_is
