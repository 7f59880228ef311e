use Rattle.std.proofs.Common.{IsUtf8, ◌∙◌, sym, subst}
use Rattle.http_frame.proofs.HeadLemmas.{token_text}
use Rattle.http_frame.proofs.head.head_of.Goals as goal

pub text-requires : goal.text-requires
text-requires c =
    let at = c.requires.reads.1 in
    subst IsUtf8 (sym (c.of.ensures ∙ at.method)) (token_text c.requires.reads.0.method at.reads.0.method)
