use Rattle.std.proofs.Common.{◌≡◌, rules, ◌∙◌, subst, List, ℕ}
use Rattle.std.specs.Str.{IsUtf8}
use Rattle.percent_encoding.specs.Percent.{percent_decode}
use Rattle.api_paths.proofs.TextLemmas.{text_is, no_text}
use Rattle.api_paths.proofs.target.segment.Goals as goal

pub returns-in-Ok : goal.returns-in-Ok
returns-in-Ok c =
    let bytes : c.deref.result.now ≡ percent_decode c.args.piece.now = search rules in
    text_is (percent_decode c.args.piece.now) c.in_ok-from_chars-in-Ok.field-0 (subst (λ (bs : List ℕ). IsUtf8 bs) bytes c.in-Ok.ensures.cases.1)
    (c.in_ok-from_chars-in-Ok.ensures ∙ c.in-Ok.ensures.cases.0 ∙ bytes)

pub returns : goal.returns
returns c =
    let bytes : c.deref.result.now ≡ percent_decode c.args.piece.now = search rules in
    no_text (percent_decode c.args.piece.now) (subst (λ (bs : List ℕ). ¬ (IsUtf8 bs)) bytes c.in-Err.ensures.cases.0)
