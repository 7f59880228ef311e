use Rattle.std.proofs.Common.{◌≡◌, ◌∙◌, subst, List, ℕ, rules, refl}
use Rattle.std.specs.Str.{IsUtf8}
use Rattle.reply_reading.proofs.ReadingLemmas.{text_is, no_text}
use Rattle.reply_reading.proofs.reading.prefix.Goals as goal

pub returns-in_ok-from_chars-in-Ok : goal.returns-in_ok-from_chars-in-Ok
returns-in_ok-from_chars-in-Ok c =
    let bytes : c.as_slice.result.now ≡ c.args.response.now.body = search rules in
    text_is c.args.response.now.body c.in_ok-from_chars-in-Ok.field-0 (subst (λ (bs : List ℕ). IsUtf8 bs) bytes c.in-Ok.ensures.cases.1)
    (c.in_ok-from_chars-in-Ok.ensures ∙ c.in-Ok.ensures.cases.0 ∙ bytes)

pub returns-in-Err : goal.returns-in-Err
returns-in-Err c =
    let bytes : c.as_slice.result.now ≡ c.args.response.now.body = search rules in
    (refl, no_text c.args.response.now.body (subst (λ (bs : List ℕ). ¬ (IsUtf8 bs)) bytes c.in-Err.ensures.cases.0))
