use Rattle.std.proofs.Common.{◌≡◌, ◌∙◌, sym, ap, Some}
use Rattle.std.specs.Prelude.{slice_get}
use Rattle.std.specs.Str.{chars}
use Rattle.api_paths.proofs.TextLemmas.{base_by_first}
use Rattle.api_paths.proofs.prefix.begins_with_base_char.Goals as goal

pub returns-in-Some : goal.returns-in-Some
returns-in-Some c =
    let first : Some c.in-Some.first ≡ slice_get (chars c.args.text.now) 0 = sym c.in-Some.is ∙ c.next.ensures.steps.2 ∙ ap (λ bs. slice_get (chars bs) 0) c.chars.ensures.rest in
    c.is_pn_chars_base.ensures ∙ sym (base_by_first (chars c.args.text.now) c.in-Some.first first)
