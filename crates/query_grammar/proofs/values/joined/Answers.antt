use Rattle.std.proofs.Common.{◌≡◌, ◌∙◌, ◌++◌, ap, sym, subst, refl, ℕ, List}
use Rattle.std.specs.Str.{chars, IsUtf8}
use Rattle.std.proofs.lemmas.Str.{chars_from_encodes}
use Rattle.query_grammar.proofs.values.joined.Goals as goal

pub returns : goal.returns
returns c =
    let more : chars c.as_str.result.now ≡ c.args.second.now =
    ap chars c.as_str.ensures ∙ sym (chars_from_encodes c.args.second.now _ (subst IsUtf8 c.as_str.ensures c.as_str.utf8) refl) in
    c.in_ok-append.ensures.ok ∙ ap (λ (t : List ℕ). t ++ chars c.as_str.result.now) c.in_ok-text.ensures ∙ ap (λ (m : List ℕ). c.args.first.now ++ m) more
