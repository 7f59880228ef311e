use Rattle.std.proofs.Common.{◌≡◌, ◌∙◌, ◌++◌, codes, ap, sym, subst, refl, ℕ, List}
use Rattle.std.specs.Str.{chars, IsUtf8}
use Rattle.std.proofs.lemmas.Str.{chars_from_encodes}
use Rattle.api_replies.proofs.tables.repository_iri.Goals as goal

pub returns : goal.returns
returns c =
    let more : chars c.as_str.result.now ≡ c.args.id.now =
    ap chars c.as_str.ensures ∙ sym (chars_from_encodes c.args.id.now _ (subst IsUtf8 c.as_str.ensures c.as_str.utf8) refl) in
    c.in_ok-append.ensures.ok ∙ ap (λ (t : List ℕ). t ++ chars c.as_str.result.now) c.in_ok-iri.ensures
    ∙ ap (λ (m : List ℕ). codes "urn:repository:" ++ m) more
