use Rattle.std.proofs.Common.{◌≡◌, Some, None, Option, sym, ap, ◌∙◌}
use Rattle.std.specs.List.{list_any}
use Rattle.std.specs.Map.{lookup}
use Rattle.std.specs.BTreeMap.{is_at}
use Rattle.rdf_term.specs.Order.{quad_cmp}
use Rattle.rdf_term.specs.Matching.{matches}
use Rattle.change_set.specs.Content.{last_effect}
use Rattle.change_set.proofs.Effects.{last_effect-kept, effect_in, removed_where}
use Rattle.change_set.proofs.kept.Kept.effect.Goals as goal

pub returns-in-Some : goal.returns-in-Some
returns-in-Some c =
    let patterns = c.self.inside.patterns.items in
    let entries = c.self.inside.named.items in
    let quad = c.args.quad.now in
    c.effect.ensures
    ∙ ap (λ o. effect_in patterns o quad) (c.in-Some.ensures ∙ ap (lookup (is_at (quad_cmp quad))) c.as_slice.ensures.value)
    ∙ sym (last_effect-kept patterns entries quad c.self.invariant)
    ∙ ap (λ changes. last_effect changes quad) c.self.view_is

pub returns-then-is_matched : goal.returns-then-is_matched
returns-then-is_matched c =
    let patterns = c.self.inside.patterns.items in
    let entries = c.self.inside.named.items in
    let quad = c.args.quad.now in
    ap removed_where (sym c.if-is_matched.true ∙ c.is_matched.ensures ∙ ap (list_any (λ p. matches p quad)) c.as_slice-in-None.ensures.value)
    ∙ ap (λ o. effect_in patterns o quad) (c.in-None.ensures ∙ ap (lookup (is_at (quad_cmp quad))) c.as_slice.ensures.value)
    ∙ sym (last_effect-kept patterns entries quad c.self.invariant)
    ∙ ap (λ changes. last_effect changes quad) c.self.view_is

pub returns-else-is_matched : goal.returns-else-is_matched
returns-else-is_matched c =
    let patterns = c.self.inside.patterns.items in
    let entries = c.self.inside.named.items in
    let quad = c.args.quad.now in
    ap removed_where (sym c.if-is_matched.false ∙ c.is_matched.ensures ∙ ap (list_any (λ p. matches p quad)) c.as_slice-in-None.ensures.value)
    ∙ ap (λ o. effect_in patterns o quad) (c.in-None.ensures ∙ ap (lookup (is_at (quad_cmp quad))) c.as_slice.ensures.value)
    ∙ sym (last_effect-kept patterns entries quad c.self.invariant)
    ∙ ap (λ changes. last_effect changes quad) c.self.view_is
