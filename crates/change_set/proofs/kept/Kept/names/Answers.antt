use Rattle.std.proofs.Common.{sym, ap, ◌∙◌}
use Rattle.std.specs.BTreeMap.{is_at}
use Rattle.std.specs.List.{list_any}
use Rattle.std.specs.Map.{lookup}
use Rattle.std.specs.Option.{is_some}
use Rattle.std.specs.Ordering.{eq_by_cmp}
use Rattle.std.proofs.lemmas.Map.Made.{is_some-lookup}
use Rattle.rdf_term.specs.Order.{quad_cmp}
use Rattle.change_set.specs.Content.{named_quads}
use Rattle.change_set.proofs.Effects.{named_quads-kept}
use Rattle.change_set.proofs.kept.Kept.names.Goals as goal

pub returns : goal.returns
returns c =
    let quad = c.args.quad.now in
    let entries = c.self.inside.named.items in
    c.is_some.ensures
    ∙ ap is_some (c.mark_of.ensures ∙ ap (lookup (is_at (quad_cmp quad))) c.as_slice.ensures.value)
    ∙ is_some-lookup (is_at (quad_cmp quad)) entries
    ∙ ap (list_any (eq_by_cmp quad_cmp quad)) (sym (named_quads-kept c.self.inside.patterns.items entries c.self.invariant) ∙ ap named_quads c.self.view_is)
