use Rattle.std.proofs.Common.{◌≡◌, Some, sym, ap, ◌∙◌, rules, subst}
use Rattle.std.specs.List.{HoldsAt}
use Rattle.std.specs.Map.{lookup}
use Rattle.std.specs.Ordering.{ordering_index}
use Rattle.std.specs.declared.cmp.Ordering.TheVariants.{Equal}
use Rattle.std.proofs.lemmas.Fn.{always_returns_same}
use Rattle.rdf_term.specs.Statement.{Statement}
use Rattle.rdf_term.specs.Order.{quad_cmp}
use Rattle.change_set.specs.declared.effect.Mark.{Mark}
use Rattle.change_set.proofs.Ranges.{found_at, absent}
use Rattle.change_set.proofs.kept.mark_of.Goals as goal

pub returns-in-Ok : goal.returns-in-Ok
returns-in-Ok c =
    let entries = c.args.named.now in
    let quad = c.args.quad.now in
    let entry = c.index-named-place.result in
    let tied = c.in-Ok.ensures.position (λ (e : Statement × Mark). quad_cmp e.0 quad) (always_returns_same _ _ _ (λ a r f h. (search rules, search rules))) in
    ap Some (c.mark.ensures ∙ ap (λ (e : Statement × Mark). e.1) c.index-named-place.is)
    ∙ sym (found_at entries quad c.in-Ok.place entry c.requires c.in-Ok.ensures.bound (tied entry))

pub returns-in-Err : goal.returns-in-Err
returns-in-Err c =
    let entries = c.args.named.now in
    let quad = c.args.quad.now in
    sym (absent entries quad c.in-Err.field-0 c.requires
    (c.in-Err.ensures.position (λ (e : Statement × Mark). quad_cmp e.0 quad) (always_returns_same _ _ _ (λ a r f h. (search rules, search rules)))))
