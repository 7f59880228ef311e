use Rattle.std.proofs.Common.{◌≡◌, ◌&&◌, true, false, not, map, sym, ap, ◌∙◌}
use Rattle.std.specs.Arc.{arc_value}
use Rattle.quad_index.specs.Contents.{is_in}
use Rattle.branch.specs.Counts.{is_matched_in, counted_of}
use Rattle.branch.specs.declared.counts.Counted.{Counted}
use Rattle.branch.proofs.CountLemmas.{is_spared}
use Rattle.branch.proofs.counts.Scope.has.Goals as goal

pub returns-then-has : goal.returns-then-has
returns-then-has c =
    let it = c.args.self.now in
    let quad = c.args.quad.now in
    let layers = map arc_value it.layers.now in
    let there : is_in quad it.base.now.quads ≡ true = sym c.has.ensures ∙ c.if-has.true in
    ap not (c.are_matched_in.ensures ∙ ap (is_matched_in layers) c.of.ensures)
    ∙ ap (λ b. b && not (is_matched_in layers quad)) (sym there)
    ∙ is_spared it.base.now.quads layers quad
    ∙ ap (λ (counted : Counted). is_in quad (counted_of counted it.base.now.quads layers)) (sym c.in-Spared.is)

pub returns-else-has : goal.returns-else-has
returns-else-has c =
    let it = c.args.self.now in
    let quad = c.args.quad.now in
    let layers = map arc_value it.layers.now in
    let absent : is_in quad it.base.now.quads ≡ false = sym c.has.ensures ∙ c.if-has.false in
    c.if-has.false
    ∙ ap (λ b. b && not (is_matched_in layers quad)) (sym absent)
    ∙ is_spared it.base.now.quads layers quad
    ∙ ap (λ (counted : Counted). is_in quad (counted_of counted it.base.now.quads layers)) (sym c.in-Spared.is)
