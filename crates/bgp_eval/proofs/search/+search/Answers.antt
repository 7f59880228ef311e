use Rattle.std.proofs.Common.{◌≡◌, ◌∙◌, ◌+◌, ◌++◌, List, Option, Some, ap, sym, subst, length, map, take}
use Rattle.rdf_term.specs.declared.term.Term.{Term}
use Rattle.bgp_eval.specs.declared.row.Places.{Places}
use Rattle.bgp_eval.specs.Places.{IsTried, taken_back}
use Rattle.bgp_eval.specs.Ways.{candidates, next_row}
use Rattle.bgp_eval.proofs.SearchLemmas.{full, has_all, led_to-all, length-take_first, went_on}
use Rattle.bgp_eval.proofs.search.+search.Goals as goal

pub returns-then-has_enough-clause-found : goal.returns-then-has_enough-clause-found
returns-then-has_enough-clause-found g t c =
    let views = map g.V.Scan.content c.args.views.now in
    let k = c.args.wanted.now.kept in
    let m = c.args.wanted.now.most + 1 in
    let quads : c.as_slice-left.result.now ≡ candidates views c.in-Some.step.now c.args.row.now.items = cc (c.as_slice-left.ensures, c.in_ok-quads-in-Some.ensures) in
    has_all m c.loop-quad.found _ _ (full c.args.wanted.now.most (length c.loop-quad.found) (sym c.has_enough.ensures ∙ c.if-has_enough.true) c.loop-quad.invariant.room)
    (c.loop-quad.invariant.whole
    ∙ ap (λ rows. take m (c.args.found.now ++ rows)) (led_to-all views k c.args.row.now.items c.in-Some.step.now c.in-Some.rest.now c.args.steps.now c.as_slice-left.result.now c.in-Some.ensures.cases.0 quads))

pub loop-quad-preserved-in_ok-search-in-Some : goal.loop-quad-preserved-in_ok-search-in-Some
loop-quad-preserved-in_ok-search-in-Some g t c =
    let views = map g.V.Scan.content c.args.views.now in
    let m = c.args.wanted.now.most + 1 in
    let step = c.in-Some.step.now in
    let quad = c.in-Some-split_first.quad.now in
    let behind = c.in-Some-split_first.behind.now in
    let before : List (Option Term) = c.loop-quad.row.items in
    let after : List (Option Term) = c.tried.new.row.items in
    let tried : IsTried (Some c.in-Some-2.places) (next_row before step quad behind) before after =
    subst (λ (it : Option Places). IsTried it (next_row before step quad behind) before after) c.in-Some-2.is c.in_ok-places-in-Some.ensures in
    record {
      room = length-take_first m _ c.search.new.found c.in_ok-search-in-Some.ensures.found;
      same = c.take_back.ensures ∙ ap (taken_back c.in-Some-2.places) c.in_ok-search-in-Some.ensures.row ∙ tried.1 ∙ c.loop-quad.invariant.same;
      whole = went_on views c.args.wanted.now.kept c.args.row.now.items step c.in-Some.rest.now m c.search.new.found c.loop-quad.found
          quad behind c.loop-quad.left.now after c.in-Some-split_first.ensures.cases.0
          (sym tried.0 ∙ ap (λ row. next_row row step quad behind) c.loop-quad.invariant.same) c.in_ok-search-in-Some.ensures.found
          ∙ c.loop-quad.invariant.whole;
    }
