use Rattle.std.proofs.Common.{◌∙◌, List, map, length, ap, sym, subst}
use Rattle.std.specs.List.{filter}
use Rattle.rdf_term.specs.Matching.{matches}
use Rattle.quad_index.specs.declared.code.Code.{Code}
use Rattle.quad_index.specs.Codes.{arrange_back, is_within, HasSameWithin}
use Rattle.quad_index.specs.Contents.{Contents}
use Rattle.quad_index.proofs.IndexLemmas.{counted_near, counted_all, none_match}
use Rattle.quad_index.proofs.index.Index.count.Goals as goal

pub returns-then-is_everything : goal.returns-then-is_everything
returns-then-is_everything c =
    c.len.ensures
    ∙ c.self.inside.codes.ok.0
    ∙ counted_all c.self.inside.terms (matches c.args.pattern.now) c.self.inside.codes.items (c.is_everything.ensures c.if-is_everything.true)
    ∙ ap (λ (view : Contents). length (filter (matches c.args.pattern.now) view.quads)) c.self.view_is

pub returns-in_default : goal.returns-in_default
returns-in_default c = sym (ap (λ (view : Contents). length (filter (matches c.args.pattern.now) view.quads)) (sym c.self.view_is)
    ∙ ap length (none_match c.self.inside.terms (matches c.args.pattern.now) c.self.inside.codes.items c.self.invariant.quads c.in_default.ensures.none))

pub returns : goal.returns
returns c =
    let bounds = c.in-Some.bounds in
    c.count_within.ensures
    ∙ counted_near c.self.inside.terms bounds.0 bounds.1 (is_within bounds.0 bounds.1) (matches c.args.pattern.now) c.near-order.result.0 c.self.inside.codes.items c.near-order.result.1.now
    c.self.invariant.quads c.in-Some.ensures.some (λ k t. t)
    (subst (λ (codes : List Code). HasSameWithin bounds.0 bounds.1 codes (map (arrange_back c.near-order.result.0) c.near-order.result.1.now)) c.as_slice.ensures.value c.near-order.ensures)
    ∙ ap (λ (view : Contents). length (filter (matches c.args.pattern.now) view.quads)) c.self.view_is
