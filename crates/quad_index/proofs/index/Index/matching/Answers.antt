use Rattle.std.proofs.Common.{◌≡◌, ◌∙◌, List, map, ap, sym, subst}
use Rattle.std.specs.List.{filter, AllByRecursion}
use Rattle.std.specs.List.Sorted.{IsStrictlySortedBy}
use Rattle.std.proofs.lemmas.List.Kept.{IsStrictlySortedBy-filter}
use Rattle.rdf_term.specs.Matching.{matches}
use Rattle.rdf_term.specs.Order.{quad_cmp}
use Rattle.rdf_term.specs.Sets.{sorted_set}
use Rattle.quad_index.specs.declared.code.Code.{Code}
use Rattle.quad_index.specs.Codes.{code_cmp, arrange_back, decode, IsCode, is_within, HasSame}
use Rattle.quad_index.specs.Contents.{Contents}
use Rattle.quad_index.proofs.CodeLemmas.{decode-ascends}
use Rattle.quad_index.proofs.IndexLemmas.{hits, all-filter, decode-filter, none_match}
use Rattle.quad_index.proofs.index.Index.matching.Goals as goal

pub returns-in_default-clause-value : goal.returns-in_default-clause-value
returns-in_default-clause-value c =
    c.new.ensures ∙ sym (none_match c.self.inside.terms (matches c.args.pattern.now) c.self.inside.codes.items c.self.invariant.quads c.in_default.ensures.none)
    ∙ ap (λ (view : Contents). filter (matches c.args.pattern.now) view.quads) c.self.view_is

pub returns-in_default-clause-ascending : goal.returns-in_default-clause-ascending
unfolding IsStrictlySortedBy
returns-in_default-clause-ascending c = subst (IsStrictlySortedBy quad_cmp) (sym c.new.ensures) tt

pub quads-requires : goal.quads-requires
quads-requires c =
    let found : c.as_slice-3.result.now ≡ filter (is_within c.in-Some.low c.in-Some.high) c.self.inside.codes.items =
    c.as_slice-3.ensures.value ∙ c.set_of-found.ensures ∙ ap (sorted_set code_cmp) c.in_ok-found.ensures
    ∙ hits c.in-Some.low c.in-Some.high c.self.inside.codes.items (map (arrange_back c.serving-order.result.0) c.serving-order.result.1.now) c.self.invariant.ascending
    (subst (λ (codes : List Code). HasSame codes (map (arrange_back c.serving-order.result.0) c.serving-order.result.1.now)) c.as_slice.ensures.value c.serving-order.ensures.same) in
    subst (AllByRecursion (IsCode c.self.inside.terms)) (sym found)
    (all-filter (IsCode c.self.inside.terms) (is_within c.in-Some.low c.in-Some.high) c.self.inside.codes.items c.self.invariant.quads)

pub returns-clause-value : goal.returns-clause-value
returns-clause-value c =
    let found : c.as_slice-3.result.now ≡ filter (is_within c.in-Some.low c.in-Some.high) c.self.inside.codes.items =
    c.as_slice-3.ensures.value ∙ c.set_of-found.ensures ∙ ap (sorted_set code_cmp) c.in_ok-found.ensures
    ∙ hits c.in-Some.low c.in-Some.high c.self.inside.codes.items (map (arrange_back c.serving-order.result.0) c.serving-order.result.1.now) c.self.invariant.ascending
    (subst (λ (codes : List Code). HasSame codes (map (arrange_back c.serving-order.result.0) c.serving-order.result.1.now)) c.as_slice.ensures.value c.serving-order.ensures.same) in
    c.in_ok-quads.ensures ∙ ap (map (decode c.self.inside.terms)) found
    ∙ decode-filter c.self.inside.terms (is_within c.in-Some.low c.in-Some.high) (matches c.args.pattern.now) c.self.inside.codes.items c.self.invariant.quads c.in-Some.ensures.some
    ∙ ap (λ (view : Contents). filter (matches c.args.pattern.now) view.quads) c.self.view_is

pub returns-clause-ascending : goal.returns-clause-ascending
returns-clause-ascending c =
    subst (IsStrictlySortedBy quad_cmp) (sym (returns-clause-value c))
    (subst (λ (view : Contents). IsStrictlySortedBy quad_cmp (filter (matches c.args.pattern.now) view.quads)) c.self.view_is
    (IsStrictlySortedBy-filter quad_cmp (matches c.args.pattern.now) (map (decode c.self.inside.terms) c.self.inside.codes.items)
    (decode-ascends c.self.inside.terms c.self.invariant.dictionary c.self.inside.codes.items c.self.invariant.quads c.self.invariant.ascending)))
