use Rattle.std.proofs.Common.{◌≡◌, ◌∙◌, List, not, map, ap, sym, subst}
use Rattle.std.specs.List.{filter, All, AllByRecursion}
use Rattle.std.specs.List.Sorted.{IsStrictlySortedBy}
use Rattle.std.specs.Ordering.{eq_by_cmp}
use Rattle.std.proofs.lemmas.List.Kept.{IsStrictlySortedBy-filter}
use Rattle.rdf_term.specs.Order.{quad_cmp}
use Rattle.quad_index.specs.declared.code.Code.{Code}
use Rattle.quad_index.specs.Codes.{code_cmp, decode, IsCode}
use Rattle.quad_index.specs.Contents.{Arranged, Contents, IsKept, is_in}
use Rattle.quad_index.proofs.IndexLemmas.{unknown, all-filter, filter_absent, code_dropped, still_some}
use Rattle.quad_index.proofs.index.Index.remove.Goals as goal

pub returns-in_default-clause-changed : goal.returns-in_default-clause-changed
returns-in_default-clause-changed c =
    sym (unknown c.self.inside.terms c.self.inside.codes.items c.args.quad.now c.self.invariant.quads c.in_default.ensures.none)
    ∙ ap (λ (view : Contents). is_in c.args.quad.now view.quads) c.self.view_is

pub returns-in_default-clause-quads : goal.returns-in_default-clause-quads
returns-in_default-clause-quads c = filter_absent c.args.self.now.quads c.args.quad.now
    (sym (sym (unknown c.self.inside.terms c.self.inside.codes.items c.args.quad.now c.self.invariant.quads c.in_default.ensures.none)
    ∙ ap (λ (view : Contents). is_in c.args.quad.now view.quads) c.self.view_is))

pub returns-then-not-holds-clause-quads : goal.returns-then-not-holds-clause-quads
returns-then-not-holds-clause-quads c = filter_absent c.args.self.now.quads c.args.quad.now (sym c.holds.ensures.found ∙ c.if-not-holds.true)

pub invariant_of-self : goal.invariant_of-self
invariant_of-self c =
    let codes : c.in_ok-codes.codes.items ≡ filter (λ k. not (eq_by_cmp code_cmp k c.in-Some.code)) c.self.inside.codes.items =
    c.in_ok-codes.ensures ∙ ap (filter (λ k. not (eq_by_cmp code_cmp k c.in-Some.code))) c.as_slice.ensures.value in
    record {
      some = still_some c.self.inside.runs.items c.as_slice-2.result.now c.in_ok-runs.runs.items c.in_ok-runs.ensures.orders c.as_slice-2.ensures.value c.self.invariant.some;
      dictionary = c.self.invariant.dictionary;
      ascending = subst (IsStrictlySortedBy code_cmp) (sym codes)
          (IsStrictlySortedBy-filter code_cmp (λ k. not (eq_by_cmp code_cmp k c.in-Some.code)) c.self.inside.codes.items c.self.invariant.ascending);
      quads = subst (AllByRecursion (IsCode c.self.inside.terms)) (sym codes)
          (all-filter (IsCode c.self.inside.terms) (λ k. not (eq_by_cmp code_cmp k c.in-Some.code)) c.self.inside.codes.items c.self.invariant.quads);
      same = subst (λ (codes : List Code). All (λ (run : Arranged). IsKept codes run) c.in_ok-runs.runs.items) c.as_slice-3.ensures.value c.in_ok-runs.ensures.codes;
    }

pub returns-clause-quads : goal.returns-clause-quads
returns-clause-quads c =
    ap (map (decode c.self.inside.terms)) (c.in_ok-codes.ensures ∙ ap (filter (λ k. not (eq_by_cmp code_cmp k c.in-Some.code))) c.as_slice.ensures.value)
    ∙ code_dropped c.self.inside.terms c.self.inside.codes.items c.in-Some.code c.args.quad.now c.self.invariant.dictionary c.self.invariant.quads
    c.in-Some.ensures.some.0 c.in-Some.ensures.some.1
    ∙ ap (λ (view : Contents). filter (λ q. not (eq_by_cmp quad_cmp q c.args.quad.now)) view.quads) c.self.view_is
