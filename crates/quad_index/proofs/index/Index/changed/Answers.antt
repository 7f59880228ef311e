use Rattle.std.proofs.Common.{◌≡◌, ◌∙◌, ◌++◌, List, not, map, sym, subst, ap}
use Rattle.std.specs.List.{All, AllByRecursion, filter}
use Rattle.std.specs.List.Sorted.{IsStrictlySortedBy}
use Rattle.rdf_term.specs.Sets.{sorted_set}
use Rattle.rdf_term.specs.declared.term.Term.{Term}
use Rattle.rdf_term.specs.Order.{term_cmp}
use Rattle.rdf_term.specs.Statement.{Statement}
use Rattle.rdf_term.proofs.SetLemmas.{sorted_set-sorted}
use Rattle.quad_index.specs.declared.code.Code.{Code}
use Rattle.quad_index.specs.Codes.{code_cmp, code_total, decode, IsCode}
use Rattle.quad_index.specs.Contents.{Arranged, Contents, is_in, IsKept}
use Rattle.quad_index.proofs.CodeLemmas.{code_exact, all-sorted_set}
use Rattle.quad_index.proofs.IndexLemmas.{all_known, still_some}
use Rattle.quad_index.proofs.CarryLemmas.{all_added, all_both, joined_quads, still_used}
use Rattle.quad_index.proofs.index.Index.changed.Goals as goal

pub carried-requires-clause-known : goal.carried-requires-clause-known
carried-requires-clause-known c = still_used c.in_ok-terms.terms c.self.inside.terms c.in_ok-all.all.items c.in_ok-of.field-0 c.as_slice-left.result.now
    (c.in_ok-terms.ensures.terms ∙ ap (sorted_set term_cmp) (c.in_ok-append.ensures.items ∙ ap (λ (more : List Term). c.in_ok-all.all.items ++ more) c.into_terms-new.ensures)) c.in_ok-all.ensures

pub codes_of-requires : goal.codes_of-requires
codes_of-requires c = all_added c.in_ok-terms.terms c.in_ok-all.all.items c.in_ok-of.field-0 c.as_slice-added.result.now
    (c.in_ok-terms.ensures.terms ∙ ap (sorted_set term_cmp) (c.in_ok-append.ensures.items ∙ ap (λ (more : List Term). c.in_ok-all.all.items ++ more) c.into_terms-new.ensures))
    (all_known c.in_ok-of.field-0 c.as_slice-added.result.now c.in_ok-of.ensures.terms)

pub invariant_of-result : goal.invariant_of-result
invariant_of-result c =
    let both : c.extend_from_slice.new.self.items ≡ c.in_ok-codes.codes.items ++ c.in_ok-codes_of.field-0.items =
    c.in_ok-extend_from_slice.ensures.items ∙ ap (λ (more : List Code). c.in_ok-codes.codes.items ++ more) c.as_slice-2.ensures.value in
    let codes = c.set_of-codes.ensures ∙ ap (sorted_set code_cmp) both in
    record {
      some = still_some c.self.inside.runs.items c.as_slice-3.result.now c.in_ok-runs.runs.items c.in_ok-runs.ensures.orders c.as_slice-3.ensures.value c.self.invariant.some;
      dictionary = c.in_ok-terms.ensures.ascending;
      ascending = subst (IsStrictlySortedBy code_cmp) (sym codes) (sorted_set-sorted code_total code_exact (c.in_ok-codes.codes.items ++ c.in_ok-codes_of.field-0.items));
      quads = subst (AllByRecursion (IsCode c.in_ok-terms.terms)) (sym codes) (all-sorted_set (IsCode c.in_ok-terms.terms) (c.in_ok-codes.codes.items ++ c.in_ok-codes_of.field-0.items)
          (all_both (IsCode c.in_ok-terms.terms) c.in_ok-codes.codes.items c.in_ok-codes_of.field-0.items c.in_ok-codes.ensures.codes c.in_ok-codes_of.ensures.codes));
      same = subst (λ (codes : List Code). All (λ (run : Arranged). IsKept codes run) c.in_ok-runs.runs.items) c.as_slice-4.ensures.value c.in_ok-runs.ensures.codes;
    }

pub returns-clause-quads : goal.returns-clause-quads
returns-clause-quads c =
    let both : c.extend_from_slice.new.self.items ≡ c.in_ok-codes.codes.items ++ c.in_ok-codes_of.field-0.items =
    c.in_ok-extend_from_slice.ensures.items ∙ ap (λ (more : List Code). c.in_ok-codes.codes.items ++ more) c.as_slice-2.ensures.value in
    let stays = λ (q : Statement). not (is_in q c.args.removed.now) in
    let left : map (decode c.in_ok-terms.terms) c.in_ok-codes.codes.items ≡ filter stays c.args.self.now.quads =
    c.in_ok-codes.ensures.quads ∙ ap (map (decode c.self.inside.terms)) c.as_slice-left.ensures.value
    ∙ c.in_ok-left.ensures.quads ∙ (λ i. filter (λ q. not (is_in q (c.as_slice.ensures i))) (map (decode c.self.inside.terms) (c.as_slice-codes.ensures.value i)))
    ∙ ap (λ (view : Contents). filter stays view.quads) c.self.view_is in
    ap (map (decode c.in_ok-terms.terms)) (c.set_of-codes.ensures ∙ ap (sorted_set code_cmp) both)
    ∙ joined_quads c.in_ok-terms.terms c.in_ok-codes.codes.items c.in_ok-codes_of.field-0.items (filter stays c.args.self.now.quads) c.args.added.now c.in_ok-terms.ensures.ascending
    c.in_ok-codes.ensures.codes c.in_ok-codes_of.ensures.codes left (c.in_ok-codes_of.ensures.quads ∙ c.as_slice-added.ensures)
