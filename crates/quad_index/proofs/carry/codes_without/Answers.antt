use Rattle.std.proofs.Common.{◌∙◌, List, not, map, sym, subst, ap}
use Rattle.std.specs.List.{list_any, AllByRecursion}
use Rattle.std.specs.Ordering.{eq_by_cmp}
use Rattle.quad_index.specs.declared.code.Code.{Code}
use Rattle.quad_index.specs.Codes.{code_cmp, decode, IsCode}
use Rattle.quad_index.specs.Contents.{is_in}
use Rattle.quad_index.proofs.IndexLemmas.{all-filter, decode-filter}
use Rattle.quad_index.proofs.carry.codes_without.Goals as goal

pub returns-clause-codes : goal.returns-clause-codes
returns-clause-codes c = subst (AllByRecursion (IsCode c.args.terms.now)) (sym c.in_ok-rest.ensures)
    (all-filter (IsCode c.args.terms.now) (λ k. not (list_any (eq_by_cmp code_cmp k) c.as_slice.result.now)) c.args.codes.now c.requires)

pub returns-clause-quads : goal.returns-clause-quads
returns-clause-quads c =
    ap (map (decode c.args.terms.now)) c.in_ok-rest.ensures
    ∙ decode-filter c.args.terms.now (λ k. not (list_any (eq_by_cmp code_cmp k) c.as_slice.result.now)) (λ q. not (is_in q c.args.quads.now)) c.args.codes.now c.requires
    (λ k i. ap (λ (codes : List Code). not (list_any (eq_by_cmp code_cmp k) codes)) c.as_slice.ensures.value ∙ ap not (c.in_ok-gone.ensures.codes.same k i))
