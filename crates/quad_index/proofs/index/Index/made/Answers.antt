use Rattle.std.proofs.Common.{◌∙◌, List, map, length, ap, sym, subst, arith}
use Rattle.std.specs.List.{All, AllByRecursion}
use Rattle.std.specs.List.Sorted.{IsStrictlySortedBy}
use Rattle.std.proofs.lemmas.List.{length-map}
use Rattle.rdf_term.specs.Order.{quad_cmp}
use Rattle.rdf_term.specs.Sets.{sorted_set}
use Rattle.rdf_term.proofs.SetLemmas.{sorted_set-sorted}
use Rattle.quad_index.specs.declared.code.Code.{Code}
use Rattle.quad_index.specs.Codes.{code_cmp, code_total, decode, IsCode}
use Rattle.quad_index.specs.Contents.{Arranged, IsKept}
use Rattle.quad_index.proofs.CodeLemmas.{code_exact, decode-sorted_set, all-sorted_set}
use Rattle.quad_index.proofs.IndexLemmas.{all_known}
use Rattle.quad_index.proofs.index.Index.made.Goals as goal

pub codes_of-requires : goal.codes_of-requires
codes_of-requires c = all_known c.in_ok-terms.terms c.args.quads.now c.in_ok-terms.ensures.terms

pub invariant_of-result : goal.invariant_of-result
invariant_of-result c = record {
  some = let orders = ap length c.in_ok-runs.ensures.orders in omega (arith, c.requires, orders, length-map c.in_ok-runs.runs.items (λ (run : Arranged). run.order));
  dictionary = c.in_ok-terms.ensures.ascending;
  ascending = subst (IsStrictlySortedBy code_cmp) (sym c.set_of-codes.ensures) (sorted_set-sorted code_total code_exact c.in_ok-codes.codes.items);
  quads = subst (AllByRecursion (IsCode c.in_ok-terms.terms)) (sym c.set_of-codes.ensures) (all-sorted_set (IsCode c.in_ok-terms.terms) c.in_ok-codes.codes.items c.in_ok-codes.ensures.codes);
  same = subst (λ (codes : List Code). All (λ (run : Arranged). IsKept codes run) c.in_ok-runs.runs.items) c.as_slice.ensures.value c.in_ok-runs.ensures.codes;
}

pub returns-clause-quads : goal.returns-clause-quads
returns-clause-quads c =
    ap (map (decode c.in_ok-terms.terms)) c.set_of-codes.ensures
    ∙ decode-sorted_set c.in_ok-terms.terms c.in_ok-terms.ensures.ascending c.in_ok-codes.codes.items c.in_ok-codes.ensures.codes
    ∙ ap (sorted_set quad_cmp) c.in_ok-codes.ensures.quads
