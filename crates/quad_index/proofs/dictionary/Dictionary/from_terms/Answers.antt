use Rattle.std.proofs.Common.{◌∙◌, sym, subst, arith}
use Rattle.std.specs.List.Sorted.{IsStrictlySortedBy}
use Rattle.std.specs.Ordering.{eq_by_cmp}
use Rattle.std.proofs.lemmas.List.Filters.{dedup_is}
use Rattle.rdf_term.specs.Order.{term_cmp}
use Rattle.rdf_term.specs.OrderLaws.{term_total, term_exact}
use Rattle.rdf_term.proofs.SetLemmas.{sorted_set-dedup, sorted_set-sorted}
use Rattle.quad_index.proofs.dictionary.Dictionary.from_terms.Goals as goal

pub returns-clause-terms : goal.returns-clause-terms
returns-clause-terms c =
    dedup_is (eq_by_cmp term_cmp) c.sort.new.self.items c.dedup.new.self.items c.dedup.ensures.filtered
    ∙ sorted_set-dedup term_total term_exact c.args.terms.items c.sort.new.self.items c.in_ok-sort.ensures.permutation c.in_ok-sort.ensures.sorted

pub returns-clause-ascending : goal.returns-clause-ascending
returns-clause-ascending c = subst (IsStrictlySortedBy term_cmp) (sym (returns-clause-terms c)) (sorted_set-sorted term_total term_exact c.args.terms.items)

pub invariant_of-result : goal.invariant_of-result
invariant_of-result c = record {
  ascending = returns-clause-ascending c;
  few = omega arith;
}
