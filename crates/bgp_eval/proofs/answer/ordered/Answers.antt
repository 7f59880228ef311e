use Rattle.std.proofs.Common.{◌≡◌, ◌∙◌, ap, List, Option, Some, None, Bool, true, false, refl, if◌then◌else◌}
use Rattle.std.specs.List.{dedup}
use Rattle.std.specs.Option.{option_cmp, option_eq}
use Rattle.std.specs.Ordering.{eq_by_cmp}
use Rattle.std.specs.Cmp.Lexicographic.{lists_ties, pointwise}
use Rattle.std.proofs.lemmas.List.Filters.{dedup_is}
use Rattle.std.proofs.lemmas.List.Sorted.{IsPermutation-trans}
use Rattle.rdf_term.specs.declared.term.Term.{Term}
use Rattle.rdf_term.specs.Order.{row_cmp, term_cmp}
use Rattle.rdf_term.specs.OrderLaws.{row_total, row_exact}
use Rattle.rdf_term.specs.Sets.{rows_in_order, sorted_set}
use Rattle.rdf_term.proofs.SetLemmas.{sorted_set-dedup}
use Rattle.rdf_term.proofs.SortLemmas.{sorted_list-is}
use Rattle.bgp_eval.proofs.answer.ordered.Goals as goal

ties : (x y : Option Term) → option_eq (eq_by_cmp term_cmp) x y ≡ eq_by_cmp (option_cmp term_cmp) x y
ties None None = refl
ties None (Some y) = refl
ties (Some x) None = refl
ties (Some x) (Some y) = refl

first : (b : Bool) (xs ys : List (List (Option Term))) → b ≡ true → xs ≡ (if b then xs else ys)
first true xs ys e = refl
first false xs ys e = cc

second : (b : Bool) (xs ys : List (List (Option Term))) → b ≡ false → ys ≡ (if b then xs else ys)
second true xs ys e = cc
second false xs ys e = refl

pub returns-then-not-distinct : goal.returns-then-not-distinct
returns-then-not-distinct c = λ all h.
    sorted_list-is row_total row_exact all c.in_ok-sorted.sorted (IsPermutation-trans all c.args.rows c.in_ok-sorted.sorted h c.in_ok-sorted.ensures.permutation) c.in_ok-sorted.ensures.sorted
    ∙ second c.args.distinct (sorted_set row_cmp all) (rows_in_order all) c.if-not-distinct.true

pub returns : goal.returns
returns c = λ all h.
    c.from_vec.ensures
    ∙ dedup_is (pointwise (option_eq (eq_by_cmp term_cmp))) c.into_vec-rows.result.items c.dedup.new.self.items c.dedup.ensures.filtered
    ∙ ap (λ e. dedup e c.into_vec-rows.result.items) (λ i x y. lists_ties (option_cmp term_cmp) ties x y i)
    ∙ ap (dedup (eq_by_cmp row_cmp)) c.into_vec-rows.ensures
    ∙ sorted_set-dedup row_total row_exact all c.in_ok-sorted.sorted (IsPermutation-trans all c.args.rows c.in_ok-sorted.sorted h c.in_ok-sorted.ensures.permutation) c.in_ok-sorted.ensures.sorted
    ∙ first c.args.distinct (sorted_set row_cmp all) (rows_in_order all) c.if-not-distinct.false
