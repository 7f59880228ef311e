use Rattle.std.proofs.Common.{List, map, sym, subst}
use Rattle.std.specs.List.Sorted.{IsPermutation}
use Rattle.quad_index.specs.declared.code.Code.{Code}
use Rattle.quad_index.specs.Codes.{arrange, IsRun}
use Rattle.quad_index.proofs.RunLemmas.{empty_run, run_codes, run_keys}
use Rattle.quad_index.proofs.run.Run.build.Goals as goal

permuted : (c : goal.After-sort_unstable) → IsPermutation (map (arrange c.args.order) c.args.codes.now) c.sort_unstable.new.self.items
permuted c = subst (λ (keys : List Code). IsPermutation keys c.sort_unstable.new.self.items) c.in_ok-keys.ensures c.sort_unstable.ensures.permutation

pub invariant_of-result : goal.invariant_of-result
invariant_of-result c = subst (IsRun c.args.order) (sym c.new-keys.ensures.items) (empty_run c.args.order)

pub invariant_of-result-2 : goal.invariant_of-result-2
invariant_of-result-2 c = record {
  sorted = c.sort_unstable.ensures.sorted;
  arranged = run_keys c.args.order c.args.codes.now c.sort_unstable.new.self.items c.has_each_letter.ensures (permuted c);
}

pub returns-clause-codes : goal.returns-clause-codes
returns-clause-codes c = record { same = λ e. run_codes c.args.order c.args.codes.now c.sort_unstable.new.self.items c.has_each_letter.ensures (permuted c) }
