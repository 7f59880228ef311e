use Rattle.std.proofs.Common.{rules}
use Rattle.nquads_line.specs.Grammar.{IsTerm}
use Rattle.api_parts.specs.Selections.{IsOfKind}
use Rattle.api_parts.proofs.SelectionLemmas.{other_kind}
use Rattle.api_parts.proofs.selection.term_value.Goals as goal

pub returns-else-is_of_kind-clause-none : goal.returns-else-is_of_kind-clause-none
returns-else-is_of_kind-clause-none c =
    let t = c.in-Some.term in
    let is : IsTerm c.args.value.now t = search rules in
    let not : ¬ (IsOfKind c.args.kind t) = search rules in
    λ u v. other_kind c.args.kind c.args.value.now t u is not v
