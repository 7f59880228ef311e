use Rattle.std.proofs.Common.{sym, subst, ◌∙◌, true≢false}
use Rattle.std.specs.Option.{MatchOption}
use Rattle.rdf_term.specs.declared.term.Term.{Term}
use Rattle.rdf_term.specs.Validity.{IsValidTerm}
use Rattle.serde_json.specs.View.{view}
use Rattle.results_json.specs.Tables.{Spells}
use Rattle.results_json.proofs.TermLemmas.{spells_once}
use Rattle.results_json.proofs.term_value.term_of.Goals as goal

pub returns-else-is_valid : goal.returns-else-is_valid
returns-else-is_valid c = λ u is.
    let d = view c.args.value.now in
    let spells : Spells d c.in-Some.term = subst (λ o. MatchOption o ((t : Term) → Spells d t → ⊥) (λ t. Spells d t)) c.in-Some.is c.in_ok-term.ensures in
    true≢false (sym (c.is_valid.ensures.fact.1 (subst IsValidTerm (spells_once d u c.in-Some.term is.0 spells) is.1)) ∙ c.if-is_valid.false)
