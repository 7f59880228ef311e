use Rattle.std.proofs.Common.{◌≡◌, ℕ, List, sym, ◌∙◌, subst}
use Rattle.query_grammar.specs.declared.fault.QueryFault.TheVariants as fault
use Rattle.query_grammar.specs.QueryText.{IsQueryText}
use Rattle.client_script.proofs.line.query.Goals as goal

pub returns-in-Err-BadAt : goal.returns-in-Err-BadAt
returns-in-Err-BadAt c = λ query s.
    let told = c.in-Err-BadAt.ensures.only query (subst (λ (t : List ℕ). IsQueryText t query) (sym c.in-Ok.ensures.cases.0) s.grammar) in
    let apart : fault.BadAt c.in-Err-BadAt.field-0-0 ≡ fault.Memory = sym c.in-Err-BadAt.field-0-is ∙ told in
    cc

pub returns-in-Err-Unsupported : goal.returns-in-Err-Unsupported
returns-in-Err-Unsupported c = λ query s.
    let told = c.in-Err-Unsupported.ensures.only query (subst (λ (t : List ℕ). IsQueryText t query) (sym c.in-Ok.ensures.cases.0) s.grammar) in
    let apart : fault.Unsupported c.in-Err-Unsupported.field-0-0 ≡ fault.Memory = sym c.in-Err-Unsupported.field-0-is ∙ told in
    cc

pub returns-in-Err-UnknownPrefix : goal.returns-in-Err-UnknownPrefix
returns-in-Err-UnknownPrefix c = λ query s.
    let told = c.in-Err-UnknownPrefix.ensures.only query (subst (λ (t : List ℕ). IsQueryText t query) (sym c.in-Ok.ensures.cases.0) s.grammar) in
    let apart : fault.UnknownPrefix c.in-Err-UnknownPrefix.field-0-0 ≡ fault.Memory = sym c.in-Err-UnknownPrefix.field-0-is ∙ told in
    cc
