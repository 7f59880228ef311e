use Rattle.std.proofs.Common.{refl}
use Rattle.query_grammar.specs.declared.fault.QueryFault.TheVariants.{BadAt, Unsupported, UnknownPrefix}
use Rattle.repo_api.proofs.query.query_of.Goals as goal

pub returns-in-Err-BadAt : goal.returns-in-Err-BadAt
returns-in-Err-BadAt c = λ never. (λ q is. (let memory = c.in-Err-BadAt.ensures.only q is in cc), BadAt c.in-Err-BadAt.at, rw c.in-Err-BadAt.field-0-is at c.in-Err-BadAt.ensures.fault, refl)

pub returns-in-Err-Unsupported : goal.returns-in-Err-Unsupported
returns-in-Err-Unsupported c = λ never. (λ q is. (let memory = c.in-Err-Unsupported.ensures.only q is in cc), Unsupported c.in-Err-Unsupported.at, rw c.in-Err-Unsupported.field-0-is at c.in-Err-Unsupported.ensures.fault, refl)

pub returns-in-Err-UnknownPrefix : goal.returns-in-Err-UnknownPrefix
returns-in-Err-UnknownPrefix c = λ never. (λ q is. (let memory = c.in-Err-UnknownPrefix.ensures.only q is in cc), UnknownPrefix c.in-Err-UnknownPrefix.at, rw c.in-Err-UnknownPrefix.field-0-is at c.in-Err-UnknownPrefix.ensures.fault, refl)
