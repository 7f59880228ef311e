use Rattle.std.proofs.Common.{◌∙◌, ap}
use Rattle.std.proofs.lemmas.Result.{IfOk-weaker}
use Rattle.query_model.specs.declared.query.Cut.{Cut}
use Rattle.query_model.specs.declared.query.Query.TheVariants as query
use Rattle.query_grammar.proofs.built.Built.into_short.Goals as goal

pub returns : goal.returns
returns c =
    IfOk-weaker c.short.result _ _ (λ q e. e ∙ ap (λ (cut : Cut). query.Construct c.args.self.patterns c.args.self.patterns cut) c.cut_of-cut.ensures) c.short.ensures
