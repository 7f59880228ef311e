use Rattle.std.proofs.Common.{◌∙◌, sym, ap}
use Rattle.std.proofs.lemmas.Str.{encodes_same}
use Rattle.api_parts.specs.Selections.{name_of}
use Rattle.repo_api.specs.Tasks.{bad}
use Rattle.repo_api.proofs.ParameterLemmas.{own_name}
use Rattle.repo_api.proofs.parameters.bad_selecting.Goals as goal

pub returns : goal.returns
returns c = λ never.
    let text = c.bad.ensures never in
    text.2 ∙ ap bad (encodes_same text.0 (name_of c.args.parameter) (text.1 ∙ c.name.ensures ∙ sym (own_name c.args.parameter)))
