use Rattle.std.proofs.Common.{◌∙◌, sym, ap}
use Rattle.std.proofs.lemmas.Str.{encodes_same}
use Rattle.repo_api.specs.Names.{word_of}
use Rattle.repo_api.specs.Tasks.{bad}
use Rattle.repo_api.proofs.ParameterLemmas.{own_word}
use Rattle.repo_api.proofs.parameters.Named.bad.Goals as goal

pub returns : goal.returns
returns c = λ never.
    let text = c.bad.ensures never in
    text.2 ∙ ap bad (encodes_same text.0 (word_of c.args.self) (text.1 ∙ c.name.ensures ∙ sym (own_word c.args.self)))
