use Rattle.std.proofs.lemmas.Result.{IfOk-weaker}
use Rattle.query_grammar.proofs.Texts.{ascii_text}
use Rattle.query_grammar.proofs.values.constant.Goals as goal

pub returns : goal.returns
returns c = IfOk-weaker c.from_chars.result _ _ (λ it e. ascii_text it c.args.text.now c.requires e) c.from_chars.ensures
