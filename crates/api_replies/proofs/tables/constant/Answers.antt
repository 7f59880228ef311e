use Rattle.std.proofs.lemmas.Result.{IfOk-weaker}
use Rattle.api_replies.proofs.TextLemmas.{ascii_text}
use Rattle.api_replies.proofs.tables.constant.Goals as goal

pub returns : goal.returns
returns c = IfOk-weaker c.from_chars.result _ _ (λ it e. ascii_text it c.args.text.now c.requires e) c.from_chars.ensures
