use Rattle.std.proofs.Common.{◌≡◌, ◌++◌, subst}
use Rattle.std.specs.Result.{OnOk}
use Rattle.query_print.proofs.WordLemmas.{text_chars}
use Rattle.query_print.proofs.word.put_text.Goals as goal

pub returns : goal.returns
returns c =
    subst (λ t. OnOk c.append.result (c.append.new.self ≡ c.args.out.now ++ t)) (text_chars c.args.text.now c.as_str.result.now c.as_str.utf8 c.as_str.ensures)
    c.append.ensures.ok
