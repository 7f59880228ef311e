use Rattle.std.proofs.Common.{◌≡◌, [], ◌∷◌, ◌++◌, subst, ◌∙◌, arith}
use Rattle.std.specs.Result.{OnOk}
use Rattle.query_print.proofs.WordLemmas.{number_chars}
use Rattle.query_print.proofs.word.put_number.Goals as goal

pub returns : goal.returns
returns c =
    subst (λ t. OnOk c.put_word.result (c.put_word.new.out ≡ c.args.out.now ++ 32 ∷ (t ++ [])))
    (number_chars c.args.number c.as_str.result.now (omega arith) (c.as_str.ensures.value ∙ c.in_ok-digits.ensures.ok)) c.put_word.ensures
