use Rattle.std.proofs.Common.{◌≡◌, ◌++◌, encode_utf8}
use Rattle.std.specs.Str.Iter.{chars_rest}
use Rattle.std.proofs.lemmas.Str.{chars_past_char}
use Rattle.query_tokens.proofs.front.first_char.Goals as goal

pub returns-in-Some-clause-first : goal.returns-in-Some-clause-first
returns-in-Some-clause-first c =
    let step : chars_rest c.chars-characters.result ≡ encode_utf8 c.in-Some.character ++ chars_rest c.next.new.self = c.in-Some.ensures.steps.0 in
    let whole : c.args.text.now ≡ encode_utf8 c.in-Some.character ++ c.as_str.result.now = cc in
    chars_past_char c.args.text.now c.as_str.result.now c.in-Some.character c.utf8.text whole
