use Rattle.std.proofs.Common.{string_bytes}
use Rattle.std.proofs.lemmas.Str.{IsUtf8-string_bytes}
use Rattle.api_requests.proofs.SendingLemmas.{read_as}
use Rattle.api_requests.proofs.target.text_of.Goals as goal

pub returns : goal.returns
returns c = read_as c.from_chars.result c.as_str.result.now (string_bytes c.args.text.now) c.as_str.ensures.value (IsUtf8-string_bytes c.args.text.now) c.from_chars.ensures
