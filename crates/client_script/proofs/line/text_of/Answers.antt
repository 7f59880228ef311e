use Rattle.api_paths.proofs.TextLemmas.{text_is, no_text}
use Rattle.std.proofs.Common.{◌∙◌}
use Rattle.client_script.proofs.line.text_of.Goals as goal

pub returns-in_ok-from_chars-in-Ok : goal.returns-in_ok-from_chars-in-Ok
returns-in_ok-from_chars-in-Ok c =
    text_is c.args.bytes.now c.in_ok-from_chars-in-Ok.field-0 c.in-Ok.ensures.cases.1 (c.in_ok-from_chars-in-Ok.ensures ∙ c.in-Ok.ensures.cases.0)

pub returns-in-Err : goal.returns-in-Err
returns-in-Err c = no_text c.args.bytes.now c.in-Err.ensures.cases.0
