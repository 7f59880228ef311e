use Rattle.std.proofs.Common.{◌∙◌, ap}
use Rattle.rdf_term.proofs.TextLemmas.{chars_of}
use Rattle.api_replies.specs.Ids.{is_id}
use Rattle.api_replies.proofs.ids.is_id.Goals as goal

pub returns : goal.returns
returns c = c.is_id_text.ensures ∙ ap is_id (chars_of c.args.text.now c.as_str.result.now c.as_str.utf8 c.as_str.ensures)
