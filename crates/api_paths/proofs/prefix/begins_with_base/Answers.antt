use Rattle.std.proofs.Common.{◌∙◌, sym, ap}
use Rattle.std.proofs.lemmas.Str.{chars_from_encodes}
use Rattle.api_paths.specs.Prefixes.{begins_with_base}
use Rattle.api_paths.proofs.prefix.begins_with_base.Goals as goal

pub returns : goal.returns
returns c =
    c.begins_with_base_char.ensures
    ∙ ap begins_with_base (sym (chars_from_encodes c.args.text.now c.as_str.result.now c.as_str.utf8 (sym c.as_str.ensures)))
