use Rattle.std.proofs.Common.{◌∙◌, ◌&&◌, ap, sym, subst}
use Rattle.std.specs.Str.{IsUtf8}
use Rattle.rdf_term.proofs.TextLemmas.{chars_of, scalars_of}
use Rattle.query_model.specs.WellFormed.{is_var_name}
use Rattle.query_model.proofs.well_formed.is_name.Goals as goal

pub returns : goal.returns
returns c =
    c.is_var_name.ensures
    ∙ ap is_var_name (chars_of c.args.name.now c.as_str.result.now c.as_str.utf8 c.as_str.ensures)
    ∙ ap (λ k. k && is_var_name c.args.name.now) (sym (scalars_of c.args.name.now (subst IsUtf8 c.as_str.ensures c.as_str.utf8)))
