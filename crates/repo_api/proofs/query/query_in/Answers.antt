use Rattle.std.proofs.Common.{rules, sym, subst, ◌∙◌}
use Rattle.std.proofs.Common.{All, ◌++◌, ◌≡◌, codes}
use Rattle.std.specs.Prelude.{option_to_list}
use Rattle.std.specs.Option.{option_copied}
use Rattle.std.specs.Str.{IsUtf8}
use Rattle.api_parts.specs.Parameters.{values_of}
use Rattle.repo_api.specs.Queries.{only, query_text}
use Rattle.repo_api.proofs.ParameterLemmas.{values_are_texts}
use Rattle.repo_api.proofs.CheckLemmas.{passes, exit}
use Rattle.repo_api.proofs.query.query_in.Goals as goal

pub only-requires : goal.only-requires
only-requires c =
    let same : c.as_slice-2.result.now ≡ values_of (codes "query") c.args.parameters.now = search rules in
    subst (All IsUtf8) (sym same) (values_are_texts (codes "query") c.args.parameters.now c.requires)

pub returns-in_err-is_language : goal.returns-in_err-is_language
returns-in_err-is_language c =
    exit _ _ c.from_residual.result c.in_err-is_language.field-0.0 c.from_residual.ensures.1 (c.in_err-is_language.ensures)

pub returns-in_err-text : goal.returns-in_err-text
returns-in_err-text c =
    let q : only (c.as_slice-2.result.now ++ option_to_list (option_copied c.query_body.result)) ≡ query_text c.args.request.now c.args.parameters.now = search rules in
    passes _ _ c.from_residual-in_err-text.result c.in_ok-is_language.field-0 (c.in_ok-is_language.ensures)
    (exit _ _ c.from_residual-in_err-text.result c.in_err-text.field-0.0 c.from_residual-in_err-text.ensures.1 (λ never. sym (c.in_err-text.ensures.refused never) ∙ q))

pub returns-in_err-has_no_binding : goal.returns-in_err-has_no_binding
returns-in_err-has_no_binding c =
    let q : only (c.as_slice-2.result.now ++ option_to_list (option_copied c.query_body.result)) ≡ query_text c.args.request.now c.args.parameters.now = search rules in
    passes _ _ c.from_residual-in_err-has_no_binding.result c.in_ok-is_language.field-0 (c.in_ok-is_language.ensures)
    (passes _ _ c.from_residual-in_err-has_no_binding.result c.in_ok-text.text.now (sym c.in_ok-text.ensures.text ∙ q)
    (exit _ _ c.from_residual-in_err-has_no_binding.result c.in_err-has_no_binding.field-0.0 c.from_residual-in_err-has_no_binding.ensures.1 (c.in_err-has_no_binding.ensures)))

pub returns : goal.returns
returns c =
    let q : only (c.as_slice-2.result.now ++ option_to_list (option_copied c.query_body.result)) ≡ query_text c.args.request.now c.args.parameters.now = search rules in
    passes _ _ c.query_of.result c.in_ok-is_language.field-0 (c.in_ok-is_language.ensures)
    (passes _ _ c.query_of.result c.in_ok-text.text.now (sym c.in_ok-text.ensures.text ∙ q)
    (passes _ _ c.query_of.result c.in_ok-has_no_binding.field-0 (c.in_ok-has_no_binding.ensures)
    (c.query_of.ensures)))
