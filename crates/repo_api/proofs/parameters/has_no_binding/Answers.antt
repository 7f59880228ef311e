use Rattle.std.proofs.Common.{◌∙◌, sym, ap, subst, List, ℕ, find}
use Rattle.std.specs.Str.{IsUtf8}
use Rattle.repo_api.specs.Parameters.{is_binding}
use Rattle.repo_api.proofs.ParameterLemmas.{All-found}
use Rattle.repo_api.proofs.parameters.has_no_binding.Goals as goal

pub bad_octets-requires : goal.bad_octets-requires
bad_octets-requires c =
    let texts = All-found (λ (pair : List ℕ × List ℕ). IsUtf8 pair.0 × IsUtf8 pair.1) is_binding c.args.parameters.now c.in-Some.pair.now c.requires
    (ap (find is_binding) (sym c.as_slice.ensures) ∙ sym c.in-Some.ensures) in
    subst IsUtf8 (sym c.as_slice-in-Some.ensures) texts.0

pub returns-in-Some : goal.returns-in-Some
returns-in-Some c = λ never.
    let text = c.bad_octets.ensures never in
    (c.in-Some.pair.now, ap (find is_binding) (sym c.as_slice.ensures) ∙ sym c.in-Some.ensures, text.0, text.1 ∙ c.as_slice-in-Some.ensures, text.2)
