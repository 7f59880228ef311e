use Rattle.std.proofs.Common.{ℕ, List, sym, ap, ◌∙◌}
use Rattle.std.specs.List.{list_all}
use Rattle.std.proofs.lemmas.Str.{chars_from_encodes}
use Rattle.rdf_client.specs.Exchanges.{is_host_char}
use Rattle.rdf_client.proofs.HostLemmas.{host_is, host_told}
use Rattle.rdf_client.proofs.calling.is_host.Goals as goal

pub returns-clause-value : goal.returns-clause-value
returns-clause-value c =
    c.is_host_text.ensures
    ∙ ap (λ (cs : List ℕ). list_all is_host_char cs) (sym (chars_from_encodes c.args.text.now c.as_str.result.now c.as_str.utf8 (sym c.as_str.ensures)))

pub returns-clause-host : goal.returns-clause-host
returns-clause-host c = (
  host_told c.is_host_text.result c.args.text.now (returns-clause-value c),
  host_is c.is_host_text.result c.args.text.now (returns-clause-value c),
)
