use Rattle.std.proofs.Common.{length, ap, ◌∙◌, arith}
use Rattle.std.specs.List.{flat_map}
use Rattle.rdf_term.specs.Canonical.{escaped}
use Rattle.nquads_line.proofs.ByteLemmas.{length-quoted}
use Rattle.nquads_line.proofs.lengths.quoted_bytes.Goals as goal

pub returns : goal.returns
returns c =
    let e = ap (λ b. length (flat_map escaped b)) (c.as_bytes.ensures.value ∙ c.as_str.ensures) in
    omega (arith, e, length-quoted c.args.text.now)
