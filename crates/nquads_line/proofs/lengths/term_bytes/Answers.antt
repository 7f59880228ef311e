use Rattle.std.proofs.Common.{arith}
use Rattle.rdf_term.specs.Canonical.{quoted}
use Rattle.nquads_line.proofs.ByteLemmas.{length-iri, length-tagged, length-typed}
use Rattle.nquads_line.proofs.lengths.term_bytes.Goals as goal

pub returns-in-Iri : goal.returns-in-Iri
returns-in-Iri c = rw c.in-Iri.is (omega (arith, length-iri c.in-Iri.iri))

pub returns-in-Tagged : goal.returns-in-Tagged
returns-in-Tagged c = rw c.in-Tagged.is (omega (arith, length-tagged (quoted c.in-Tagged.text) c.in-Tagged.tag))

pub returns-in-Typed : goal.returns-in-Typed
returns-in-Typed c = rw c.in-Typed.is (omega (arith, length-typed (quoted c.in-Typed.text) c.in-Typed.datatype))
