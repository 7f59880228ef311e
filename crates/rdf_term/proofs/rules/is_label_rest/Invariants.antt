use Rattle.std.proofs.Common.{◌≡◌, length, drop}
use Rattle.std.specs.Str.{chars}
use Rattle.rdf_term.specs.Validity.{is_label_rest}
use Rattle.rdf_term.proofs.TextLemmas.{behind}
use Rattle.rdf_term.proofs.rules.is_label_rest.Given as goal

abbrev pub invariant-loop-character : goal.invariant-loop-character
invariant-loop-character l = is_label_rest (behind l.ends (drop (length l.yielded) (chars l.text))) ≡ is_label_rest (chars l.text)
