use Rattle.std.proofs.Common.{◌≡◌, ◌++◌, take}
use Rattle.rdf_term.proofs.text.Text.with_chars.Given as goal

abbrev pub invariant-loop-character : goal.invariant-loop-character
invariant-loop-character l = l.self ≡ l.fn.self ++ take l.character-index l.characters
