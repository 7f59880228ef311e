use Rattle.std.proofs.Common.{◌≡◌, ◌∷◌, codes, encode_utf8_all, map, take}
use Rattle.rdf_cli.proofs.words.line.Given as goal

abbrev pub invariant-loop-word : goal.invariant-loop-word
invariant-loop-word l = map (λ s. s.now) l.line.items ≡ codes "rdf4j_client" ∷ map encode_utf8_all (take l.word-index l.words)
