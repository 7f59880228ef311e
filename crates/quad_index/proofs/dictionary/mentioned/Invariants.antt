use Rattle.std.proofs.Common.{◌≡◌, map, fold, drop}
use Rattle.std.specs.List.{flat_map}
use Rattle.std.specs.BTreeSet.{insert_key}
use Rattle.rdf_term.specs.Order.{term_cmp}
use Rattle.rdf_term.specs.Sets.{sorted_set}
use Rattle.quad_index.specs.Codes.{terms_of}
use Rattle.quad_index.proofs.DictionaryLemmas.{noted_after}
use Rattle.quad_index.proofs.dictionary.mentioned.Given as goal

abbrev pub invariant-loop-quad : goal.invariant-loop-quad
invariant-loop-quad l = fold (insert_key term_cmp) (map (λ t. t.now) l.seen.keys) (noted_after l.before (drop l.quad-index l.rest)) ≡ sorted_set term_cmp (flat_map terms_of l.fn.quads)
