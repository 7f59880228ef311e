use Rattle.std.proofs.Common.{◌∙◌, List, Bor, map, fold, ap}
use Rattle.std.specs.BTreeSet.{insert_key}
use Rattle.rdf_term.specs.declared.term.Term.{Term}
use Rattle.rdf_term.specs.Order.{term_cmp}
use Rattle.quad_index.specs.Codes.{terms_of}
use Rattle.quad_index.proofs.DictionaryLemmas.{noted_first, noted_is}
use Rattle.quad_index.proofs.dictionary.mentioned.Goals as goal

pub loop-quad-init : goal.loop-quad-init
loop-quad-init c =
    noted_first (map (λ (t : Bor Term). t.now) c.note_quad.new.seen.keys) c.in-Some.first.now c.in-Some.rest.now
    (c.in_ok-note_quad.ensures ∙ ap (λ (keys : List (Bor Term)). fold (insert_key term_cmp) (map (λ (t : Bor Term). t.now) keys) (terms_of c.in-Some.first.now)) c.new-seen.ensures.empty)
    ∙ noted_is c.args.quads.now c.in-Some.first.now c.in-Some.rest.now c.in-Some.ensures.cases.0
