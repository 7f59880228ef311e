use Rattle.std.proofs.Common.{[], ◌∷◌, codes}
use Rattle.query_print.specs.Printed.{slot_text, triple_words}
use Rattle.query_print.proofs.PutLemmas.{put_one, put_more, last_more, last_one}
use Rattle.query_print.proofs.WordLemmas.{graph_word, open_mark, close_mark}
use Rattle.query_print.proofs.query.put_pattern.Goals as goal

pub returns-in_ok-put_triple-in-Graph : goal.returns-in_ok-put_triple-in-Graph
returns-in_ok-put_triple-in-Graph c =
    let old = c.args.out.now in
    let name = slot_text c.in-Graph.name in
    let triple = triple_words c.args.pattern.now in
    let named = put_more old (codes "GRAPH" ∷ []) (name ∷ []) (put_one old (codes "GRAPH") graph_word c.in_ok-put_word-in-Graph.ensures)
    c.in_ok-put_slot-in-Graph.ensures in
    let opened = put_more old (codes "GRAPH" ∷ name ∷ []) (codes "{" ∷ []) named
    (put_one c.put_slot.new.out (codes "{") open_mark c.in_ok-put_word-in-Graph-2.ensures) in
    let inside = put_more old (codes "GRAPH" ∷ name ∷ codes "{" ∷ []) triple opened c.in_ok-put_triple-in-Graph.ensures in
    let closed = last_one c.put_word-in-Graph-2.result c.put_triple-in-Graph.new.out c.put_word-in-Graph-2.new.out (codes "}") close_mark
    c.put_word-in-Graph-2.ensures in
    rw c.in-Graph.is (last_more c.put_word-in-Graph-2.result old c.put_word-in-Graph-2.new.out (codes "GRAPH" ∷ name ∷ codes "{" ∷ triple) (codes "}" ∷ [])
    inside closed)
