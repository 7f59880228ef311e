use Rattle.std.proofs.Common.{[], ◌∷◌, codes}
use Rattle.std.specs.List.{flat_map}
use Rattle.query_print.specs.Printed.{pattern_words}
use Rattle.query_print.proofs.PutLemmas.{put_one, put_more, last_more, last_one}
use Rattle.query_print.proofs.WordLemmas.{open_mark, close_mark}
use Rattle.query_print.proofs.query.put_group.Goals as goal

pub returns : goal.returns
returns c =
    let old = c.args.out.now in
    let inside = flat_map pattern_words c.args.patterns.now in
    last_more c.put_word-2.result old c.put_word-2.new.out (codes "{" ∷ inside) (codes "}" ∷ [])
    (put_more old (codes "{" ∷ []) inside (put_one old (codes "{") open_mark c.in_ok-put_word.ensures) c.in_ok-put_patterns.ensures)
    (last_one c.put_word-2.result c.put_patterns.new.out c.put_word-2.new.out (codes "}") close_mark c.put_word-2.ensures)
