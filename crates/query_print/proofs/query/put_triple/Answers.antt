use Rattle.std.proofs.Common.{[], ◌∷◌, codes}
use Rattle.query_print.specs.Printed.{slot_text}
use Rattle.query_print.proofs.PutLemmas.{put_more, last_more, last_one}
use Rattle.query_print.proofs.WordLemmas.{dot_mark}
use Rattle.query_print.proofs.query.put_triple.Goals as goal

pub returns : goal.returns
returns c =
    let old = c.args.out.now in
    let s = slot_text c.args.pattern.now.s in
    let p = slot_text c.args.pattern.now.p in
    let o = slot_text c.args.pattern.now.o in
    last_more c.put_word.result old c.put_word.new.out (s ∷ p ∷ o ∷ []) (codes "." ∷ [])
    (put_more old (s ∷ p ∷ []) (o ∷ []) (put_more old (s ∷ []) (p ∷ []) c.in_ok-put_slot.ensures c.in_ok-put_slot-2.ensures) c.in_ok-put_slot-3.ensures)
    (last_one c.put_word.result c.put_slot-3.new.out c.put_word.new.out (codes ".") dot_mark c.put_word.ensures)
