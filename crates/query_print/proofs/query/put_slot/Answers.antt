use Rattle.std.proofs.Common.{[], ◌∷◌, ap, sym, codes, append-nil}
use Rattle.query_print.specs.Printed.{spaced}
use Rattle.query_print.proofs.PutLemmas.{put_one, put_last}
use Rattle.query_print.proofs.WordLemmas.{label_mark}
use Rattle.query_print.proofs.query.put_slot.Goals as goal

pub returns-in_ok-put_word-in-Blank : goal.returns-in_ok-put_word-in-Blank
returns-in_ok-put_word-in-Blank c =
    rw c.in-Blank.is (put_last c.put_text.result c.args.out.now c.put_text.new.out (spaced (codes "_:" ∷ [])) c.in-Blank.label
    (put_one c.args.out.now (codes "_:") label_mark c.in_ok-put_word-in-Blank.ensures) (ap (λ v. 32 ∷ 95 ∷ 58 ∷ v) (sym (append-nil c.in-Blank.label)))
    c.put_text.ensures)
