use Rattle.std.proofs.Common.{[], ◌∷◌, codes}
use Rattle.std.specs.Fmt.{decimal}
use Rattle.query_print.proofs.PutLemmas.{put_one, last_more}
use Rattle.query_print.proofs.WordLemmas.{limit_word}
use Rattle.query_print.proofs.query.put_limit.Goals as goal

pub returns-in_ok-put_word-in-Some : goal.returns-in_ok-put_word-in-Some
returns-in_ok-put_word-in-Some c =
    rw c.in-Some.is (last_more c.put_number.result c.args.out.now c.put_number.new.out (codes "LIMIT" ∷ []) (decimal c.in-Some.number ∷ [])
    (put_one c.args.out.now (codes "LIMIT") limit_word c.in_ok-put_word-in-Some.ensures) c.put_number.ensures)
