use Rattle.std.proofs.Common.{◌≡◌, ◌≢◌, ℕ, suc, zero, [], ◌∷◌, codes, refl, arith}
use Rattle.std.specs.Fmt.{decimal}
use Rattle.query_print.specs.Printed.{offset_words}
use Rattle.query_print.proofs.PutLemmas.{put_one, last_more}
use Rattle.query_print.proofs.WordLemmas.{offset_word}
use Rattle.query_print.proofs.query.put_offset.Goals as goal

some_offset : (n : ℕ) → n ≢ 0 → offset_words n ≡ codes "OFFSET" ∷ decimal n ∷ []
some_offset zero h = absurd (h refl)
some_offset (suc n) h = refl

pub returns : goal.returns
returns c =
    let n = c.args.offset in
    rw (some_offset n (omega arith)) (last_more c.put_number.result c.args.out.now c.put_number.new.out (codes "OFFSET" ∷ []) (decimal n ∷ [])
    (put_one c.args.out.now (codes "OFFSET") offset_word c.in_ok-put_word.ensures) c.put_number.ensures)
