use Rattle.std.proofs.Common.{[], ◌∷◌, ap, sym, codes, append-nil}
use Rattle.query_print.specs.Printed.{spaced}
use Rattle.query_print.proofs.PutLemmas.{put_one, put_last}
use Rattle.query_print.proofs.WordLemmas.{var_mark}
use Rattle.query_print.proofs.query.put_var.Goals as goal

pub returns : goal.returns
returns c =
    put_last c.put_text.result c.args.out.now c.put_text.new.out (spaced (codes "?" ∷ [])) c.args.name.now
    (put_one c.args.out.now (codes "?") var_mark c.in_ok-put_word.ensures) (ap (λ v. 32 ∷ 63 ∷ v) (sym (append-nil c.args.name.now))) c.put_text.ensures
