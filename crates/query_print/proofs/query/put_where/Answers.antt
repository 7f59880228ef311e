use Rattle.std.proofs.Common.{[], ◌∷◌, codes}
use Rattle.query_print.specs.Printed.{group_words}
use Rattle.query_print.proofs.PutLemmas.{put_one, last_more}
use Rattle.query_print.proofs.WordLemmas.{where_word}
use Rattle.query_print.proofs.query.put_where.Goals as goal

pub returns : goal.returns
returns c =
    last_more c.put_group.result c.args.out.now c.put_group.new.out (codes "WHERE" ∷ []) (group_words c.args.patterns.now)
    (put_one c.args.out.now (codes "WHERE") where_word c.in_ok-put_word.ensures) c.put_group.ensures
