use Rattle.std.proofs.Common.{map, refl}
use Rattle.bgp_eval.specs.declared.search.Kept.TheVariants.{Columns}
use Rattle.bgp_eval.specs.declared.search.Wanted.{Wanted}
use Rattle.bgp_eval.proofs.AnswerLemmas.{ask-all}
use Rattle.bgp_eval.proofs.answer.ask.Goals as goal

pub returns : goal.returns
returns g c =
    let wanted : Wanted = record { kept = Columns c.new.result; most = 0 } in
    ask-all c.args.group.now (map g.V.Scan.content c.args.views.now) wanted c.args.most c.in_ok-rows.rows c.has_enough.result c.in_ok-rows.ensures refl c.has_enough.ensures
