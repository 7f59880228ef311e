use Rattle.std.proofs.Common.{◌≡◌, ◌∷◌, rules}
use Rattle.rdf_server.proofs.WorkerLemmas.{all_told, not_all}
use Rattle.rdf_server.proofs.work_end.+have_finished.Goals as goal

pub returns-then-has_finished : goal.returns-then-has_finished
returns-then-has_finished t c =
    let e : c.args.ends.now ≡ c.in-Some.end.now ∷ c.in-Some.others.now = search rules in
    all_told c.in-Some.end.now c.in-Some.others.now c.args.ends.now c.have_finished.result e (c.has_finished.ensures.0 c.if-has_finished.true) c.have_finished.ensures

pub returns-else-has_finished : goal.returns-else-has_finished
returns-else-has_finished t c =
    let e : c.args.ends.now ≡ c.in-Some.end.now ∷ c.in-Some.others.now = search rules in
    not_all c.in-Some.end.now c.in-Some.others.now c.args.ends.now c.has_finished.result c.if-has_finished.false e c.has_finished.ensures
