use Rattle.std.proofs.Common.{◌≡◌, ◌∷◌, length, rules, arith}
use Rattle.rdf_server.proofs.WorkerLemmas.{finished_told}
use Rattle.rdf_server.proofs.work_end.has_finished.Goals as goal

pub returns : goal.returns
returns c =
    let e : c.args.end.now.reports.items ≡ c.in-Some.report.now ∷ c.in-Some.others.now = search rules in
    let alone : length c.in-Some.others.now ≡ 0 = search (rules, arith) in
    finished_told c.args.end.now c.in-Some.report.now c.in-Some.others.now c.is_done.result e alone c.is_done.ensures
