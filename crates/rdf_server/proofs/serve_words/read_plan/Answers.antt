use Rattle.rdf_server.proofs.ServeParts.{connections_range, one_plan, port_range, workers_range}
use Rattle.rdf_server.proofs.serve_words.read_plan.Goals as goal

pub returns-in-None-clause-plan : goal.returns-in-None-clause-plan
returns-in-None-clause-plan c = λ plan orders ids it. absurd (c.in-None.ensures.none plan orders ids it)

pub returns-in-Some-clause-plan : goal.returns-in-Some-clause-plan
returns-in-Some-clause-plan c =
    let s = c.in-Some.ensures.some in
    one_plan c.args.words.now c.in-Some.field-0-1.now s.1.0 c.in-Some.field-0-2.now c.in-Some.plan s.0 s.1.1 s.1.3

pub returns-in-Some-clause-port : goal.returns-in-Some-clause-port
returns-in-Some-clause-port c =
    let s = c.in-Some.ensures.some in
    port_range s.1.0 c.in-Some.plan s.1.1.right s.1.3

pub returns-in-Some-clause-workers : goal.returns-in-Some-clause-workers
returns-in-Some-clause-workers c =
    let s = c.in-Some.ensures.some in
    workers_range s.1.0 c.in-Some.plan s.1.1.right s.1.3

pub returns-in-Some-clause-connections : goal.returns-in-Some-clause-connections
returns-in-Some-clause-connections c =
    let s = c.in-Some.ensures.some in
    connections_range s.1.0 c.in-Some.plan s.1.1.right s.1.3
