use Rattle.std.proofs.Common.{◌≡◌}
use Rattle.worker_pool.specs.Served.{view_of}
use Rattle.rdf_server.specs.ServeWords.{orders_in}
use Rattle.rdf_server.proofs.ServeParts.{found_words, one_reading}
use Rattle.rdf_server.proofs.ServingLemmas.{run_for}
use Rattle.rdf_server.proofs.serve.run_serve.Goals as goal

pub returns-in-Ok-clause-words : goal.returns-in-Ok-clause-words
returns-in-Ok-clause-words g c =
    let s = c.in-Some.ensures.some in (
      λ e plan orders ids it. (cc),
      λ none. absurd (none c.in-Some.field-0-0 (orders_in s.1.0) c.in-Some.ids.now (found_words c.args.words.now c.in-Some.options.now s.1.0 c.in-Some.ids.now c.in-Some.field-0-0 s.0 s.1.1 s.1.2 s.1.3)),
    )

pub returns-in-Ok-clause-served : goal.returns-in-Ok-clause-served
returns-in-Ok-clause-served g c = λ end e plan orders ids it.
    let s = c.in-Some.ensures.some in
    let same : c.in-Ok.end ≡ end = cc in
    run_for g.D.Door.out (view_of g.D.Door.links g.D.Door.backs g.D.Door.given g.D.Door.ends g.D.Door.faults g.D.Door.broken_sources g.D.Door.broken_sinks) c.in-Some.ids.now ids
    c.args.doors.now.items c.serve_house.new.doors.items c.in-Ok.end end (one_reading c.args.words.now c.in-Some.options.now s.1.0 c.in-Some.ids.now s.0 s.1.1 plan orders ids it) same c.in-Ok.ensures.served

pub returns-in-Err-clause-words : goal.returns-in-Err-clause-words
returns-in-Err-clause-words g c =
    let s = c.in-Some.ensures.some in (
      λ e plan orders ids it. (cc),
      λ none. absurd (none c.in-Some.field-0-0 (orders_in s.1.0) c.in-Some.ids.now (found_words c.args.words.now c.in-Some.options.now s.1.0 c.in-Some.ids.now c.in-Some.field-0-0 s.0 s.1.1 s.1.2 s.1.3)),
    )
