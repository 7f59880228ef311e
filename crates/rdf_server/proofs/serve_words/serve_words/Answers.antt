use Rattle.rdf_server.proofs.ServeParts.{no_plan}
use Rattle.rdf_server.proofs.serve_words.serve_words.Goals as goal

pub returns-in-None-clause-none : goal.returns-in-None-clause-none
returns-in-None-clause-none c =
    let r = c.in-Some-read_options.ensures.some in
    no_plan c.args.words.now c.in-Some.behind.now c.in-Some.command.now r.0 c.in-Some-read_options.ids.now c.in-Some-read_options.named c.in-Some.ensures.cases.0 r.1 r.3 c.in-None.ensures.none
