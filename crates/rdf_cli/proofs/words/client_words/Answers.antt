use Rattle.std.proofs.Common.{rules, ◌≡◌, ◌∙◌, map}
use Rattle.clap.specs.Words.{app_of, found_of, rows_of, subcommand_of, subcommand_rows_of}
use Rattle.rdf_cli.proofs.WordLemmas.{taken}
use Rattle.rdf_cli.proofs.words.client_words.Goals as goal

pub returns-in-Ok-clause-value : goal.returns-in-Ok-clause-value
returns-in-Ok-clause-value c =
    let app = app_of c.in_ok-command.field-0 in
    let line = map (λ s. s.now) c.as_slice.result.now in
    c.if_right.ensures.value
    ∙ taken app line c.args.words.now (rows_of (found_of c.in-Ok.matches)) (subcommand_rows_of c.in-Ok.matches ≡ subcommand_of app line) c.in_ok-server-in-Ok.server
    c.in_ok-value-in-Ok.field-0 c.in_ok-command.ensures (search rules) c.in-Ok.ensures.kinds c.in-Ok.ensures.matches c.in_ok-server-in-Ok.ensures c.in_ok-value-in-Ok.ensures
