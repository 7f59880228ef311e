use Rattle.std.proofs.Common.{rules}
use Rattle.rdf_cli.proofs.WordLemmas.{no_value, some_value}
use Rattle.rdf_cli.proofs.words.value.Goals as goal

pub returns-in-None : goal.returns-in-None
returns-in-None c = no_value c.args.matches.now c.args.name.now (search rules)

pub returns-in_ok-from_chars-in-Some : goal.returns-in_ok-from_chars-in-Some
returns-in_ok-from_chars-in-Some c =
    some_value c.args.matches.now c.args.name.now c.in-Some.value.now c.in_ok-from_chars-in-Some.field-0 (search rules) (search rules) (search rules)
