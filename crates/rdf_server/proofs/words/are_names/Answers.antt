use Rattle.std.proofs.Common.{◌≤◌, length, rules}
use Rattle.rdf_server.proofs.WordLemmas.{names_told}
use Rattle.rdf_server.proofs.words.are_names.Goals as goal

pub returns-then-words-le16 : goal.returns-then-words-le16
returns-then-words-le16 c =
    let some : 1 ≤ length c.args.words.now = search rules in
    let few : length c.args.words.now ≤ 16 = search rules in
    names_told c.args.words.now c.are_ids.result some few c.are_ids.ensures
