use Rattle.std.proofs.Common.{[], ◌∷◌, ◌++◌, ap}
use Rattle.std.specs.List.{flat_map}
use Rattle.std.specs.Str.{chars}
use Rattle.rdf_term.specs.Canonical.{escaped}
use Rattle.query_print.proofs.PutLemmas.{both_put, put_last}
use Rattle.query_print.proofs.WordLemmas.{text_chars}
use Rattle.query_print.proofs.term.put_quoted.Goals as goal

pub returns : goal.returns
returns c =
    let old = c.args.out.now in
    let body = flat_map escaped (chars c.as_str.result.now) in
    put_last c.push-2.result old c.push-2.new.self (34 ∷ body) (34 ∷ []) (both_put old (34 ∷ []) body c.in_ok-push.ensures.ok c.in_ok-put_escaped.ensures)
    (ap (λ v. (34 ∷ flat_map escaped v) ++ 34 ∷ []) (text_chars c.args.text.now c.as_str.result.now c.as_str.utf8 c.as_str.ensures)) c.push-2.ensures.ok
