use Rattle.repo_api.proofs.ContentLemmas.{no_type, type_is}
use Rattle.std.proofs.Common.{arith}
use Rattle.repo_api.proofs.content.type_of.Goals as goal

pub returns-in-None : goal.returns-in-None
returns-in-None c = no_type c.args.fields.now c.as_slice-fields.result.now c.as_slice-fields.ensures c.in-None.ensures

pub returns-in-Some : goal.returns-in-Some
returns-in-Some c =
    type_is c.args.fields.now c.as_slice-fields.result.now c.in-Some.field.now c.media_type.result.now c.as_slice.result.now c.as_slice-fields.ensures c.in-Some.ensures
    (omega (arith, c.count_named.ensures.values)) c.media_type.ensures c.as_slice.ensures
