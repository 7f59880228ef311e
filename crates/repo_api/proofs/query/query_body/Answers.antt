use Rattle.std.proofs.Common.{rules, ◌≡◌}
use Rattle.repo_api.specs.Content.{is_query_text, type_of}
use Rattle.repo_api.proofs.ContentLemmas.{body_is, body_is_none}
use Rattle.repo_api.proofs.query.query_body.Goals as goal

pub returns-in-Ok : goal.returns-in-Ok
returns-in-Ok c =
    let q : c.is_query_text.result ≡ is_query_text (type_of c.args.request.now.head.fields) = search rules in
    let same : c.as_slice-body.result.now ≡ c.args.request.now.body = search rules in
    body_is c.args.request.now c.is_query_text.result c.in-Ok.text.now c.as_slice-body.result.now q c.if-not-is_query_text.false c.if-is_empty.ensures same
    c.in-Ok.ensures.cases.0 c.in-Ok.ensures.cases.1

pub returns-in-Err : goal.returns-in-Err
returns-in-Err c =
    let same : c.as_slice-body.result.now ≡ c.args.request.now.body = search rules in
    body_is_none c.args.request.now c.as_slice-body.result.now same c.in-Err.ensures.cases.0
