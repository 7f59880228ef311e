use Rattle.std.proofs.Common.{[], subst}
use Rattle.nquads.specs.State.{Feeds}
use Rattle.nquads.proofs.FeedLemmas.{stands_new, unless, valid_more, valid_all}
use Rattle.nquads.proofs.DocumentLemmas.{document_ok, rest_bad, piece_bad}
use Rattle.nquads.proofs.reader.read_document.Goals as goal

pub returns-in-Err-clause-refused : goal.returns-in-Err-clause-refused
returns-in-Err-clause-refused c =
    let kind = c.args.kind in
    unless c.in-Err.fault _ _ (λ l. piece_bad kind c.args.bytes.now c.in-Err.fault c.new-out.result c.feed.new.out
    (l kind [] (stands_new kind c.in-Ok.reader c.in-Ok.ensures))) c.in-Err.ensures.refused

pub returns-in-Ok-finish-clause-ok : goal.returns-in-Ok-finish-clause-ok
returns-in-Ok-finish-clause-ok c =
    let kind = c.args.kind in
    let f = c.in_default-feed.ensures.ok kind [] (stands_new kind c.in-Ok.reader c.in-Ok.ensures) in
    let f' = subst (λ v. Feeds kind [] c.args.bytes.now c.feed.new.self v c.feed.new.out) c.new-out.ensures f in
    document_ok kind c.args.bytes.now c.feed.new.self c.feed.new.out c.finish.new.out f' (c.in-Ok-finish.ensures.ok kind c.args.bytes.now f'.stands)

pub returns-in-Ok-finish-clause-valid : goal.returns-in-Ok-finish-clause-valid
returns-in-Ok-finish-clause-valid c =
    valid_all c.new-out.result c.finish.new.out c.new-out.ensures
    (valid_more c.new-out.result c.feed.new.out c.finish.new.out c.feed.ensures.valid c.finish.ensures.valid)

pub returns-clause-refused : goal.returns-clause-refused
returns-clause-refused c =
    let kind = c.args.kind in
    let f = c.in_default-feed.ensures.ok kind [] (stands_new kind c.in-Ok.reader c.in-Ok.ensures) in
    let f' = subst (λ v. Feeds kind [] c.args.bytes.now c.feed.new.self v c.feed.new.out) c.new-out.ensures f in
    unless c.in-Err-finish.fault _ _ (λ l. rest_bad kind c.args.bytes.now c.in-Err-finish.fault c.feed.new.self [] c.feed.new.out f'
    (l kind c.args.bytes.now f'.stands)) c.in-Err-finish.ensures.refused
