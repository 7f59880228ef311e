use Rattle.std.proofs.Common.{◌∙◌}
use Rattle.api_requests.proofs.WriteLemmas.{front_is, removed_by_front}
use Rattle.api_requests.proofs.writes.removes_by.Goals as goal

pub removes-requires : goal.removes-requires
removes-requires c =
    front_is c.args.first.now c.args.rest.now c.args.changes.now c.front_of-front.result.now c.front_of-more.result.now c.requires c.front_of-front.ensures c.front_of-more.ensures

pub returns : goal.returns
returns c =
    c.removes.ensures
    ∙ removed_by_front c.args.first.now c.args.rest.now c.args.changes.now c.front_of-front.result.now c.front_of-more.result.now c.back_of-back.result.now c.requires c.front_of-front.ensures
    c.front_of-more.ensures c.back_of-back.ensures
