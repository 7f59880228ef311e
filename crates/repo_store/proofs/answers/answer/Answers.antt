use Rattle.std.proofs.Common.{◌≡◌, map, rules, true}
use Rattle.branch.specs.Layers.{Layered}
use Rattle.repo_store.proofs.PinnedLemmas.{found_is_live, too_many_live}
use Rattle.repo_store.proofs.answers.answer.Goals as goal

pub returns-clause-too_many : goal.returns-clause-too_many
returns-clause-too_many c =
    let live : c.args.pinned.now.live ≡ true = search rules in
    too_many_live c.args.pinned.now c.args.ask.now c.in_ok-reply.reply (map (λ (view : Layered). view.quads) c.views-seen.result.now) c.rows-most.result live
    c.views-seen.ensures c.rows-most.ensures c.in_ok-reply.ensures

pub returns-clause-gone : goal.returns-clause-gone
returns-clause-gone c =
    let live : c.args.pinned.now.live ≡ true = search rules in
    found_is_live c.args.ask.now (map (λ (view : Layered). view.quads) c.views-seen.result.now) c.rows-most.result c.in_ok-reply.reply c.args.pinned.now.live live c.in_ok-reply.ensures
