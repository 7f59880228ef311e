use Rattle.std.proofs.Common.{◌≡◌, refl, arith}
use Rattle.journal.specs.declared.op.Op.TheVariants.{Begin}
use Rattle.shared_session.proofs.HouseLemmas.{called_in, one_of, pass_at, same_count}
use Rattle.shared_session.proofs.store.SharedStore.begin.Goals as goal

pub index_mut-requires : goal.index_mut-requires
index_mut-requires g c =
    let house = c.args.self.now.house.now in
    omega (arith, c.requires.repo, c.args.pass.now.list.ok.0, c.repo.ensures.count, same_count house.repos c.args.pass.now.list.items c.requires.serves)

pub begin-requires : goal.begin-requires
begin-requires g c =
    let house = c.args.self.now.house.now in
    let at = pass_at house.names house.repos c.args.pass.now.list.items c.args.repo c.index_mut.result.now c.requires.serves c.repo.ensures.count c.requires.repo c.index_mut.ensures.value in
    one_of house.repos c.args.pass.now.list.items c.args.repo c.repo.result.now c.index_mut.result.now c.requires.serves c.repo.ensures.repo at

pub returns-clause-pass : goal.returns-clause-pass
returns-clause-pass g c =
    let house = c.args.self.now.house.now in
    let at = pass_at house.names house.repos c.args.pass.now.list.items c.args.repo c.index_mut.result.now c.requires.serves c.repo.ensures.count c.requires.repo c.index_mut.ensures.value in
    let kept = (called_in house.limits house.repos c.args.pass.now.list.items c.args.repo c.repo.result.now c.index_mut.result.now c.begin.new.pass (Begin c.args.level) c.begin.result
    c.requires.serves c.repo.ensures.repo at c.repo.ensures.limits c.begin.ensures.pass c.begin.ensures.seat c.begin.ensures.entered c.begin.ensures.reply c.begin.ensures.fault
    c.begin.ensures.full).kept in (kept.are, kept.same)

pub returns-clause-made : goal.returns-clause-made
returns-clause-made g c =
    let house = c.args.self.now.house.now in
    let at = pass_at house.names house.repos c.args.pass.now.list.items c.args.repo c.index_mut.result.now c.requires.serves c.repo.ensures.count c.requires.repo c.index_mut.ensures.value in
    (called_in house.limits house.repos c.args.pass.now.list.items c.args.repo c.repo.result.now c.index_mut.result.now c.begin.new.pass (Begin c.args.level) c.begin.result
    c.requires.serves c.repo.ensures.repo at c.repo.ensures.limits c.begin.ensures.pass c.begin.ensures.seat c.begin.ensures.entered c.begin.ensures.reply c.begin.ensures.fault
    c.begin.ensures.full).made

pub returns-clause-fault : goal.returns-clause-fault
returns-clause-fault g c =
    let house = c.args.self.now.house.now in
    let at = pass_at house.names house.repos c.args.pass.now.list.items c.args.repo c.index_mut.result.now c.requires.serves c.repo.ensures.count c.requires.repo c.index_mut.ensures.value in
    (called_in house.limits house.repos c.args.pass.now.list.items c.args.repo c.repo.result.now c.index_mut.result.now c.begin.new.pass (Begin c.args.level) c.begin.result
    c.requires.serves c.repo.ensures.repo at c.repo.ensures.limits c.begin.ensures.pass c.begin.ensures.seat c.begin.ensures.entered c.begin.ensures.reply c.begin.ensures.fault
    c.begin.ensures.full).fault
