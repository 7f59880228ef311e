use Rattle.std.proofs.Common.{◌≡◌, refl, arith}
use Rattle.journal.specs.declared.op.Op.TheVariants.{Names}
use Rattle.shared_session.proofs.HouseLemmas.{called_in, one_of, pass_at, same_count}
use Rattle.shared_session.proofs.store.SharedStore.namespaces.Goals as goal

pub index_mut-requires : goal.index_mut-requires
index_mut-requires g c =
    let house = c.args.self.now.house.now in
    omega (arith, c.requires.repo, c.args.pass.now.list.ok.0, c.repo.ensures.count, same_count house.repos c.args.pass.now.list.items c.requires.serves)

pub names-requires : goal.names-requires
names-requires g c =
    let house = c.args.self.now.house.now in
    let at = pass_at house.names house.repos c.args.pass.now.list.items c.args.repo c.index_mut.result.now c.requires.serves c.repo.ensures.count c.requires.repo c.index_mut.ensures.value in
    record { pass = one_of house.repos c.args.pass.now.list.items c.args.repo c.repo.result.now c.index_mut.result.now c.requires.serves c.repo.ensures.repo at }

pub returns-clause-pass : goal.returns-clause-pass
returns-clause-pass g c =
    let house = c.args.self.now.house.now in
    let at = pass_at house.names house.repos c.args.pass.now.list.items c.args.repo c.index_mut.result.now c.requires.serves c.repo.ensures.count c.requires.repo c.index_mut.ensures.value in
    let kept = (called_in house.limits house.repos c.args.pass.now.list.items c.args.repo c.repo.result.now c.index_mut.result.now c.names.new.pass (Names c.args.asked.now) c.names.result
    c.requires.serves c.repo.ensures.repo at c.repo.ensures.limits c.names.ensures.pass c.names.ensures.seat c.names.ensures.entered c.names.ensures.reply c.names.ensures.fault
    c.names.ensures.full).kept in (kept.are, kept.same)

pub returns-clause-made : goal.returns-clause-made
returns-clause-made g c =
    let house = c.args.self.now.house.now in
    let at = pass_at house.names house.repos c.args.pass.now.list.items c.args.repo c.index_mut.result.now c.requires.serves c.repo.ensures.count c.requires.repo c.index_mut.ensures.value in
    (called_in house.limits house.repos c.args.pass.now.list.items c.args.repo c.repo.result.now c.index_mut.result.now c.names.new.pass (Names c.args.asked.now) c.names.result
    c.requires.serves c.repo.ensures.repo at c.repo.ensures.limits c.names.ensures.pass c.names.ensures.seat c.names.ensures.entered c.names.ensures.reply c.names.ensures.fault
    c.names.ensures.full).made

pub returns-clause-fault : goal.returns-clause-fault
returns-clause-fault g c =
    let house = c.args.self.now.house.now in
    let at = pass_at house.names house.repos c.args.pass.now.list.items c.args.repo c.index_mut.result.now c.requires.serves c.repo.ensures.count c.requires.repo c.index_mut.ensures.value in
    (called_in house.limits house.repos c.args.pass.now.list.items c.args.repo c.repo.result.now c.index_mut.result.now c.names.new.pass (Names c.args.asked.now) c.names.result
    c.requires.serves c.repo.ensures.repo at c.repo.ensures.limits c.names.ensures.pass c.names.ensures.seat c.names.ensures.entered c.names.ensures.reply c.names.ensures.fault
    c.names.ensures.full).fault
