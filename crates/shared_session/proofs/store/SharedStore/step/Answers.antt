use Rattle.std.proofs.Common.{◌≡◌, refl, arith}
use Rattle.shared_session.proofs.HouseLemmas.{one_of, pass_at, same_count, step_next, steps_in}
use Rattle.shared_session.proofs.store.SharedStore.step.Goals as goal

pub index_mut-requires : goal.index_mut-requires
index_mut-requires g c =
    let house = c.args.self.now.house.now in
    omega (arith, c.requires.repo, c.args.pass.now.list.ok.0, c.repo.ensures.count, same_count house.repos c.args.pass.now.list.items c.requires.serves)

pub step-requires-clause-pass : goal.step-requires-clause-pass
step-requires-clause-pass g c =
    let house = c.args.self.now.house.now in
    let at = pass_at house.names house.repos c.args.pass.now.list.items c.args.repo c.index_mut.result.now c.requires.serves c.repo.ensures.count c.requires.repo c.index_mut.ensures.value in
    one_of house.repos c.args.pass.now.list.items c.args.repo c.repo.result.now c.index_mut.result.now c.requires.serves c.repo.ensures.repo at

pub step-requires-clause-next : goal.step-requires-clause-next
step-requires-clause-next g c =
    let house = c.args.self.now.house.now in
    let at = pass_at house.names house.repos c.args.pass.now.list.items c.args.repo c.index_mut.result.now c.requires.serves c.repo.ensures.count c.requires.repo c.index_mut.ensures.value in
    let is = one_of house.repos c.args.pass.now.list.items c.args.repo c.repo.result.now c.index_mut.result.now c.requires.serves c.repo.ensures.repo at in
    step_next c.first_step_is_next.ensures c.args.pass.now.list.items c.args.repo c.repo.result.now c.index_mut.result.now c.args.txn c.args.query.now c.args.number c.args.pinned.now at is
    c.requires.level c.requires.first c.requires.later

pub returns-clause-pass : goal.returns-clause-pass
returns-clause-pass g c =
    let house = c.args.self.now.house.now in
    let at = pass_at house.names house.repos c.args.pass.now.list.items c.args.repo c.index_mut.result.now c.requires.serves c.repo.ensures.count c.requires.repo c.index_mut.ensures.value in
    let kept = (steps_in house.limits house.repos c.args.pass.now.list.items c.args.repo c.repo.result.now c.index_mut.result.now c.step.new.pass c.args.txn c.args.query.now c.args.number
    c.step.new.pinned c.step.result c.requires.serves c.repo.ensures.repo at c.repo.ensures.limits c.step.ensures.pass c.step.ensures.seat c.step.ensures.entered c.step.ensures.answer
    c.step.ensures.next c.step.ensures.fault c.step.ensures.full).kept in (kept.are, kept.same)

pub returns-clause-made : goal.returns-clause-made
returns-clause-made g c =
    let house = c.args.self.now.house.now in
    let at = pass_at house.names house.repos c.args.pass.now.list.items c.args.repo c.index_mut.result.now c.requires.serves c.repo.ensures.count c.requires.repo c.index_mut.ensures.value in
    (steps_in house.limits house.repos c.args.pass.now.list.items c.args.repo c.repo.result.now c.index_mut.result.now c.step.new.pass c.args.txn c.args.query.now c.args.number
    c.step.new.pinned c.step.result c.requires.serves c.repo.ensures.repo at c.repo.ensures.limits c.step.ensures.pass c.step.ensures.seat c.step.ensures.entered c.step.ensures.answer
    c.step.ensures.next c.step.ensures.fault c.step.ensures.full).made

pub returns-clause-next : goal.returns-clause-next
returns-clause-next g c =
    let house = c.args.self.now.house.now in
    let at = pass_at house.names house.repos c.args.pass.now.list.items c.args.repo c.index_mut.result.now c.requires.serves c.repo.ensures.count c.requires.repo c.index_mut.ensures.value in
    (steps_in house.limits house.repos c.args.pass.now.list.items c.args.repo c.repo.result.now c.index_mut.result.now c.step.new.pass c.args.txn c.args.query.now c.args.number
    c.step.new.pinned c.step.result c.requires.serves c.repo.ensures.repo at c.repo.ensures.limits c.step.ensures.pass c.step.ensures.seat c.step.ensures.entered c.step.ensures.answer
    c.step.ensures.next c.step.ensures.fault c.step.ensures.full).next

pub returns-clause-last : goal.returns-clause-last
returns-clause-last g c =
    let house = c.args.self.now.house.now in
    let at = pass_at house.names house.repos c.args.pass.now.list.items c.args.repo c.index_mut.result.now c.requires.serves c.repo.ensures.count c.requires.repo c.index_mut.ensures.value in
    (steps_in house.limits house.repos c.args.pass.now.list.items c.args.repo c.repo.result.now c.index_mut.result.now c.step.new.pass c.args.txn c.args.query.now c.args.number
    c.step.new.pinned c.step.result c.requires.serves c.repo.ensures.repo at c.repo.ensures.limits c.step.ensures.pass c.step.ensures.seat c.step.ensures.entered c.step.ensures.answer
    c.step.ensures.next c.step.ensures.fault c.step.ensures.full).last

pub returns-clause-fault : goal.returns-clause-fault
returns-clause-fault g c =
    let house = c.args.self.now.house.now in
    let at = pass_at house.names house.repos c.args.pass.now.list.items c.args.repo c.index_mut.result.now c.requires.serves c.repo.ensures.count c.requires.repo c.index_mut.ensures.value in
    (steps_in house.limits house.repos c.args.pass.now.list.items c.args.repo c.repo.result.now c.index_mut.result.now c.step.new.pass c.args.txn c.args.query.now c.args.number
    c.step.new.pinned c.step.result c.requires.serves c.repo.ensures.repo at c.repo.ensures.limits c.step.ensures.pass c.step.ensures.seat c.step.ensures.entered c.step.ensures.answer
    c.step.ensures.next c.step.ensures.fault c.step.ensures.full).fault
