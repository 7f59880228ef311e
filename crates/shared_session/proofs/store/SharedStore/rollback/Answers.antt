use Rattle.std.proofs.Common.{◌≡◌, Ok, Err, refl, arith}
use Rattle.journal.specs.declared.fault.StoreFault.{StoreFault}
use Rattle.journal.specs.declared.op.Op.TheVariants.{Rollback}
use Rattle.shared_session.proofs.HouseLemmas.{called_in, one_of, pass_at, same_count}
use Rattle.shared_session.proofs.store.SharedStore.rollback.Goals as goal

pub index_mut-requires : goal.index_mut-requires
index_mut-requires g c =
    let house = c.args.self.now.house.now in
    omega (arith, c.requires.repo, c.args.pass.now.list.ok.0, c.repo.ensures.count, same_count house.repos c.args.pass.now.list.items c.requires.serves)

pub rollback-requires : goal.rollback-requires
rollback-requires g c =
    let house = c.args.self.now.house.now in
    let at = pass_at house.names house.repos c.args.pass.now.list.items c.args.repo c.index_mut.result.now c.requires.serves c.repo.ensures.count c.requires.repo c.index_mut.ensures.value in
    record { pass = one_of house.repos c.args.pass.now.list.items c.args.repo c.repo.result.now c.index_mut.result.now c.requires.serves c.repo.ensures.repo at }

pub returns-in-Ok-clause-pass : goal.returns-in-Ok-clause-pass
returns-in-Ok-clause-pass g c =
    let house = c.args.self.now.house.now in
    let at = pass_at house.names house.repos c.args.pass.now.list.items c.args.repo c.index_mut.result.now c.requires.serves c.repo.ensures.count c.requires.repo c.index_mut.ensures.value in
    let kept = (called_in house.limits house.repos c.args.pass.now.list.items c.args.repo c.repo.result.now c.index_mut.result.now c.rollback.new.pass (Rollback c.args.txn) (Ok c.in-Ok.made)
    c.requires.serves c.repo.ensures.repo at c.repo.ensures.limits c.rollback.ensures.pass c.rollback.ensures.seat c.in-Ok.ensures.entered c.in-Ok.ensures.reply tt tt).kept in (kept.are, kept.same)

pub returns-in-Ok-clause-made : goal.returns-in-Ok-clause-made
returns-in-Ok-clause-made g c =
    let house = c.args.self.now.house.now in
    let at = pass_at house.names house.repos c.args.pass.now.list.items c.args.repo c.index_mut.result.now c.requires.serves c.repo.ensures.count c.requires.repo c.index_mut.ensures.value in
    (called_in house.limits house.repos c.args.pass.now.list.items c.args.repo c.repo.result.now c.index_mut.result.now c.rollback.new.pass (Rollback c.args.txn) (Ok c.in-Ok.made)
    c.requires.serves c.repo.ensures.repo at c.repo.ensures.limits c.rollback.ensures.pass c.rollback.ensures.seat c.in-Ok.ensures.entered c.in-Ok.ensures.reply tt tt).made

pub returns-in-Err-clause-pass : goal.returns-in-Err-clause-pass
returns-in-Err-clause-pass g c =
    let house = c.args.self.now.house.now in
    let at = pass_at house.names house.repos c.args.pass.now.list.items c.args.repo c.index_mut.result.now c.requires.serves c.repo.ensures.count c.requires.repo c.index_mut.ensures.value in
    let kept = (called_in house.limits house.repos c.args.pass.now.list.items c.args.repo c.repo.result.now c.index_mut.result.now c.rollback.new.pass (Rollback c.args.txn) (Err StoreFault.JournalFull)
    c.requires.serves c.repo.ensures.repo at c.repo.ensures.limits c.rollback.ensures.pass c.rollback.ensures.seat tt tt c.in-Err.ensures.fault (λ e. c.in-Err.ensures.full, λ h. refl)).kept in (kept.are, kept.same)

pub returns-in-Err-clause-fault : goal.returns-in-Err-clause-fault
returns-in-Err-clause-fault g c =
    let house = c.args.self.now.house.now in
    let at = pass_at house.names house.repos c.args.pass.now.list.items c.args.repo c.index_mut.result.now c.requires.serves c.repo.ensures.count c.requires.repo c.index_mut.ensures.value in
    (called_in house.limits house.repos c.args.pass.now.list.items c.args.repo c.repo.result.now c.index_mut.result.now c.rollback.new.pass (Rollback c.args.txn) (Err StoreFault.JournalFull)
    c.requires.serves c.repo.ensures.repo at c.repo.ensures.limits c.rollback.ensures.pass c.rollback.ensures.seat tt tt c.in-Err.ensures.fault (λ e. c.in-Err.ensures.full, λ h. refl)).fault
