use Rattle.std.proofs.Common.{refl, arith}
use Rattle.session.proofs.HouseLemmas.{at_index, same_count, step_next, steps_in}
use Rattle.session.proofs.local.CatalogStore.step.Goals as goal

pub index_mut-requires : goal.index_mut-requires
index_mut-requires c =
    omega (arith, c.requires.repo, c.args.pass.now.ok.0, same_count c.args.self.now.limits c.args.self.now.names c.args.pass.now.items c.requires.serves)

pub step-requires : goal.step-requires
step-requires c =
    let at = at_index c.args.pass.now.items c.args.repo c.index_mut.result.now
    (omega (arith, c.requires.repo, same_count c.args.self.now.limits c.args.self.now.names c.args.pass.now.items c.requires.serves)) c.index_mut.ensures.value in
    step_next c.first_step_is_next.ensures c.args.pass.now.items c.args.repo c.index_mut.result.now c.args.txn c.args.query.now c.args.number c.args.pinned.now at c.requires.level c.requires.first c.requires.later

pub returns-clause-pass : goal.returns-clause-pass
returns-clause-pass c =
    let at = at_index c.args.pass.now.items c.args.repo c.index_mut.result.now
    (omega (arith, c.requires.repo, same_count c.args.self.now.limits c.args.self.now.names c.args.pass.now.items c.requires.serves)) c.index_mut.ensures.value in (
      (steps_in c.args.self.now.limits c.args.self.now.names c.args.pass.now.items c.args.repo c.index_mut.result.now c.step.new.self c.args.txn c.args.query.now c.args.number c.step.new.pinned c.step.result
          c.requires.serves at c.step.ensures.place c.step.ensures.journal c.step.ensures.answer c.step.ensures.next c.step.ensures.fault c.step.ensures.full c.step.ensures.room).are,
      refl,
    )

pub returns-clause-made : goal.returns-clause-made
returns-clause-made c =
    let at = at_index c.args.pass.now.items c.args.repo c.index_mut.result.now
    (omega (arith, c.requires.repo, same_count c.args.self.now.limits c.args.self.now.names c.args.pass.now.items c.requires.serves)) c.index_mut.ensures.value in
    (steps_in c.args.self.now.limits c.args.self.now.names c.args.pass.now.items c.args.repo c.index_mut.result.now c.step.new.self c.args.txn c.args.query.now c.args.number c.step.new.pinned c.step.result
    c.requires.serves at c.step.ensures.place c.step.ensures.journal c.step.ensures.answer c.step.ensures.next c.step.ensures.fault c.step.ensures.full c.step.ensures.room).made

pub returns-clause-next : goal.returns-clause-next
returns-clause-next c =
    let at = at_index c.args.pass.now.items c.args.repo c.index_mut.result.now
    (omega (arith, c.requires.repo, same_count c.args.self.now.limits c.args.self.now.names c.args.pass.now.items c.requires.serves)) c.index_mut.ensures.value in
    (steps_in c.args.self.now.limits c.args.self.now.names c.args.pass.now.items c.args.repo c.index_mut.result.now c.step.new.self c.args.txn c.args.query.now c.args.number c.step.new.pinned c.step.result
    c.requires.serves at c.step.ensures.place c.step.ensures.journal c.step.ensures.answer c.step.ensures.next c.step.ensures.fault c.step.ensures.full c.step.ensures.room).next

pub returns-clause-last : goal.returns-clause-last
returns-clause-last c =
    let at = at_index c.args.pass.now.items c.args.repo c.index_mut.result.now
    (omega (arith, c.requires.repo, same_count c.args.self.now.limits c.args.self.now.names c.args.pass.now.items c.requires.serves)) c.index_mut.ensures.value in
    (steps_in c.args.self.now.limits c.args.self.now.names c.args.pass.now.items c.args.repo c.index_mut.result.now c.step.new.self c.args.txn c.args.query.now c.args.number c.step.new.pinned c.step.result
    c.requires.serves at c.step.ensures.place c.step.ensures.journal c.step.ensures.answer c.step.ensures.next c.step.ensures.fault c.step.ensures.full c.step.ensures.room).last

pub returns-clause-fault : goal.returns-clause-fault
returns-clause-fault c =
    let at = at_index c.args.pass.now.items c.args.repo c.index_mut.result.now
    (omega (arith, c.requires.repo, same_count c.args.self.now.limits c.args.self.now.names c.args.pass.now.items c.requires.serves)) c.index_mut.ensures.value in
    (steps_in c.args.self.now.limits c.args.self.now.names c.args.pass.now.items c.args.repo c.index_mut.result.now c.step.new.self c.args.txn c.args.query.now c.args.number c.step.new.pinned c.step.result
    c.requires.serves at c.step.ensures.place c.step.ensures.journal c.step.ensures.answer c.step.ensures.next c.step.ensures.fault c.step.ensures.full c.step.ensures.room).fault
