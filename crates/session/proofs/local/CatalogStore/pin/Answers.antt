use Rattle.std.proofs.Common.{refl, arith}
use Rattle.journal.specs.declared.op.Op.TheVariants.{Read}
use Rattle.session.proofs.HouseLemmas.{at_index, reads_in, same_count}
use Rattle.session.proofs.local.CatalogStore.pin.Goals as goal

pub index_mut-requires : goal.index_mut-requires
index_mut-requires c =
    omega (arith, c.requires.repo, c.args.pass.now.ok.0, same_count c.args.self.now.limits c.args.self.now.names c.args.pass.now.items c.requires.serves)

pub returns-clause-pass : goal.returns-clause-pass
returns-clause-pass c =
    let at = at_index c.args.pass.now.items c.args.repo c.index_mut.result.now
    (omega (arith, c.requires.repo, same_count c.args.self.now.limits c.args.self.now.names c.args.pass.now.items c.requires.serves)) c.index_mut.ensures.value in (
      (reads_in c.args.self.now.limits c.args.self.now.names c.args.pass.now.items c.args.repo c.index_mut.result.now c.pin.new.self (Read c.args.txn c.args.ask.now) c.args.ask.now c.pin.result
          c.requires.serves at c.pin.ensures.place c.pin.ensures.journal c.pin.ensures.answer c.pin.ensures.fault c.pin.ensures.full c.pin.ensures.room).are,
      refl,
    )

pub returns-clause-made : goal.returns-clause-made
returns-clause-made c =
    let at = at_index c.args.pass.now.items c.args.repo c.index_mut.result.now
    (omega (arith, c.requires.repo, same_count c.args.self.now.limits c.args.self.now.names c.args.pass.now.items c.requires.serves)) c.index_mut.ensures.value in
    (reads_in c.args.self.now.limits c.args.self.now.names c.args.pass.now.items c.args.repo c.index_mut.result.now c.pin.new.self (Read c.args.txn c.args.ask.now) c.args.ask.now c.pin.result
    c.requires.serves at c.pin.ensures.place c.pin.ensures.journal c.pin.ensures.answer c.pin.ensures.fault c.pin.ensures.full c.pin.ensures.room).made

pub returns-clause-fault : goal.returns-clause-fault
returns-clause-fault c =
    let at = at_index c.args.pass.now.items c.args.repo c.index_mut.result.now
    (omega (arith, c.requires.repo, same_count c.args.self.now.limits c.args.self.now.names c.args.pass.now.items c.requires.serves)) c.index_mut.ensures.value in
    (reads_in c.args.self.now.limits c.args.self.now.names c.args.pass.now.items c.args.repo c.index_mut.result.now c.pin.new.self (Read c.args.txn c.args.ask.now) c.args.ask.now c.pin.result
    c.requires.serves at c.pin.ensures.place c.pin.ensures.journal c.pin.ensures.answer c.pin.ensures.fault c.pin.ensures.full c.pin.ensures.room).fault
