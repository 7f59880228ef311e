use Rattle.std.proofs.Common.{refl, arith}
use Rattle.journal.specs.declared.op.Op.TheVariants.{Rollback}
use Rattle.session.proofs.HouseLemmas.{at_index, called_in, same_count}
use Rattle.session.proofs.local.CatalogStore.rollback.Goals as goal

pub index_mut-requires : goal.index_mut-requires
index_mut-requires c =
    omega (arith, c.requires.repo, c.args.pass.now.ok.0, same_count c.args.self.now.limits c.args.self.now.names c.args.pass.now.items c.requires.serves)

pub returns-clause-pass : goal.returns-clause-pass
returns-clause-pass c =
    let at = at_index c.args.pass.now.items c.args.repo c.index_mut.result.now
    (omega (arith, c.requires.repo, same_count c.args.self.now.limits c.args.self.now.names c.args.pass.now.items c.requires.serves)) c.index_mut.ensures.value in (
      (called_in c.args.self.now.limits c.args.self.now.names c.args.pass.now.items c.args.repo c.index_mut.result.now c.rollback.new.self (Rollback c.args.txn) c.rollback.result
          c.requires.serves at c.rollback.ensures.entered c.rollback.ensures.fault c.rollback.ensures.full c.rollback.ensures.room).are,
      refl,
    )

pub returns-clause-made : goal.returns-clause-made
returns-clause-made c =
    let at = at_index c.args.pass.now.items c.args.repo c.index_mut.result.now
    (omega (arith, c.requires.repo, same_count c.args.self.now.limits c.args.self.now.names c.args.pass.now.items c.requires.serves)) c.index_mut.ensures.value in
    (called_in c.args.self.now.limits c.args.self.now.names c.args.pass.now.items c.args.repo c.index_mut.result.now c.rollback.new.self (Rollback c.args.txn) c.rollback.result
    c.requires.serves at c.rollback.ensures.entered c.rollback.ensures.fault c.rollback.ensures.full c.rollback.ensures.room).made

pub returns-clause-fault : goal.returns-clause-fault
returns-clause-fault c =
    let at = at_index c.args.pass.now.items c.args.repo c.index_mut.result.now
    (omega (arith, c.requires.repo, same_count c.args.self.now.limits c.args.self.now.names c.args.pass.now.items c.requires.serves)) c.index_mut.ensures.value in
    (called_in c.args.self.now.limits c.args.self.now.names c.args.pass.now.items c.args.repo c.index_mut.result.now c.rollback.new.self (Rollback c.args.txn) c.rollback.result
    c.requires.serves at c.rollback.ensures.entered c.rollback.ensures.fault c.rollback.ensures.full c.rollback.ensures.room).fault
