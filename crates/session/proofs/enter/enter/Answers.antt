use Rattle.std.proofs.Common.{refl}
use Rattle.journal.specs.declared.op.Op.TheVariants.{Begin, Write, Commit, Rollback, Ping, Names}
use Rattle.session.proofs.EnterLemmas.{noted_as}
use Rattle.session.proofs.enter.enter.Goals as goal

pub returns-in-Begin-clause-entered : goal.returns-in-Begin-clause-entered
returns-in-Begin-clause-entered g c = λ id form.
    noted_as (g.T.Store.names c.args.store.now) (g.T.Store.limits c.args.store.now) (g.T.Store.seats c.args.pass.now) (g.T.Store.journals c.args.pass.now) (g.T.Store.journals c.begin.new.pass)
    c.args.repo id c.args.op.now (Begin c.in-Begin.level) form c.args.marks.now.items c.noted.new.marks.items c.begin.result c.noted.result c.in-Begin.is refl c.begin.ensures.made c.begin.ensures.fault c.noted.ensures.noted

pub returns-in-Write-clause-entered : goal.returns-in-Write-clause-entered
returns-in-Write-clause-entered g c = λ id form.
    noted_as (g.T.Store.names c.args.store.now) (g.T.Store.limits c.args.store.now) (g.T.Store.seats c.args.pass.now) (g.T.Store.journals c.args.pass.now) (g.T.Store.journals c.write.new.pass)
    c.args.repo id c.args.op.now (Write c.in-Write.txn c.in-Write.changes) form c.args.marks.now.items c.noted-in-Write.new.marks.items c.write.result c.noted-in-Write.result c.in-Write.is refl c.write.ensures.made c.write.ensures.fault c.noted-in-Write.ensures.noted

pub returns-in-Commit-clause-entered : goal.returns-in-Commit-clause-entered
returns-in-Commit-clause-entered g c = λ id form.
    noted_as (g.T.Store.names c.args.store.now) (g.T.Store.limits c.args.store.now) (g.T.Store.seats c.args.pass.now) (g.T.Store.journals c.args.pass.now) (g.T.Store.journals c.commit.new.pass)
    c.args.repo id c.args.op.now (Commit c.in-Commit.txn) form c.args.marks.now.items c.noted-in-Commit.new.marks.items c.commit.result c.noted-in-Commit.result c.in-Commit.is refl c.commit.ensures.made c.commit.ensures.fault c.noted-in-Commit.ensures.noted

pub returns-in-Rollback-clause-entered : goal.returns-in-Rollback-clause-entered
returns-in-Rollback-clause-entered g c = λ id form.
    noted_as (g.T.Store.names c.args.store.now) (g.T.Store.limits c.args.store.now) (g.T.Store.seats c.args.pass.now) (g.T.Store.journals c.args.pass.now) (g.T.Store.journals c.rollback.new.pass)
    c.args.repo id c.args.op.now (Rollback c.in-Rollback.txn) form c.args.marks.now.items c.noted-in-Rollback.new.marks.items c.rollback.result c.noted-in-Rollback.result c.in-Rollback.is refl c.rollback.ensures.made c.rollback.ensures.fault c.noted-in-Rollback.ensures.noted

pub returns-in-Ping-clause-entered : goal.returns-in-Ping-clause-entered
returns-in-Ping-clause-entered g c = λ id form.
    noted_as (g.T.Store.names c.args.store.now) (g.T.Store.limits c.args.store.now) (g.T.Store.seats c.args.pass.now) (g.T.Store.journals c.args.pass.now) (g.T.Store.journals c.ping.new.pass)
    c.args.repo id c.args.op.now (Ping c.in-Ping.txn) form c.args.marks.now.items c.noted-in-Ping.new.marks.items c.ping.result c.noted-in-Ping.result c.in-Ping.is refl c.ping.ensures.made c.ping.ensures.fault c.noted-in-Ping.ensures.noted

pub returns-in-Names-clause-entered : goal.returns-in-Names-clause-entered
returns-in-Names-clause-entered g c = λ id form.
    noted_as (g.T.Store.names c.args.store.now) (g.T.Store.limits c.args.store.now) (g.T.Store.seats c.args.pass.now) (g.T.Store.journals c.args.pass.now) (g.T.Store.journals c.namespaces.new.pass)
    c.args.repo id c.args.op.now (Names c.in-Names.names) form c.args.marks.now.items c.noted-in-Names.new.marks.items c.namespaces.result c.noted-in-Names.result c.in-Names.is refl c.namespaces.ensures.made c.namespaces.ensures.fault c.noted-in-Names.ensures.noted
