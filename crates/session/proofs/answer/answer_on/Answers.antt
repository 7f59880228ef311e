use Rattle.std.proofs.Common.{sym}
use Rattle.session.specs.Turns.{ground}
use Rattle.session.proofs.AnswerLemmas.{answers_on, fits_entered, number_is}
use Rattle.session.proofs.answer.answer_on.Goals as goal

pub finish-outcome-requires-clause-fits : goal.finish-outcome-requires-clause-fits
finish-outcome-requires-clause-fits g c =
    let on = c.requires.on in
    let x = c.enter-entered.ensures.entered c.args.id.now on.0 in
    let names = g.T.Store.names c.args.store.now in
    let to = ground names (g.T.Store.limits c.args.store.now) (g.T.Store.journals c.enter-entered.new.pass) (g.T.Store.seats c.args.pass.now) in
    fits_entered c.last_reply_fits.ensures to c.in-Some.number c.args.call.now x.places c.enter-entered.result c.names_of-names.ensures.places (rw on.1 x.entered)

pub returns-clause-answer : goal.returns-clause-answer
returns-clause-answer g c = λ r here call.
    let on = c.requires.on in
    let x = c.enter-entered.ensures.entered c.args.id.now on.0 in
    let names = g.T.Store.names c.args.store.now in
    let to = ground names (g.T.Store.limits c.args.store.now) (g.T.Store.journals c.enter-entered.new.pass) (g.T.Store.seats c.args.pass.now) in
    answers_on to (g.T.Store.journals c.args.pass.now) r c.args.head.now c.in-Some.number c.args.id.now c.args.op.now on.0 c.args.call.now c.args.marks.now.items c.enter-entered.new.marks.items
    c.enter-entered.result c.finish-outcome.result.0 c.finish-outcome.result.1 on.1
    (number_is names c.args.id.now c.in-Some.number (rw c.names_of-names.ensures.names at (sym c.in-Some.ensures.value))) here call x
    (rw c.names_of-names.ensures.names at c.finish-outcome.ensures)
