use Rattle.std.proofs.Common.{sym}
use Rattle.api_replies.specs.declared.short.Short.TheVariants.{JournalFull as ShortFull, OutOfMemory}
use Rattle.session.specs.declared.answer.Written.TheVariants.{Short}
use Rattle.session.specs.declared.enter.Entered.TheVariants.{Replied, Pinned, Full, NoMemory}
use Rattle.session.specs.declared.report.Outcome.TheVariants.{Answered, JournalFull, NoMemory as OutcomeNoMemory}
use Rattle.session.proofs.AnswerLemmas.{asked_by, finishes_on, finishes_of, fits_on, full_finishes, none_finishes, pinned_whole, replied_short, replied_whole}
use Rattle.session.proofs.answer.finish.Goals as goal

pub returns-in-Some : goal.returns-in-Some
returns-in-Some c =
    let on = c.requires.on in
    finishes_of c.args.head.now c.args.names.now c.args.call.now c.args.entered (Replied c.in-Replied.reply) Answered (Short c.in-Some.short) c.in-Replied.is
    (finishes_on c.args.head.now c.args.names.now c.args.call.now c.args.op.now (Replied c.in-Replied.reply) Answered (Short c.in-Some.short) on
    (replied_short c.short_is_response.ensures c.args.head.now c.args.names.now on.0 c.args.op.now on.1 c.in-Replied.reply c.in-Some.short (sym c.in-Some.ensures)))

pub returns-in-Replied : goal.returns-in-Replied
returns-in-Replied c =
    let on = c.requires.on in
    let fits = rw c.in-Replied.is at c.requires.fits in
    finishes_of c.args.head.now c.args.names.now c.args.call.now c.args.entered (Replied c.in-Replied.reply) c.whole.result.0 c.whole.result.1 c.in-Replied.is
    (finishes_on c.args.head.now c.args.names.now c.args.call.now c.args.op.now (Replied c.in-Replied.reply) c.whole.result.0 c.whole.result.1 on
    (replied_whole c.args.head.now c.args.names.now on.0 c.args.op.now on.1 c.in-Replied.reply c.reply_text.result c.whole.result.0 c.whole.result.1
    (c.others_take_memory.ensures c.args.op.now c.in-Replied.reply (fits_on c.args.call.now c.args.op.now c.in-Replied.reply on fits) (sym c.in-None.ensures))
    (rw on.2 at c.reply_text.ensures) c.whole.ensures))

pub returns-in-Some-ask_of : goal.returns-in-Some-ask_of
returns-in-Some-ask_of c =
    let on = c.requires.on in
    finishes_of c.args.head.now c.args.names.now c.args.call.now c.args.entered (Pinned c.in-Pinned.pinned) c.whole-in-Some-ask_of.result.0 c.whole-in-Some-ask_of.result.1 c.in-Pinned.is
    (finishes_on c.args.head.now c.args.names.now c.args.call.now c.args.op.now (Pinned c.in-Pinned.pinned) c.whole-in-Some-ask_of.result.0 c.whole-in-Some-ask_of.result.1 on
    (pinned_whole c.args.head.now c.args.names.now on.0 c.args.op.now on.1 c.in-Pinned.pinned c.in-Some-ask_of.ask.now c.pinned_text.result c.whole-in-Some-ask_of.result.0 c.whole-in-Some-ask_of.result.1
    (asked_by c.args.op.now c.in-Some-ask_of.ask.now (sym c.in-Some-ask_of.ensures)) (rw on.2 at c.pinned_text.ensures) c.whole-in-Some-ask_of.ensures))

pub returns-in-Full : goal.returns-in-Full
returns-in-Full c =
    let on = c.requires.on in
    finishes_of c.args.head.now c.args.names.now c.args.call.now c.args.entered Full JournalFull (Short ShortFull) c.in-Full.is
    (finishes_on c.args.head.now c.args.names.now c.args.call.now c.args.op.now Full JournalFull (Short ShortFull) on
    (full_finishes c.args.head.now c.args.names.now on.0 c.args.op.now on.1))

pub returns : goal.returns
returns c =
    let on = c.requires.on in
    finishes_of c.args.head.now c.args.names.now c.args.call.now c.args.entered NoMemory OutcomeNoMemory (Short OutOfMemory) c.in-NoMemory.is
    (finishes_on c.args.head.now c.args.names.now c.args.call.now c.args.op.now NoMemory OutcomeNoMemory (Short OutOfMemory) on
    (none_finishes c.args.head.now c.args.names.now on.0 c.args.op.now on.1))
