use Rattle.reply_reading.proofs.reading.read_reply.Goals as goal

pub returns-clause-exact : goal.returns-clause-exact
returns-clause-exact c = λ other h f g. c.one_reading.ensures c.args.call.now c.args.response.now c.got_of.result other c.got_of.ensures h f g
