use Rattle.session.proofs.AlikeLemmas.{undisturbed_sessions_are_alike}
use Rattle.session.proofs.laws.undisturbed_sessions_are_alike.Goals as goal

pub returns : goal.returns
returns c = undisturbed_sessions_are_alike c.frames_are_determined.ensures.one_frame c.one_call.ensures c.reply_reads_no_later_entry.ensures
