use Rattle.reply_reading.proofs.ListLemmas.{same_text}
use Rattle.reply_reading.proofs.lists.is_named.Goals as goal

pub returns : goal.returns
returns c = same_text c.args.name.now c.args.wanted.now c.as_str.result.now c.eq.result c.requires c.as_str.ensures c.eq.ensures
