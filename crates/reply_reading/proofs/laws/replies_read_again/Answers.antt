use Rattle.reply_reading.proofs.AgainLemmas.{replies_again}
use Rattle.reply_reading.proofs.laws.replies_read_again.Goals as goal

pub returns : goal.returns
returns c = replies_again (record {
  documents = c.documents_read_again.ensures;
  tables = c.tables_read_again.ensures;
  truths = c.truths_read_again.ensures;
})
