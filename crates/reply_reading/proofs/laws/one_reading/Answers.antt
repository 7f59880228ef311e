use Rattle.reply_reading.proofs.OneLemmas.{one_reading}
use Rattle.reply_reading.proofs.laws.one_reading.Goals as goal

pub returns : goal.returns
returns c = one_reading (record {
  names = c.one_transaction.ensures;
  documents = c.one_reading.ensures;
  lines = c.one_first_bad_line.ensures;
  not_both = c.is_refused_or_read.ensures.not_both;
  tables = c.one_table_reading.ensures;
  truths = c.one_truth_reading.ensures;
})
