use Rattle.repo_api.proofs.LawLemmas.{one_call}
use Rattle.repo_api.proofs.laws.one_call.Goals as goal

pub returns : goal.returns
returns c =
    one_call (record {
      selection = c.one_selection.ensures.selection;
      contexts = c.one_selection.ensures.contexts;
      first_bad = c.one_first_bad.ensures.one;
      apart = c.one_first_bad.ensures.apart;
      transaction = c.one_transaction.ensures;
      reading = c.one_reading.ensures;
      line = c.one_first_bad_line.ensures;
      not_both = c.is_refused_or_read.ensures.not_both;
      query = c.one_query.ensures;
      fault = c.one_fault.ensures;
    })
