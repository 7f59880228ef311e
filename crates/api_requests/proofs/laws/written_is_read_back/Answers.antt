use Rattle.query_print.proofs.Scalars.{printed_scalars}
use Rattle.api_requests.proofs.ReadBack.{written_is_read_back}
use Rattle.api_requests.proofs.laws.written_is_read_back.Goals as goal

pub returns : goal.returns
returns c =
    written_is_read_back (record {
      terms = c.terms_read_again.ensures;
      documents = c.documents_read_again.ensures;
      queries = c.printed_queries_are_read_again.ensures;
      scalars = printed_scalars;
    })
