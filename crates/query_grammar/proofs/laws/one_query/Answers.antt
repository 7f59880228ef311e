use Rattle.std.proofs.Common.{subst, List, length}
use Rattle.std.specs.Str.{chars}
use Rattle.query_tokens.specs.declared.token.Placed.{Placed}
use Rattle.query_grammar.specs.Queries.{IsQuery}
use Rattle.query_grammar.specs.Answers.{tokens_of}
use Rattle.query_grammar.proofs.ParseLaws.{one_query}
use Rattle.query_grammar.proofs.laws.one_query.Goals as goal

pub returns : goal.returns
returns c = λ text q r v w.
    one_query (tokens_of v.tokens) q r v.query
    (subst (λ (ps : List Placed). IsQuery (tokens_of ps) r) (c.one_token_list.ensures (length text) (chars text) w.tokens v.tokens w.are v.are) w.query)
