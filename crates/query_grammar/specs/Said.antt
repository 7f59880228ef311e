-- A token of a query, and what it is there.
use Rattle.query_tokens.specs.declared.token.Token.{Token}
use Rattle.query_grammar.specs.declared.mode.Role.{Role}

pub record Said : Type 0 where
  pub role : Role
  pub token : Token
