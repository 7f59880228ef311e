-- Which texts are a query, and the fault of the others.
use Rattle.std.specs.Prelude.{◌≡◌, ℕ, List, length}
use Rattle.std.specs.Str.{chars}
use Rattle.query_tokens.specs.declared.token.Placed.{Placed}
use Rattle.query_tokens.specs.Tokens.{AreTokens}
use Rattle.query_model.specs.declared.query.Query.{Query}
use Rattle.query_grammar.specs.declared.fault.Kind.{Kind}
use Rattle.query_grammar.specs.declared.fault.QueryFault.{QueryFault}
use Rattle.query_grammar.specs.declared.fault.QueryFault.TheVariants as fault
use Rattle.query_grammar.specs.Queries.{IsQuery, FirstRefused}
use Rattle.query_grammar.specs.Answers.{tokens_of, start_of, fault_at}

-- these are the tokens of the text in UTF-8
abbrev pub AreTokensOf : List ℕ → List Placed → Type 0
AreTokensOf text ps = AreTokens (length text) (chars text) ps

-- the tokens of the text are this query
pub record IsQueryText (text : List ℕ) (q : Query) : Type 0 where
  pub tokens : List Placed
  pub are : AreTokensOf text tokens
  pub query : IsQuery (tokens_of tokens) q

-- this is the fault at the first refused token of the text
pub record IsQueryFault (text : List ℕ) (e : QueryFault) : Type 0 where
  pub tokens : List Placed
  pub are : AreTokensOf text tokens
  pub number : ℕ
  pub kind : Kind
  pub refused : FirstRefused (tokens_of tokens) number kind
  pub fault : e ≡ fault_at kind (start_of tokens (length text) number)

-- memory ran out, or it is the fault of the text
abbrev pub IsFaultOf : List ℕ → QueryFault → Type 0
IsFaultOf text fault.Memory = Unit {0}
IsFaultOf text (fault.BadAt at) = IsQueryFault text (fault.BadAt at)
IsFaultOf text (fault.Unsupported at) = IsQueryFault text (fault.Unsupported at)
IsFaultOf text (fault.UnknownPrefix at) = IsQueryFault text (fault.UnknownPrefix at)

-- a text has at most one query
abbrev pub OneQuery : Type 0
OneQuery = (text : List ℕ) (q r : Query) → IsQueryText text q → IsQueryText text r → q ≡ r

-- and at most one fault
abbrev pub OneFault : Type 0
OneFault = (text : List ℕ) (e f : QueryFault) → IsQueryFault text e → IsQueryFault text f → e ≡ f
