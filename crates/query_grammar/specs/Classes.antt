-- The classes of tokens of the grammar of queries (SPARQL 1.1, section 19.8).
use Rattle.std.specs.Prelude.{Bool, true, false}
use Rattle.query_tokens.specs.declared.token.Token.{Token}
use Rattle.query_tokens.specs.declared.token.Token.TheVariants as token

-- iri ::= IRIREF | PNAME_LN | PNAME_NS
abbrev pub is_iri : Token → Bool
is_iri (token.Namespace p) = true
is_iri (token.Iri i) = true
is_iri (token.Name p l) = true
is_iri _ = false

-- VarOrIri, which names a graph: Var | iri
abbrev pub is_graph_name : Token → Bool
is_graph_name (token.Namespace p) = true
is_graph_name (token.Iri i) = true
is_graph_name (token.Name p l) = true
is_graph_name (token.Var v) = true
is_graph_name _ = false

-- Verb ::= Var | iri | 'a'
abbrev pub is_verb : Token → Bool
is_verb (token.Namespace p) = true
is_verb (token.Iri i) = true
is_verb (token.Name p l) = true
is_verb (token.Var v) = true
is_verb token.A = true
is_verb _ = false

-- a slot of one token, which nothing extends: Var | iri | BLANK_NODE_LABEL | NumericLiteral | BooleanLiteral; and three quotes in succession, which
-- begin a string of SPARQL 1.1 (STRING_LITERAL_LONG1 and 2): they are taken where a string is, and refused there
abbrev pub is_word : Token → Bool
is_word (token.Namespace p) = true
is_word (token.Iri i) = true
is_word (token.Name p l) = true
is_word (token.Var v) = true
is_word (token.Label l) = true
is_word (token.Number k n) = true
is_word token.True = true
is_word token.False = true
is_word token.Quotes = true
is_word _ = false

-- a blank node's label
abbrev pub is_label : Token → Bool
is_label (token.Label l) = true
is_label _ = false

-- what SPARQL 1.1 has and this profile hasn't, where the grammar doesn't take it
abbrev pub is_unsupported : Token → Bool
is_unsupported token.Open = true
is_unsupported token.Star = true
is_unsupported token.Unsupported = true
is_unsupported _ = false
