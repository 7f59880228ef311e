-- Which tokens are a query, and which token of other lists is the first refused one: the first such that the tokens up to and with it begin no query
-- of the grammar, or that is refused although the grammar takes it.
use Rattle.std.specs.Prelude.{◌≡◌, ℕ, Bool, true, ◌&&◌, if◌then◌else◌, List, [], ◌∷◌, ◌++◌, Some, ◌⊎◌, map, length}
use Rattle.std.specs.Option.{is_none}
use Rattle.query_tokens.specs.declared.token.Token.{Token}
use Rattle.query_model.specs.declared.query.Query.{Query}
use Rattle.query_grammar.specs.declared.fault.Kind.{Kind}
use Rattle.query_grammar.specs.declared.fault.Kind.TheVariants as fault
use Rattle.query_grammar.specs.declared.built.Built.{Built}
use Rattle.query_grammar.specs.Said.{Said}
use Rattle.query_grammar.specs.Classes.{is_unsupported}
use Rattle.query_grammar.specs.Grammar.{Tree, said}
use Rattle.query_grammar.specs.Built.{refusal, add, query_of, empty}
use Rattle.query_grammar.specs.Meaning.{query_in}

abbrev pub tokens : List Said → List Token
tokens ss = map (λ (s : Said). s.token) ss

-- what these tokens of a query add
abbrev pub built : Built → List Said → Built
built b [] = b
built b (s ∷ ss) = built (add b s.role s.token) ss

-- what the tokens of a tree add one by one is the query that its rules give
abbrev pub MeaningIsBuilt : Type 0
MeaningIsBuilt = (tree : Tree) → query_of (built empty (said tree)) ≡ query_in tree

-- none of these tokens of a query is refused
abbrev pub is_fine : Built → List Said → Bool
is_fine b [] = true
is_fine b (s ∷ ss) = is_none (refusal b s.role s.token) && is_fine (add b s.role s.token) ss

-- The tokens are this query: they are those of a tree, none of them is refused, and the tree's rules give the query.
pub record IsQuery (ts : List Token) (q : Query) : Type 0 where
  pub tree : Tree
  pub is : tokens (said tree) ≡ ts
  pub fine : is_fine empty (said tree) ≡ true
  pub query : q ≡ query_in tree

-- The tokens begin a query of the grammar, and none of them is refused.
pub record Begins (ts : List Token) : Type 0 where
  pub tree : Tree
  pub front : List Said
  pub rest : List Said
  pub split : said tree ≡ front ++ rest
  pub is : tokens front ≡ ts
  pub fine : is_fine empty front ≡ true

-- The grammar takes t after these tokens, and it is refused there.
pub record TakesRefused (ts : List Token) (t : Token) (k : Kind) : Type 0 where
  pub tree : Tree
  pub front : List Said
  pub here : Said
  pub rest : List Said
  pub split : said tree ≡ front ++ here ∷ rest
  pub is : tokens front ≡ ts
  pub fine : is_fine empty front ≡ true
  pub token : here.token ≡ t
  pub refused : refusal (built empty front) here.role here.token ≡ Some k

-- The tokens begin no query of the grammar.
abbrev pub BeginsNone : List Token → Type 0
BeginsNone ts = (tree : Tree) (front rest : List Said) → said tree ≡ front ++ rest → tokens front ≡ ts → ⊥

-- a token that the grammar doesn't take is unsupported by its own kind
abbrev pub by_itself : Token → Kind
by_itself t = if is_unsupported t then fault.Unsupported else fault.BadAt

-- Why the first refused token stands behind `before`: the end is refused, or t is.
abbrev pub IsRefused : List Token → List Token → Kind → Type 0
IsRefused before [] k = (k ≡ fault.BadAt) × ((tree : Tree) → tokens (said tree) ≡ before → ⊥)
IsRefused before (t ∷ after) k = (TakesRefused before t k ⊎ (BeginsNone (before ++ t ∷ []) × (k ≡ by_itself t))) × (Begins (before ++ t ∷ []) → ⊥)

-- The first refused token is the one at n.
pub record FirstRefused (ts : List Token) (n : ℕ) (k : Kind) : Type 0 where
  pub before : List Token
  pub after : List Token
  pub split : ts ≡ before ++ after
  pub place : n ≡ length before
  pub begins : Begins before
  pub refused : IsRefused before after k
