-- The parameters of requests beside those that select. No contract of a public call cites it.
use Rattle.std.specs.Prelude.{ℕ, List, All, codes, IsUtf8}
use Rattle.repo_api.specs.declared.parameters.Named.{Named}
use Rattle.repo_api.specs.declared.parameters.Named.TheVariants.{Action, IsolationLevel, QueryLanguage, Query, Prefix}

-- the name of a parameter
abbrev pub word_of : Named → List ℕ
word_of Action = codes "action"
word_of IsolationLevel = codes "isolation-level"
word_of QueryLanguage = codes "queryLn"
word_of Query = codes "query"
word_of Prefix = codes "prefix"

-- names and values are UTF-8
abbrev pub AreTexts : List (List ℕ × List ℕ) → Type 0
AreTexts pairs = All (λ (pair : List ℕ × List ℕ). IsUtf8 pair.0 × IsUtf8 pair.1) pairs
