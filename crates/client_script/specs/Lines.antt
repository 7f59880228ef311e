-- The lines of a client's script: the whole line for each command. A word and its rest are separated by one space.
use Rattle.std.specs.Prelude.{◌≡◌, ℕ, ◌+◌, ◌≤◌, ◌⊎◌, Bool, ◌==◌, ◌&&◌, List, [], ◌++◌, Option, Some, None, IsTrue, codes, position, take, drop, length, if◌then◌else◌}
use Rattle.std.specs.Str.{IsUtf8, all_scalars}
use Rattle.rdf_term.specs.Statement.{Statement}
use Rattle.rdf_term.specs.declared.term.Term.TheVariants.{Iri}
use Rattle.rdf_term.specs.Validity.{is_iri_text, is_short, IsValidTerm}
use Rattle.nquads_line.specs.declared.kind.Kind.TheVariants.{Quads as AsQuads}
use Rattle.nquads_line.specs.Grammar.{IsLine, IsShortQuad}
use Rattle.nquads.specs.Written.{IsWritable}
use Rattle.query_model.specs.declared.query.Query.{Query as AQuery}
use Rattle.query_model.specs.WellFormed.{IsWellFormed}
use Rattle.query_grammar.specs.QueryText.{IsQueryText}
use Rattle.api_paths.specs.Levels.{level_named}
use Rattle.api_paths.specs.Prefixes.{is_prefix}
use Rattle.api_paths.specs.Targets.{text_of}
use Rattle.client_script.specs.declared.command.Command.{Command}
use Rattle.client_script.specs.declared.command.Command.TheVariants.{Nothing, Begin, Add, Remove, Query, List as ListCommand, Size, Contexts, Namespaces, Prefix, Ping, Commit, Rollback, Quit}

-- the most bytes of a line
abbrev pub most_line : ℕ
most_line = 1048576

-- a line of N-Quads that holds this statement, none of whose parts is too long
pub record IsStatementText (text : List ℕ) (q : Statement) : Type 0 where
  pub line : IsLine AsQuads text (Some q)
  pub short : IsShortQuad (Some q)

-- a text in UTF-8 that is this query
pub record IsQueryRest (text : List ℕ) (query : AQuery) : Type 0 where
  pub utf8 : IsUtf8 text
  pub grammar : IsQueryText text query

-- a text of which this holds
abbrev pub if_text : (List ℕ → Bool) → Option (List ℕ) → Option (List ℕ)
if_text holds None = None
if_text holds (Some text) = if holds text then Some text else None

-- a prefix in UTF-8: PNAME_NS of SPARQL 1.1 without its colon, and not empty
abbrev pub prefix_text : List ℕ → Option (List ℕ)
prefix_text bytes = if_text is_prefix (text_of bytes)

-- the text of an IRI in UTF-8, of at most 65,535 bytes
abbrev pub iri_text : List ℕ → Option (List ℕ)
iri_text bytes = if_text (λ iri. is_iri_text iri && is_short iri) (text_of bytes)

-- two texts, where both are there
abbrev pub both : Option (List ℕ) → Option (List ℕ) → Option (List ℕ × List ℕ)
both (Some p) (Some iri) = Some (p, iri)
both (Some p) None = None
both None iri = None

abbrev pub is_space : ℕ → Bool
is_space b = b == 32

-- a prefix before the first space, and an IRI behind it
abbrev pub naming_at : List ℕ → Option ℕ → Option (List ℕ × List ℕ)
naming_at rest None = None
naming_at rest (Some n) = both (prefix_text (take n rest)) (iri_text (drop (n + 1) rest))

abbrev pub naming : List ℕ → Option (List ℕ × List ℕ)
naming rest = naming_at rest (position is_space rest)

-- a word, one space, and a rest of which this holds
abbrev pub HasRest : List ℕ → List ℕ → (List ℕ → Type 0) → Type 0
HasRest word line P = (rest : List ℕ) × (line ≡ word ++ (codes " " ++ rest)) × P rest

-- the line, without its end, stands for the command
abbrev pub IsInTable : List ℕ → Command → Type 0
-- an empty line and a comment in UTF-8 do nothing
IsInTable line Nothing = (line ≡ []) ⊎ ((text : List ℕ) × (line ≡ codes "#" ++ text) × IsUtf8 text)
IsInTable line (Begin level) = HasRest (codes "begin") line (λ name. level_named name ≡ Some level)
IsInTable line (Add q) = HasRest (codes "add") line (λ text. IsStatementText text q)
IsInTable line (Remove q) = HasRest (codes "remove") line (λ text. IsStatementText text q)
IsInTable line (Query query) = HasRest (codes "query") line (λ text. IsQueryRest text query)
IsInTable line ListCommand = line ≡ codes "list"
IsInTable line Size = line ≡ codes "size"
IsInTable line Contexts = line ≡ codes "contexts"
IsInTable line Namespaces = line ≡ codes "namespaces"
IsInTable line (Prefix p iri) = HasRest (codes "prefix") line (λ rest. naming rest ≡ Some (p, iri))
IsInTable line Ping = line ≡ codes "ping"
IsInTable line Commit = line ≡ codes "commit"
IsInTable line Rollback = line ≡ codes "rollback"
IsInTable line Quit = line ≡ codes "quit"

-- a line of a script, of at most 1,048,576 bytes, for the command
pub record IsScriptLine (line : List ℕ) (command : Command) : Type 0 where
  pub short : length line ≤ most_line
  pub table : IsInTable line command

-- the command of a line, or that it is none of a script
abbrev pub IsCommandOf : List ℕ → Option Command → Type 0
IsCommandOf line (Some command) = IsInTable line command
IsCommandOf line None = (command : Command) → IsInTable line command → ⊥

-- what the command holds meets the grammars: a statement of valid terms, a well-formed query, the texts of a prefix and of a valid IRI
abbrev pub IsValidCommand : Command → Type 0
IsValidCommand Nothing = Unit {0}
IsValidCommand (Begin level) = Unit {0}
IsValidCommand (Add q) = IsWritable q
IsValidCommand (Remove q) = IsWritable q
IsValidCommand (Query query) = IsWellFormed query
IsValidCommand ListCommand = Unit {0}
IsValidCommand Size = Unit {0}
IsValidCommand Contexts = Unit {0}
IsValidCommand Namespaces = Unit {0}
IsValidCommand (Prefix p iri) = IsTrue (all_scalars p) × IsTrue (is_prefix p) × IsValidTerm (Iri iri)
IsValidCommand Ping = Unit {0}
IsValidCommand Commit = Unit {0}
IsValidCommand Rollback = Unit {0}
IsValidCommand Quit = Unit {0}
