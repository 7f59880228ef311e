-- What stands behind the word of a line, by the line's kind. No contract of a public call cites it.
use Rattle.std.specs.Prelude.{◌≡◌, ℕ, List, Option, Some, None}
use Rattle.std.specs.Str.{IsUtf8}
use Rattle.rdf_term.specs.Statement.{Statement}
use Rattle.query_model.specs.declared.query.Query.{Query as AQuery}
use Rattle.journal.specs.declared.level.Level.{Level}
use Rattle.api_paths.specs.Levels.{level_named}
use Rattle.client_script.specs.declared.command.Command.{Command}
use Rattle.client_script.specs.declared.command.Command.TheVariants as command
use Rattle.client_script.specs.declared.verb.Verb.{Verb}
use Rattle.client_script.specs.declared.verb.Verb.TheVariants.{Nothing, Begin, Add, Remove, Query, List as ListVerb, Size, Contexts, Namespaces, Prefix, Ping, Commit, Rollback, Quit}
use Rattle.client_script.specs.Lines.{IsStatementText, IsQueryRest, naming}

-- how many bytes stand before the rest; a line that is a word alone has no rest that is looked at
abbrev pub rest_at : Verb → ℕ
rest_at Nothing = 1
rest_at Begin = 6
rest_at Add = 4
rest_at Remove = 7
rest_at Query = 6
rest_at ListVerb = 0
rest_at Size = 0
rest_at Contexts = 0
rest_at Namespaces = 0
rest_at Prefix = 7
rest_at Ping = 0
rest_at Commit = 0
rest_at Rollback = 0
rest_at Quit = 0

-- a line of this kind with this rest is this command
abbrev pub OfRest : Verb → List ℕ → Command → Type 0
OfRest Nothing rest c = IsUtf8 rest × (c ≡ command.Nothing)
OfRest Begin rest c = (level : Level) × (level_named rest ≡ Some level) × (c ≡ command.Begin level)
OfRest Add rest c = (q : Statement) × IsStatementText rest q × (c ≡ command.Add q)
OfRest Remove rest c = (q : Statement) × IsStatementText rest q × (c ≡ command.Remove q)
OfRest Query rest c = (query : AQuery) × IsQueryRest rest query × (c ≡ command.Query query)
OfRest ListVerb rest c = c ≡ command.List
OfRest Size rest c = c ≡ command.Size
OfRest Contexts rest c = c ≡ command.Contexts
OfRest Namespaces rest c = c ≡ command.Namespaces
OfRest Prefix rest c = (p : List ℕ) × (iri : List ℕ) × (naming rest ≡ Some (p, iri)) × (c ≡ command.Prefix p iri)
OfRest Ping rest c = c ≡ command.Ping
OfRest Commit rest c = c ≡ command.Commit
OfRest Rollback rest c = c ≡ command.Rollback
OfRest Quit rest c = c ≡ command.Quit

-- the command of a rest, or that there is none
abbrev pub IsOfRest : Verb → List ℕ → Option Command → Type 0
IsOfRest verb rest (Some c) = OfRest verb rest c
IsOfRest verb rest None = (c : Command) → OfRest verb rest c → ⊥

-- the statement of a text, or that it holds none
abbrev pub IsStatementOf : List ℕ → Option Statement → Type 0
IsStatementOf text (Some q) = IsStatementText text q
IsStatementOf text None = (q : Statement) → IsStatementText text q → ⊥

-- the query of a text, or that it is none
abbrev pub IsQueryOf : List ℕ → Option AQuery → Type 0
IsQueryOf text (Some query) = IsQueryRest text query
IsQueryOf text None = (query : AQuery) → IsQueryRest text query → ⊥
