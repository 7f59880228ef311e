-- The words of the client: a simple command with two required options, as `clap` reads them.
use Rattle.std.specs.Prelude.{ℕ, Bool, true, ◌&&◌, ◌==◌, not, List, ◌∷◌, map, length, Option, Some, None, option_map, if◌then◌else◌, codes, encode_utf8_all}
use Rattle.std.specs.List.{list_all}
use Rattle.std.specs.Str.{chars}
use Rattle.clap.specs.Words.{App, Rule, fault_of, first_of, matches_of, new_app, new_rule, with_rule}
use Rattle.clap.specs.declared.builder.action.ArgAction.TheVariants.{Set}
use Rattle.api_replies.specs.Ids.{is_id}
use Rattle.rdf_client.specs.Exchanges.{is_host_char}

-- an option of this name, which is required and has a value
abbrev pub option_rule : List ℕ → Rule
option_rule name = record (new_rule name) { long = Some name; action = Some Set; required = true }

-- the command: `--server HOST:PORT` and `--repository ID`
abbrev pub client_app : App
client_app = with_rule (with_rule (new_app (codes "rdf4j_client")) (option_rule (codes "server"))) (option_rule (codes "repository"))

-- the words behind the program's name
abbrev pub client_line : List (List ℕ) → List (List ℕ)
client_line words = codes "rdf4j_client" ∷ map encode_utf8_all words

-- `clap` refuses the words, for another cause than memory
abbrev pub is_refused : List (List ℕ) → Bool
is_refused words = not (length (fault_of client_app (client_line words)) == 0)

-- the value of an option
abbrev pub value_of : List ℕ → List (List ℕ) → Option (List ℕ)
value_of name words = option_map chars (first_of name (matches_of client_app (client_line words)))

-- a server of characters from `!` to `~`, and an ID
abbrev pub if_right : Option (List ℕ) → Option (List ℕ) → Option (List ℕ × List ℕ)
if_right (Some server) (Some id) = if list_all is_host_char server && is_id id then Some (server, id) else None
if_right (Some server) None = None
if_right None id = None

-- the server and the repository that the words name, or none where they are no words of the client
abbrev pub client_words : List (List ℕ) → Option (List ℕ × List ℕ)
client_words words = if is_refused words then None else if_right (value_of (codes "server") words) (value_of (codes "repository") words)
