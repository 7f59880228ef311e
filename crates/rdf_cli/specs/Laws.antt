-- What holds of the words of the client.
use Rattle.std.specs.Prelude.{◌≡◌, ℕ, IsTrue, List, [], ◌∷◌, ◌++◌, Some, codes}
use Rattle.std.specs.List.{list_all}
use Rattle.api_replies.specs.Ids.{is_id}
use Rattle.rdf_client.specs.Exchanges.{is_host_char}
use Rattle.rdf_cli.specs.Words.{client_words}

-- each server of characters from `!` to `~` and each ID can be named
abbrev pub EachCanBeNamed : Type 0
EachCanBeNamed = (server repo : List ℕ) → IsTrue (list_all is_host_char server) → IsTrue (is_id repo)
    → client_words ((codes "--server=" ++ server) ∷ (codes "--repository=" ++ repo) ∷ []) ≡ Some (server, repo)

-- and nothing else is named
abbrev pub OnlyTheseAreNamed : Type 0
OnlyTheseAreNamed = (words : List (List ℕ)) (server repo : List ℕ) → client_words words ≡ Some (server, repo)
    → IsTrue (list_all is_host_char server) × IsTrue (is_id repo)
