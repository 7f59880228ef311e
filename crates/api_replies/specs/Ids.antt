-- IDs of repositories and paths of transactions.
use Rattle.std.specs.Prelude.{ℕ, Bool, false, ◌&&◌, ◌||◌, ◌==◌, List, [], ◌∷◌, ◌++◌, length, nat_le, codes, encode_utf8_all}
use Rattle.std.specs.List.{list_all}
use Rattle.std.specs.Char.{is_ascii_alphanumeric}
use Rattle.journal.specs.declared.txn.Txn.{Txn}
use Rattle.api_paths.specs.TransactionNames.{name_of}

-- a letter or a digit, `_` or `-`
abbrev pub is_id_char : ℕ → Bool
is_id_char c = is_ascii_alphanumeric c || c == 95 || c == 45

-- an ID of a repository: a letter or a digit, and then up to 63 letters, digits, `_` or `-`
abbrev pub is_id : List ℕ → Bool
is_id [] = false
is_id (c ∷ cs) = is_ascii_alphanumeric c && nat_le (length cs) 63 && list_all is_id_char cs

-- the path of a transaction of a repository, in bytes
abbrev pub path_of : List ℕ → Txn → List ℕ
path_of repo t = codes "/rdf4j-server/repositories/" ++ encode_utf8_all repo ++ codes "/transactions/" ++ name_of t
