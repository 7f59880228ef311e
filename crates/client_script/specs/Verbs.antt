-- The kind of a line of a script, by its word. No contract of a public call cites it.
use Rattle.std.specs.Prelude.{ℕ, Bool, true, ◌==◌, List, [], ◌∷◌, Option, Some, None, if◌then◌else◌, nat_eq, codes}
use Rattle.std.specs.List.{starts_with}
use Rattle.std.specs.Str.{bytes_eq}
use Rattle.client_script.specs.declared.verb.Verb.{Verb}
use Rattle.client_script.specs.declared.verb.Verb.TheVariants.{Nothing, Begin, Add, Remove, Query, List as ListVerb, Size, Contexts, Namespaces, Prefix, Ping, Commit, Rollback, Quit}

-- an empty line, or one that begins with `#`
abbrev pub is_nothing : List ℕ → Bool
is_nothing [] = true
is_nothing (b ∷ bs) = b == 35

-- a word alone
abbrev pub plain_verb : List ℕ → Option Verb
plain_verb line =
    if bytes_eq line (codes "list") then Some ListVerb
    else if bytes_eq line (codes "size") then Some Size
    else if bytes_eq line (codes "contexts") then Some Contexts
    else if bytes_eq line (codes "namespaces") then Some Namespaces
    else if bytes_eq line (codes "ping") then Some Ping
    else if bytes_eq line (codes "commit") then Some Commit
    else if bytes_eq line (codes "rollback") then Some Rollback
    else if bytes_eq line (codes "quit") then Some Quit
    else None

-- a word with a rest behind one space, or a word alone
abbrev pub verb_of : List ℕ → Option Verb
verb_of line =
    if is_nothing line then Some Nothing
    else if starts_with nat_eq line (codes "begin ") then Some Begin
    else if starts_with nat_eq line (codes "add ") then Some Add
    else if starts_with nat_eq line (codes "remove ") then Some Remove
    else if starts_with nat_eq line (codes "query ") then Some Query
    else if starts_with nat_eq line (codes "prefix ") then Some Prefix
    else plain_verb line
