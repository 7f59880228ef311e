-- The words of the query profile and those of SPARQL 1.1 that it leaves out (SPARQL 1.1, section 19.8), by the bytes that spell them.
use Rattle.std.specs.Prelude.{ℕ, List, Bool, codes, ◌||◌, if◌then◌else◌}
use Rattle.std.specs.Str.{bytes_eq, str_eq_ignore_ascii_case}
use Rattle.query_tokens.specs.declared.token.Token.{Token}
use Rattle.query_tokens.specs.declared.token.Token.TheVariants as token

-- the text is this word in any case of letters
abbrev pub is_word : List ℕ → List ℕ → Bool
is_word word text = str_eq_ignore_ascii_case text word

-- a word of a query form, a data set or a modifier that the profile hasn't
abbrev pub is_form_word : List ℕ → Bool
is_form_word t =
    is_word (codes "base") t || is_word (codes "from") t || is_word (codes "describe") t || is_word (codes "order") t || is_word (codes "group") t || is_word (codes "having") t

-- a word of a graph pattern that the profile hasn't
abbrev pub is_pattern_word : List ℕ → Bool
is_pattern_word t =
    is_word (codes "service") t || is_word (codes "optional") t || is_word (codes "union") t || is_word (codes "minus") t || is_word (codes "filter") t || is_word (codes "bind") t || is_word (codes "values") t || is_word (codes "exists") t || is_word (codes "not") t

-- a word of an update
abbrev pub is_update_word : List ℕ → Bool
is_update_word t =
    is_word (codes "load") t || is_word (codes "clear") t || is_word (codes "drop") t || is_word (codes "create") t || is_word (codes "insert") t || is_word (codes "delete") t || is_word (codes "with") t

-- a word that SPARQL 1.1 has and the profile hasn't
abbrev pub is_left_out : List ℕ → Bool
is_left_out t = is_form_word t || is_pattern_word t || is_update_word t

-- the token of a word; `a`, `true` and `false` are words of the profile in lower case alone
abbrev pub word_of : List ℕ → Token
word_of t =
    if bytes_eq t (codes "a") then token.A
    else if bytes_eq t (codes "true") then token.True
    else if bytes_eq t (codes "false") then token.False
    else if is_word (codes "prefix") t then token.Prefix
    else if is_word (codes "select") t then token.Select
    else if is_word (codes "distinct") t then token.Distinct
    else if is_word (codes "reduced") t then token.Reduced
    else if is_word (codes "construct") t then token.Construct
    else if is_word (codes "ask") t then token.Ask
    else if is_word (codes "where") t then token.Where
    else if is_word (codes "graph") t then token.Graph
    else if is_word (codes "limit") t then token.Limit
    else if is_word (codes "offset") t then token.Offset
    else if is_left_out t then token.Unsupported
    else token.Other
