-- The pieces of a field's value (RFC 9110, section 5.6).
use Rattle.std.specs.Prelude.{ℕ, Bool, ◌&&◌, ◌||◌, ◌==◌, not, List, [], ◌∷◌, length, reverse, if◌then◌else◌, codes}
use Rattle.std.specs.List.{list_all}
use Rattle.std.specs.Char.{is_ascii_alphanumeric, char_set_contains}

-- OWS = *( SP / HTAB ) (section 5.6.3)
abbrev pub is_space : ℕ → Bool
is_space b = b == 32 || b == 9

-- a text without the white space that it begins with
abbrev pub skip_spaces : List ℕ → List ℕ
skip_spaces [] = []
skip_spaces (b ∷ bs) = if is_space b then skip_spaces bs else b ∷ bs

-- a text without the white space around it
unfoldable pub trimmed : List ℕ → List ℕ
trimmed text = reverse (skip_spaces (reverse (skip_spaces text)))

-- tchar = "!" / "#" / "$" / "%" / "&" / "'" / "*" / "+" / "-" / "." / "^" / "_" / "`" / "|" / "~" / DIGIT / ALPHA (section 5.6.2)
abbrev pub is_tchar : ℕ → Bool
is_tchar b = is_ascii_alphanumeric b || char_set_contains (codes "!#$%&'*+-.^_`|~") b

-- token = 1*tchar
abbrev pub is_token : List ℕ → Bool
is_token text = not (length text == 0) && list_all is_tchar text

-- the bytes that hold pieces apart
abbrev pub is_comma : ℕ → Bool
is_comma b = b == 44

abbrev pub is_semicolon : ℕ → Bool
is_semicolon b = b == 59

abbrev pub is_equals : ℕ → Bool
is_equals b = b == 61

abbrev pub is_slash : ℕ → Bool
is_slash b = b == 47
