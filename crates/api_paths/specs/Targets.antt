-- The target of a request in origin form, and the segments of its path (RFC 9112, section 3.2; RFC 3986, section 3.3).
use Rattle.std.specs.Prelude.{ℕ, Bool, ◌==◌, List, [], ◌∷◌, ◌++◌, fold, Option, Some, None, drop, map, if◌then◌else◌, nat_eq, codes}
use Rattle.std.specs.List.{position_or_len, slice_split, starts_with}
use Rattle.std.specs.Str.{chars, is_utf8}
use Rattle.percent_encoding.specs.Percent.{percent_decode}

abbrev pub is_slash : ℕ → Bool
is_slash b = b == 47

-- what stands from the first `/` on, or nothing where there is none
abbrev pub from_slash : List ℕ → List ℕ
from_slash text = drop (position_or_len is_slash text) text

-- a target in absolute form, whose scheme is compared as it stands, is taken from the next `/` on
abbrev pub origin_form : List ℕ → List ℕ
origin_form target = if starts_with nat_eq target (codes "http://") then from_slash (drop 7 target) else target

-- the text that bytes are, where they are UTF-8
abbrev pub text_of : List ℕ → Option (List ℕ)
text_of bytes = if is_utf8 bytes then Some (chars bytes) else None

-- one text more behind others, where all are there
abbrev pub texts_with : Option (List (List ℕ)) → Option (List ℕ) → Option (List (List ℕ))
texts_with (Some texts) (Some text) = Some (texts ++ text ∷ [])
texts_with (Some texts) None = None
texts_with None text = None

-- the texts of percent-decoded pieces, where each has one
abbrev pub texts_of : List (List ℕ) → Option (List (List ℕ))
texts_of pieces = fold texts_with (Some []) (map (λ piece. text_of (percent_decode piece)) pieces)

-- the segments of a path, which is cut at each `/`: each is percent-decoded, and there are none where one isn't UTF-8 then
unfoldable pub segments : List ℕ → Option (List (List ℕ))
segments path = texts_of (slice_split is_slash path)
