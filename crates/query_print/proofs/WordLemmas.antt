-- The characters of texts and of the fixed words.
use Rattle.std.proofs.Common.{◌≡◌, ◌<◌, ◌^◌, ℕ, List, refl, sym, ap, ◌∙◌, [], ◌∷◌, map, codes, encode_utf8_all}
use Rattle.std.specs.Str.{chars, IsUtf8}
use Rattle.std.specs.Fmt.{decimal}
use Rattle.std.proofs.lemmas.Str.{chars_from_encodes, chars-IsAscii}
use Rattle.std.proofs.lemmas.Fmt.{IsAscii-decimal}

pub text_chars : (cs bs : List ℕ) → IsUtf8 bs → bs ≡ encode_utf8_all cs → chars bs ≡ cs
text_chars cs bs u e = sym (chars_from_encodes cs bs u (sym e))

pub number_chars : (n : ℕ) (bs : List ℕ) → n < 2 ^ 64 → bs ≡ decimal n → chars bs ≡ decimal n
number_chars n bs h e = ap chars e ∙ chars-IsAscii (decimal n) (IsAscii-decimal n h)

pub select_word : chars (codes "SELECT") ≡ codes "SELECT"
unfolding chars
select_word = refl

pub distinct_word : chars (codes "DISTINCT") ≡ codes "DISTINCT"
unfolding chars
distinct_word = refl

pub where_word : chars (codes "WHERE") ≡ codes "WHERE"
unfolding chars
where_word = refl

pub ask_word : chars (codes "ASK") ≡ codes "ASK"
unfolding chars
ask_word = refl

pub construct_word : chars (codes "CONSTRUCT") ≡ codes "CONSTRUCT"
unfolding chars
construct_word = refl

pub graph_word : chars (codes "GRAPH") ≡ codes "GRAPH"
unfolding chars
graph_word = refl

pub limit_word : chars (codes "LIMIT") ≡ codes "LIMIT"
unfolding chars
limit_word = refl

pub offset_word : chars (codes "OFFSET") ≡ codes "OFFSET"
unfolding chars
offset_word = refl

pub open_mark : chars (codes "{") ≡ codes "{"
unfolding chars
open_mark = refl

pub close_mark : chars (codes "}") ≡ codes "}"
unfolding chars
close_mark = refl

pub dot_mark : chars (codes ".") ≡ codes "."
unfolding chars
dot_mark = refl

pub star_mark : chars (codes "*") ≡ codes "*"
unfolding chars
star_mark = refl

pub var_mark : chars (codes "?") ≡ codes "?"
unfolding chars
var_mark = refl

pub label_mark : chars (codes "_:") ≡ codes "_:"
unfolding chars
label_mark = refl

pub carets : chars (codes "^^") ≡ codes "^^"
unfolding chars
carets = refl

pub quote_escape : chars (codes "\\\"") ≡ codes "\\\""
unfolding chars
quote_escape = refl

pub backslash_escape : chars (codes "\\\\") ≡ codes "\\\\"
unfolding chars
backslash_escape = refl

pub line_feed_escape : chars (codes "\\n") ≡ codes "\\n"
unfolding chars
line_feed_escape = refl

pub return_escape : chars (codes "\\r") ≡ codes "\\r"
unfolding chars
return_escape = refl

pub ruleset escapes = (quote_escape, backslash_escape, line_feed_escape, return_escape)

pub map_same : (xs : List ℕ) → map (λ x. x) xs ≡ xs
map_same [] = refl
map_same (x ∷ xs) = ap (λ l. x ∷ l) (map_same xs)
