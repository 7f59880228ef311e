-- Prefixes of names (SPARQL 1.1, section 19.8).
use Rattle.std.specs.Prelude.{ℕ, Bool, false, ◌==◌, ◌&&◌, not, List, [], ◌∷◌, encode_utf8_all}
use Rattle.std.specs.List.{list_any}
use Rattle.rdf_term.specs.Classes.{is_in, pn_chars_base}
use Rattle.rdf_term.specs.Validity.{is_label}

-- the text begins with PN_CHARS_BASE
abbrev pub begins_with_base : List ℕ → Bool
begins_with_base [] = false
begins_with_base (c ∷ cs) = is_in pn_chars_base c

abbrev pub has_colon : List ℕ → Bool
has_colon text = list_any (λ b. b == 58) (encode_utf8_all text)

-- PN_PREFIX ::= PN_CHARS_BASE ( ( PN_CHARS | '.' )* PN_CHARS )?, which is PNAME_NS without its colon where that isn't empty. It is a label of
-- N-Triples that begins so and holds no colon, since PN_CHARS there is that of SPARQL and the colon.
abbrev pub is_prefix : List ℕ → Bool
is_prefix text = begins_with_base text && not (has_colon text) && is_label text
