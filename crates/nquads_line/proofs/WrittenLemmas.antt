-- What is written is of the grammar.
use Rattle.std.proofs.Common.{◌≡◌, ℕ, List, [], ◌∷◌, ◌++◌, Bool, true, false, ◌==◌, ◌&&◌, ◌||◌, not, refl, ap, ◌∙◌, sym, subst, map, append_assoc, Some, inl, codes, encode_utf8_all, if◌then◌else◌}
use Rattle.std.specs.List.{list_all, flat_map}
use Rattle.std.specs.Str.{bytes_eq, all_scalars}
use lib.Utf8.{scalar}
use Rattle.std.proofs.lemmas.List.{append_cancel_right}
use Rattle.std.proofs.lemmas.Slice.Eq.{bytes_eq-Decides}
use Rattle.rdf_term.specs.declared.term.Term.{Term}
use Rattle.rdf_term.specs.declared.term.Term.TheVariants.{Iri, Blank, Plain, Tagged, Typed}
use Rattle.rdf_term.specs.declared.graph.Graph.{Graph}
use Rattle.rdf_term.specs.declared.graph.Graph.TheVariants.{Absent, Named}
use Rattle.rdf_term.specs.Statement.{Statement, IsStatement}
use Rattle.rdf_term.specs.Classes.{is_iri_char}
use Rattle.rdf_term.specs.Canonical.{escaped, quoted, term_text, graph_texts, canonical_line}
use Rattle.rdf_term.specs.Validity.{has_scheme, is_iri_text, is_part, is_short, is_label, is_tag, xsd_string, IsValidTerm, IsValidGraph, IsValidQuad}
use Rattle.nquads_line.specs.declared.kind.Kind.TheVariants.{Quads}
use Rattle.nquads_line.specs.declared.quoted.Quoted.TheVariants as marks
use Rattle.nquads_line.specs.Written.{Piece, Raw, Short, spelling, meaning, is_piece}
use Rattle.nquads_line.specs.Terms.{IsIriRef, IsString, IsTermText}
use Rattle.nquads_line.specs.Grammar.{IsLongest, IsGraphText, IsStatementLine, IsLine, IsTerm}
use Rattle.nquads_line.proofs.LabelLemmas.{longest_ok}
use Rattle.nquads_line.proofs.Steps.{both, split, equal, itself}

-- the pieces of an IRI

raws_spell : (cs : List ℕ) → flat_map spelling (map Raw cs) ≡ cs
raws_spell [] = refl
raws_spell (c ∷ cs) = ap (λ l. c ∷ l) (raws_spell cs)

raws_mean : (cs : List ℕ) → map meaning (map Raw cs) ≡ cs
raws_mean [] = refl
raws_mean (c ∷ cs) = ap (λ l. c ∷ l) (raws_mean cs)

raws_are : (cs : List ℕ) → list_all is_iri_char cs ≡ true → list_all (is_piece marks.Iri) (map Raw cs) ≡ true
raws_are [] h = refl
raws_are (c ∷ cs) h =
    let parts = split (is_iri_char c) (list_all is_iri_char cs) h in
    both (is_iri_char c) (list_all (is_piece marks.Iri) (map Raw cs)) parts.0 (raws_are cs parts.1)

iri_law : (iri : List ℕ) → is_iri_text iri ≡ true → IsIriRef (codes "<" ++ iri ++ codes ">") iri
iri_law iri h =
    let parts = split (list_all is_iri_char iri) (has_scheme iri) h in
    record {
      inner = iri ++ 62 ∷ [];
      opened = refl;
      written = record { pieces = map Raw iri; each = raws_are iri parts.0; written = ap (λ l. l ++ 62 ∷ []) (sym (raws_spell iri)); meant = sym (raws_mean iri) };
      scheme = parts.1;
    }

-- the pieces of a string

chosen_piece : Bool → Bool → Bool → Bool → ℕ → Piece
chosen_piece a b d e c = if a then Short 34 else if b then Short 92 else if d then Short 110 else if e then Short 114 else Raw c

piece_of : ℕ → Piece
piece_of c = chosen_piece (c == 34) (c == 92) (c == 10) (c == 13) c

spells_at : (a b d e : Bool) (c : ℕ) → spelling (chosen_piece a b d e c)
    ≡ (if a then codes "\\\"" else if b then codes "\\\\" else if d then codes "\\n" else if e then codes "\\r" else c ∷ [])
unfolding chosen_piece
spells_at true b d e c = refl
spells_at false true d e c = refl
spells_at false false true e c = refl
spells_at false false false true c = refl
spells_at false false false false c = refl

means_at : (a b d e : Bool) (c : ℕ) → (c == 34) ≡ a → (c == 92) ≡ b → (c == 10) ≡ d → (c == 13) ≡ e → meaning (chosen_piece a b d e c) ≡ c
unfolding chosen_piece
means_at true b d e c h i j k = sym (equal c 34 h)
means_at false true d e c h i j k = sym (equal c 92 i)
means_at false false true e c h i j k = sym (equal c 10 j)
means_at false false false true c h i j k = sym (equal c 13 k)
means_at false false false false c h i j k = refl

flip : (c d : ℕ) → (c == d) ≡ false → (d == c) ≡ false
flip c d h = at (d == c) refl
  where
    at : (b : Bool) → (d == c) ≡ b → b ≡ false
    at true e = let z : true ≡ false = sym (subst (λ x. (c == x) ≡ true) (sym (equal d c e)) (itself c)) ∙ h in cc
    at false e = refl

none_of : (a b d e : Bool) → a ≡ false → b ≡ false → d ≡ false → e ≡ false → not (a || (b || (d || (e || false)))) ≡ true
none_of true b d e h i j k = cc
none_of false true d e h i j k = cc
none_of false false true e h i j k = cc
none_of false false false true h i j k = cc
none_of false false false false h i j k = refl

is_at : (a b d e : Bool) (c : ℕ) → (c == 34) ≡ a → (c == 92) ≡ b → (c == 10) ≡ d → (c == 13) ≡ e
    → is_piece marks.Literal (chosen_piece a b d e c) ≡ true
unfolding chosen_piece
is_at true b d e c h i j k = refl
is_at false true d e c h i j k = refl
is_at false false true e c h i j k = refl
is_at false false false true c h i j k = refl
is_at false false false false c h i j k =
    none_of (34 == c) (92 == c) (10 == c) (13 == c) (flip c 34 h) (flip c 92 i) (flip c 10 j) (flip c 13 k)

pieces_spell : (cs : List ℕ) → flat_map spelling (map piece_of cs) ≡ flat_map escaped cs
unfolding piece_of
pieces_spell [] = refl
pieces_spell (c ∷ cs) =
    ap (λ l. l ++ flat_map spelling (map piece_of cs)) (spells_at (c == 34) (c == 92) (c == 10) (c == 13) c)
    ∙ ap (λ l. escaped c ++ l) (pieces_spell cs)

pieces_mean : (cs : List ℕ) → map meaning (map piece_of cs) ≡ cs
unfolding piece_of
pieces_mean [] = refl
pieces_mean (c ∷ cs) =
    ap (λ m. m ∷ map meaning (map piece_of cs)) (means_at (c == 34) (c == 92) (c == 10) (c == 13) c refl refl refl refl)
    ∙ ap (λ l. c ∷ l) (pieces_mean cs)

pieces_are : (cs : List ℕ) → list_all (is_piece marks.Literal) (map piece_of cs) ≡ true
unfolding piece_of
pieces_are [] = refl
pieces_are (c ∷ cs) =
    both (is_piece marks.Literal (piece_of c)) (list_all (is_piece marks.Literal) (map piece_of cs))
    (is_at (c == 34) (c == 92) (c == 10) (c == 13) c refl refl refl refl) (pieces_are cs)

string_law : (cs : List ℕ) → IsString (quoted cs) cs
string_law cs = record {
  inner = flat_map escaped cs ++ 34 ∷ [];
  opened = refl;
  written = record { pieces = map piece_of cs; each = pieces_are cs; written = ap (λ l. l ++ 34 ∷ []) (sym (pieces_spell cs)); meant = sym (pieces_mean cs) };
}

-- terms

not_true : (b : Bool) → not b ≡ true → b ≡ false
not_true true h = cc
not_true false h = refl

pub term_law : (t : Term) → IsValidTerm t → IsTermText (term_text t) t
term_law (Iri iri) h = iri_law iri (split (is_part iri) (is_iri_text iri) h).1
term_law (Blank label) h = ((split (is_part label) (is_label label) h).1, refl)
term_law (Plain text) h = inl (string_law text)
term_law (Tagged text tag) h = record {
  string = quoted text;
  before = [];
  written = append_assoc (quoted text) (codes "@") tag;
  is_string = string_law text;
  before_blank = refl;
  is_tag_text = (split (is_part text && is_part tag) (is_tag tag) h).1;
}
term_law (Typed text d) h =
    let parts = split (is_part text && is_part d && is_iri_text d) (not (bytes_eq d xsd_string)) h in (
      record {
        string = quoted text;
        before = [];
        after = [];
        name = codes "<" ++ d ++ codes ">";
        written = regroup (quoted text) d;
        is_string = string_law text;
        before_blank = refl;
        after_blank = refl;
        is_name = iri_law d (split (is_part text && is_part d) (is_iri_text d) parts.0).1;
      },
      λ e. (let z : true ≡ false = sym ((bytes_eq-Decides d xsd_string).1 e) ∙ not_true (bytes_eq d xsd_string) parts.1 in cc),
    )
  where
    regroup : (q d : List ℕ) → q ++ codes "^^<" ++ d ++ codes ">" ≡ q ++ ([] ++ (codes "^^" ++ ([] ++ (codes "<" ++ d ++ codes ">"))))
    regroup q d = simp append_assoc

-- scalar values

scalars_append : (a b : List ℕ) → all_scalars a ≡ true → all_scalars b ≡ true → all_scalars (a ++ b) ≡ true
scalars_append [] b h k = k
scalars_append (c ∷ a) b h k =
    let parts = split (scalar c) (all_scalars a) h in
    both (scalar c) (all_scalars (a ++ b)) parts.0 (scalars_append a b parts.1 k)

escaped_scalars_at : (a b d e : Bool) (c : ℕ) → scalar c ≡ true
    → all_scalars (if a then codes "\\\"" else if b then codes "\\\\" else if d then codes "\\n" else if e then codes "\\r" else c ∷ []) ≡ true
escaped_scalars_at true b d e c h = refl
escaped_scalars_at false true d e c h = refl
escaped_scalars_at false false true e c h = refl
escaped_scalars_at false false false true c h = refl
escaped_scalars_at false false false false c h = both (scalar c) true h refl

escaped_scalars : (cs : List ℕ) → all_scalars cs ≡ true → all_scalars (flat_map escaped cs) ≡ true
escaped_scalars [] h = refl
escaped_scalars (c ∷ cs) h =
    let parts = split (scalar c) (all_scalars cs) h in
    scalars_append (escaped c) (flat_map escaped cs) (escaped_scalars_at (c == 34) (c == 92) (c == 10) (c == 13) c parts.0) (escaped_scalars cs parts.1)

part_scalars : (part : List ℕ) → is_part part ≡ true → all_scalars part ≡ true
part_scalars part h = (split (all_scalars part) (is_short part) h).0

quoted_scalars : (cs : List ℕ) → all_scalars cs ≡ true → all_scalars (quoted cs) ≡ true
quoted_scalars cs h = scalars_append (flat_map escaped cs) (codes "\"") (escaped_scalars cs h) refl

pub term_scalars : (t : Term) → IsValidTerm t → all_scalars (term_text t) ≡ true
term_scalars (Iri iri) h = scalars_append iri (codes ">") (part_scalars iri (split (is_part iri) (is_iri_text iri) h).0) refl
term_scalars (Blank label) h = part_scalars label (split (is_part label) (is_label label) h).0
term_scalars (Plain text) h = quoted_scalars text (part_scalars text h)
term_scalars (Tagged text tag) h =
    let parts = split (is_part text) (is_part tag) (split (is_part text && is_part tag) (is_tag tag) h).0 in
    scalars_append (quoted text ++ codes "@") tag (scalars_append (quoted text) (codes "@") (quoted_scalars text (part_scalars text parts.0)) refl) (part_scalars tag parts.1)
term_scalars (Typed text d) h =
    let a = split (is_part text && is_part d && is_iri_text d) (not (bytes_eq d xsd_string)) h in
    let b = split (is_part text && is_part d) (is_iri_text d) a.0 in
    let parts = split (is_part text) (is_part d) b.0 in
    scalars_append (quoted text ++ codes "^^<" ++ d) (codes ">")
    (scalars_append (quoted text ++ codes "^^<") d (scalars_append (quoted text) (codes "^^<") (quoted_scalars text (part_scalars text parts.0)) refl) (part_scalars d parts.1)) refl

pub terms_again : (t : Term) → IsValidTerm t → IsTerm (encode_utf8_all (term_text t)) t
terms_again t h = (term_text t, term_scalars t h, refl, term_law t h)

-- quads

-- the canonical line without its end
line_body : Statement → List ℕ
line_body q = flat_map (λ part. part ++ codes " ") (term_text q.s ∷ term_text q.p ∷ term_text q.o ∷ graph_texts q.c) ++ codes "."

with_end : (q : Statement) → canonical_line q ≡ line_body q ++ codes "\n"
unfolding line_body
with_end q = sym (append_assoc (flat_map (λ part. part ++ codes " ") (term_text q.s ∷ term_text q.p ∷ term_text q.o ∷ graph_texts q.c)) (codes ".") (codes "\n"))

-- a graph's label with a space after it
label_text : Graph → List ℕ
label_text Absent = []
label_text (Named name) = term_text name ++ codes " "

body_written : (s p' o : List ℕ) (g : Graph)
    → flat_map (λ part. part ++ codes " ") (s ∷ p' ∷ o ∷ graph_texts g) ++ codes "."
    ≡ [] ++ (s ++ (codes " " ++ (p' ++ (codes " " ++ (o ++ (codes " " ++ (label_text g ++ (codes "." ++ ([] ++ [])))))))))
unfolding label_text
body_written s p' o Absent = simp append_assoc
body_written s p' o (Named name) = simp append_assoc

graph_law : (g : Graph) → IsValidGraph g → IsGraphText Quads (label_text g) g
unfolding label_text
graph_law Absent h = refl
graph_law (Named name) h = (term_text name, codes " ", refl, term_law name h, refl)

longest_law : (t : Term) (after : List ℕ) → IsValidTerm t → IsLongest t (32 ∷ after)
longest_law (Iri t) after h = tt
longest_law (Blank label) after h = longest_ok label (32 ∷ after) (split (is_part label) (is_label label) h).1 refl
longest_law (Plain t) after h = tt
longest_law (Tagged t u) after h = tt
longest_law (Typed t u) after h = tt

line_law : (q : Statement) → IsStatement q.s q.p q.c → IsValidQuad q → IsStatementLine Quads (line_body q) q
unfolding line_body
line_law q k h = record {
  s = term_text q.s;
  p' = term_text q.p;
  o = term_text q.o;
  c = label_text q.c;
  blank0 = [];
  blank1 = codes " ";
  blank2 = codes " ";
  blank3 = codes " ";
  blank4 = [];
  comment = [];
  written = body_written (term_text q.s) (term_text q.p) (term_text q.o) q.c;
  blanks = refl;
  subject = term_law q.s h.0;
  predicate = term_law q.p h.1;
  object = term_law q.o h.2;
  graph = graph_law q.c h.3;
  kinds = k;
  longest = longest_law q.o _ h.2;
  is_comment = tt;
}

graph_scalars : (g : Graph) → IsValidGraph g → all_scalars (flat_map (λ part. part ++ codes " ") (graph_texts g)) ≡ true
graph_scalars Absent h = refl
graph_scalars (Named name) h = scalars_append (term_text name ++ codes " ") [] (scalars_append (term_text name) (codes " ") (term_scalars name h) refl) refl

spaced : (t : Term) (rest : List ℕ) → IsValidTerm t → all_scalars rest ≡ true → all_scalars ((term_text t ++ codes " ") ++ rest) ≡ true
spaced t rest h k = scalars_append (term_text t ++ codes " ") rest (scalars_append (term_text t) (codes " ") (term_scalars t h) refl) k

body_scalars : (q : Statement) → IsValidQuad q → all_scalars (line_body q) ≡ true
unfolding line_body
body_scalars q h =
    let c = flat_map (λ part. part ++ codes " ") (graph_texts q.c) in
    let o = (term_text q.o ++ codes " ") ++ c in
    let p' = (term_text q.p ++ codes " ") ++ o in
    let s = (term_text q.s ++ codes " ") ++ p' in
    scalars_append s (codes ".") (spaced q.s p' h.0 (spaced q.p o h.1 (spaced q.o c h.2 (graph_scalars q.c h.3)))) refl

pub quads_again : (q : Statement) (line : List ℕ) → IsStatement q.s q.p q.c → IsValidQuad q → canonical_line q ≡ line ++ codes "\n"
    → IsLine Quads (encode_utf8_all line) (Some q)
quads_again q line k h e =
    let same : line_body q ≡ line = append_cancel_right (line_body q) line (codes "\n") (sym (with_end q) ∙ e) in
    (line, subst (λ l. all_scalars l ≡ true) same (body_scalars q h), refl, subst (λ l. IsStatementLine Quads l q) same (line_law q k h))
