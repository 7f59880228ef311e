-- Terms that are read are valid.
use Rattle.std.proofs.Common.{◌≡◌, ◌≢◌, ℕ, List, [], ◌∷◌, ◌++◌, Bool, true, false, ◌&&◌, ◌==◌, not, refl, ap, sym, subst, map, Option, Some, None, inl, inr, codes, length, if◌then◌else◌}
use Rattle.std.specs.List.{flat_map, list_all}
use Rattle.std.specs.Str.{bytes_eq, all_scalars}
use lib.Utf8.{scalar}
use Rattle.std.proofs.lemmas.Slice.Eq.{bytes_eq-Decides}
use Rattle.rdf_term.specs.declared.term.Term.{Term}
use Rattle.rdf_term.specs.declared.term.Term.TheVariants.{Iri, Blank, Plain, Tagged, Typed}
use Rattle.rdf_term.specs.declared.graph.Graph.{Graph}
use Rattle.rdf_term.specs.declared.graph.Graph.TheVariants.{Absent, Named}
use Rattle.rdf_term.specs.Statement.{Statement}
use Rattle.rdf_term.specs.Terms.{first, second}
use Rattle.rdf_term.specs.Classes.{is_iri_char, is_hex_digit}
use Rattle.rdf_term.specs.Validity.{has_scheme, is_iri_text, is_part, is_short, xsd_string, IsValidTerm, IsValidGraph, IsValidQuad}
use Rattle.nquads_line.specs.declared.kind.Kind.{Kind}
use Rattle.nquads_line.specs.declared.kind.Kind.TheVariants.{Triples, Quads}
use Rattle.nquads_line.specs.declared.quoted.Quoted.{Quoted}
use Rattle.nquads_line.specs.declared.quoted.Quoted.TheVariants as quoted
use Rattle.nquads_line.specs.Written.{Piece, Raw, Short, Four, Eight, IsWritten, closing, spelling, meaning, hex_value, is_hex, is_meant, is_piece}
use Rattle.nquads_line.specs.Terms.{IsIriRef, IsString, IsTermText, IsTypedText}
use Rattle.nquads_line.specs.Grammar.{IsGraphText, IsLine, IsTerm, IsShortTerm, IsShortQuad, IsValidLine, is_short_term, is_short_graph}
use Rattle.nquads_line.proofs.Steps.{both, split, true_or_false}

-- the texts that are meant are of Unicode scalar values, as those that are written are

scalars_split : (a b : List ℕ) → all_scalars (a ++ b) ≡ true → (all_scalars a ≡ true) × (all_scalars b ≡ true)
scalars_split [] b h = (refl, h)
scalars_split (c ∷ a) b h =
    let parts = split (scalar c) (all_scalars (a ++ b)) h in
    let rest = scalars_split a b parts.1 in
    (both (scalar c) (all_scalars a) parts.0 rest.0, rest.1)

short_scalar : (a b c d e : Bool) (mark : ℕ) → scalar mark ≡ true
    → scalar (if a then 9 else if b then 8 else if c then 10 else if d then 12 else if e then 13 else mark) ≡ true
short_scalar true b c d e mark h = refl
short_scalar false true c d e mark h = refl
short_scalar false false true d e mark h = refl
short_scalar false false false true e mark h = refl
short_scalar false false false false true mark h = refl
short_scalar false false false false false mark h = h

hex_scalar : (count : ℕ) (hex : List ℕ) → is_hex count hex ≡ true → scalar (hex_value hex) ≡ true
hex_scalar count hex h = (split (length hex == count && list_all is_hex_digit hex) (scalar (hex_value hex)) h).1

piece_scalar : (form : Quoted) (p : Piece) → is_piece form p ≡ true → all_scalars (spelling p) ≡ true → scalar (meaning p) ≡ true
piece_scalar form (Raw c) h s = (split (scalar c) true s).0
piece_scalar form (Short e) h s = short_scalar (e == 116) (e == 98) (e == 110) (e == 102) (e == 114) e (split (scalar e) true s).0
piece_scalar form (Four hex) h s = hex_scalar 4 hex (split (is_hex 4 hex) (is_meant form (hex_value hex)) h).0
piece_scalar form (Eight hex) h s = hex_scalar 8 hex (split (is_hex 8 hex) (is_meant form (hex_value hex)) h).0

pieces_scalars : (form : Quoted) (ps : List Piece) → list_all (is_piece form) ps ≡ true → all_scalars (flat_map spelling ps) ≡ true
    → all_scalars (map meaning ps) ≡ true
pieces_scalars form [] h s = refl
pieces_scalars form (p ∷ ps) h s =
    let parts = split (is_piece form p) (list_all (is_piece form) ps) h in
    let texts = scalars_split (spelling p) (flat_map spelling ps) s in
    both (scalar (meaning p)) (all_scalars (map meaning ps)) (piece_scalar form p parts.0 texts.0) (pieces_scalars form ps parts.1 texts.1)

written_scalars : (form : Quoted) (text cs : List ℕ) → IsWritten form text cs → all_scalars text ≡ true → all_scalars cs ≡ true
written_scalars form text cs h s =
    let pieces = scalars_split (flat_map spelling h.pieces) (closing form ∷ []) (subst (λ l. all_scalars l ≡ true) h.written s) in
    subst (λ l. all_scalars l ≡ true) (sym h.meant) (pieces_scalars form h.pieces h.each pieces.0)

iri_scalars : (word iri : List ℕ) → IsIriRef word iri → all_scalars word ≡ true → all_scalars iri ≡ true
iri_scalars word iri h s =
    written_scalars quoted.Iri h.inner iri h.written (scalars_split (codes "<") h.inner (subst (λ l. all_scalars l ≡ true) h.opened s)).1

string_scalars : (word cs : List ℕ) → IsString word cs → all_scalars word ≡ true → all_scalars cs ≡ true
string_scalars word cs h s =
    written_scalars quoted.Literal h.inner cs h.written (scalars_split (codes "\"") h.inner (subst (λ l. all_scalars l ≡ true) h.opened s)).1

-- both texts of a term
abbrev are_scalars : Term → Bool
are_scalars t = all_scalars (first t) && all_scalars (second t)

typed_scalars : (word cs d : List ℕ) → IsTypedText word cs d → all_scalars word ≡ true → (all_scalars cs ≡ true) × (all_scalars d ≡ true)
typed_scalars word cs d h s =
    let a = scalars_split h.string (h.before ++ (codes "^^" ++ (h.after ++ h.name))) (subst (λ l. all_scalars l ≡ true) h.written s) in
    let b = scalars_split h.before (codes "^^" ++ (h.after ++ h.name)) a.1 in
    let c = scalars_split (codes "^^") (h.after ++ h.name) b.1 in
    (string_scalars h.string cs h.is_string a.0, iri_scalars h.name d h.is_name (scalars_split h.after h.name c.1).1)

term_text_scalars : (word : List ℕ) (t : Term) → IsTermText word t → all_scalars word ≡ true → are_scalars t ≡ true
term_text_scalars word (Iri iri) h s = both (all_scalars iri) true (iri_scalars word iri h s) refl
term_text_scalars word (Blank label) h s =
    both (all_scalars label) true (scalars_split (codes "_:") label (subst (λ l. all_scalars l ≡ true) h.1 s)).1 refl
term_text_scalars word (Plain cs) h s =
    both (all_scalars cs) true (elim h [ inl k ↦ string_scalars word cs k s | inr k ↦ (typed_scalars word cs xsd_string k s).0 ]) refl
term_text_scalars word (Tagged cs tag) h s =
    let a = scalars_split h.string (h.before ++ (codes "@" ++ tag)) (subst (λ l. all_scalars l ≡ true) h.written s) in
    let b = scalars_split h.before (codes "@" ++ tag) a.1 in
    both (all_scalars cs) (all_scalars tag) (string_scalars h.string cs h.is_string a.0) (scalars_split (codes "@") tag b.1).1
term_text_scalars word (Typed cs d) h s =
    let parts = typed_scalars word cs d h.0 s in
    both (all_scalars cs) (all_scalars d) parts.0 parts.1

-- the characters of an IRI

piece_meant : (p : Piece) → is_piece quoted.Iri p ≡ true → is_iri_char (meaning p) ≡ true
piece_meant (Raw c) h = h
piece_meant (Short e) h = cc
piece_meant (Four hex) h = (split (is_hex 4 hex) (is_iri_char (hex_value hex)) h).1
piece_meant (Eight hex) h = (split (is_hex 8 hex) (is_iri_char (hex_value hex)) h).1

pieces_meant : (ps : List Piece) → list_all (is_piece quoted.Iri) ps ≡ true → list_all is_iri_char (map meaning ps) ≡ true
pieces_meant [] h = refl
pieces_meant (p ∷ ps) h =
    let parts = split (is_piece quoted.Iri p) (list_all (is_piece quoted.Iri) ps) h in
    both (is_iri_char (meaning p)) (list_all is_iri_char (map meaning ps)) (piece_meant p parts.0) (pieces_meant ps parts.1)

iri_valid : (word iri : List ℕ) → IsIriRef word iri → is_iri_text iri ≡ true
iri_valid word iri h =
    both (list_all is_iri_char iri) (has_scheme iri)
    (subst (λ l. list_all is_iri_char l ≡ true) (sym h.written.meant) (pieces_meant h.written.pieces h.written.each)) h.scheme

other_type : (d : List ℕ) → d ≢ xsd_string → not (bytes_eq d xsd_string) ≡ true
other_type d n =
    elim (true_or_false (bytes_eq d xsd_string)) [
      | inl h ↦ absurd (n ((bytes_eq-Decides d xsd_string).0 h))
      | inr h ↦ ap not h
    ]

-- both parts
parts_of : (t : Term) → are_scalars t ≡ true → is_short_term t ≡ true → (is_part (first t) ≡ true) × (is_part (second t) ≡ true)
parts_of t s h =
    let a = split (all_scalars (first t)) (all_scalars (second t)) s in
    let b = split (is_short (first t)) (is_short (second t)) h in
    (both (all_scalars (first t)) (is_short (first t)) a.0 b.0, both (all_scalars (second t)) (is_short (second t)) a.1 b.1)

term_valid : (word : List ℕ) (t : Term) → IsTermText word t → all_scalars word ≡ true → is_short_term t ≡ true → IsValidTerm t
term_valid word (Iri iri) h s k =
    both (is_part iri) (is_iri_text iri) (parts_of (Iri iri) (term_text_scalars word (Iri iri) h s) k).0 (iri_valid word iri h)
term_valid word (Blank label) h s k = both (is_part label) _ (parts_of (Blank label) (term_text_scalars word (Blank label) h s) k).0 h.0
term_valid word (Plain text) h s k = (parts_of (Plain text) (term_text_scalars word (Plain text) h s) k).0
term_valid word (Tagged text tag) h s k =
    let p = parts_of (Tagged text tag) (term_text_scalars word (Tagged text tag) h s) k in
    both (is_part text && is_part tag) _ (both (is_part text) (is_part tag) p.0 p.1) h.is_tag_text
term_valid word (Typed text d) h s k =
    let p = parts_of (Typed text d) (term_text_scalars word (Typed text d) h s) k in
    both (is_part text && is_part d && is_iri_text d) _
    (both (is_part text && is_part d) (is_iri_text d) (both (is_part text) (is_part d) p.0 p.1) (iri_valid h.0.name d h.0.is_name)) (other_type d h.1)

graph_valid : (kind : Kind) (text : List ℕ) (g : Graph) → IsGraphText kind text g → all_scalars text ≡ true → is_short_graph g ≡ true → IsValidGraph g
graph_valid kind text Absent h s k = tt
graph_valid Triples text (Named name) h s k = absurd h
graph_valid Quads text (Named name) h s k =
    term_valid h.0 name h.3 (scalars_split h.0 h.1 (subst (λ l. all_scalars l ≡ true) h.2 s)).0 k

quad_valid : (kind : Kind) (bytes : List ℕ) (q : Statement) → IsLine kind bytes (Some q)
    → (is_short_term q.s && is_short_term q.p && is_short_term q.o && is_short_graph q.c) ≡ true → IsValidQuad q
quad_valid kind bytes q h k =
    let l = h.3 in
    let after_dot = codes "." ++ (l.blank4 ++ l.comment) in
    let a = scalars_split l.blank0 (l.s ++ (l.blank1 ++ (l.p' ++ (l.blank2 ++ (l.o ++ (l.blank3 ++ (l.c ++ after_dot)))))))
    (subst (λ t. all_scalars t ≡ true) l.written h.1) in
    let s = scalars_split l.s (l.blank1 ++ (l.p' ++ (l.blank2 ++ (l.o ++ (l.blank3 ++ (l.c ++ after_dot)))))) a.1 in
    let b = scalars_split l.blank1 (l.p' ++ (l.blank2 ++ (l.o ++ (l.blank3 ++ (l.c ++ after_dot))))) s.1 in
    let p = scalars_split l.p' (l.blank2 ++ (l.o ++ (l.blank3 ++ (l.c ++ after_dot)))) b.1 in
    let c = scalars_split l.blank2 (l.o ++ (l.blank3 ++ (l.c ++ after_dot))) p.1 in
    let o = scalars_split l.o (l.blank3 ++ (l.c ++ after_dot)) c.1 in
    let d = scalars_split l.blank3 (l.c ++ after_dot) o.1 in
    let g = scalars_split l.c after_dot d.1 in
    let x = split (is_short_term q.s && is_short_term q.p && is_short_term q.o) (is_short_graph q.c) k in
    let y = split (is_short_term q.s && is_short_term q.p) (is_short_term q.o) x.0 in
    let z = split (is_short_term q.s) (is_short_term q.p) y.0 in (
      term_valid l.s q.s l.subject s.0 z.0,
      term_valid l.p' q.p l.predicate p.0 z.1,
      term_valid l.o q.o l.object o.0 y.1,
      graph_valid kind l.c q.c l.graph g.0 x.1,
    )

pub line_valid : (kind : Kind) (bytes : List ℕ) (q : Option Statement) → IsLine kind bytes q → IsShortQuad q → IsValidLine q
line_valid kind bytes None h k = tt
line_valid kind bytes (Some q) h k = quad_valid kind bytes q h k

pub whole_term_valid : (bytes : List ℕ) (t : Term) → IsTerm bytes t → IsShortTerm t → IsValidTerm t
whole_term_valid bytes t h k = term_valid h.0 t h.3 h.1 k
