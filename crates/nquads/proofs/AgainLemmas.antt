-- What is written is read again.
use Rattle.std.proofs.Common.{◌≡◌, ℕ, ◌≤◌, List, [], ◌∷◌, ◌++◌, Bool, true, false, not, cond, ◌==◌, ◌&&◌, ◌||◌, refl, ap, ◌∙◌, sym, subst, map, Some, None, inl, inr, codes, encode_utf8, encode_utf8_all, append_assoc, arith, if◌then◌else◌}
use Rattle.std.specs.List.{list_all, flat_map, dedup, dedup_from, AllByRecursion}
use Rattle.std.specs.Str.{bytes_eq, all_scalars}
use Rattle.std.specs.Ordering.{eq_by_cmp}
use Rattle.std.proofs.lemmas.Bool.{cases_lt}
use Rattle.std.proofs.lemmas.Bool.Decides.{nat_tests}
use Rattle.std.proofs.lemmas.List.Elements.{recursion_from_All}
use Rattle.std.proofs.lemmas.Slice.Eq.{bytes_eq-Decides}
use Rattle.std.proofs.lemmas.Str.{encodes-append, encodes-IsAscii, encode_ascii}
use Rattle.rdf_term.specs.declared.term.Term.{Term}
use Rattle.rdf_term.specs.declared.term.Term.TheVariants.{Iri, Blank, Plain, Tagged, Typed}
use Rattle.rdf_term.specs.declared.graph.Graph.{Graph}
use Rattle.rdf_term.specs.declared.graph.Graph.TheVariants.{Absent, Named}
use Rattle.rdf_term.specs.Statement.{Statement}
use Rattle.rdf_term.specs.Classes.{is_letter, is_digit, is_one_of, is_iri_char, pn_chars, pn_chars_u}
use Rattle.rdf_term.specs.Canonical.{escaped, quoted, term_text, canonical_line, canonical_triple}
use Rattle.rdf_term.specs.Validity.{has_scheme, is_iri_text, is_part, is_short, is_label, is_label_rest, is_tag, is_tag_from, xsd_string, IsValidTerm, IsValidGraph, IsValidQuad}
use Rattle.rdf_term.specs.TagLaws.{is_tag-automaton}
use Rattle.rdf_term.specs.Order.{quad_cmp}
use Rattle.rdf_term.specs.OrderLaws.{quad_total, quad_exact}
use Rattle.rdf_term.proofs.Same.{same_by_cmp}
use Rattle.nquads_line.specs.declared.kind.Kind.{Kind}
use Rattle.nquads_line.specs.declared.kind.Kind.TheVariants.{Triples, Quads}
use Rattle.nquads_line.specs.Grammar.{IsGraphText, IsStatementLine, IsLine, IsShortQuad, is_short_term, is_short_graph}
use Rattle.nquads_line.proofs.Steps.{both, split, either, or_left, or_right, unequal}
use Rattle.nquads_line.proofs.WriteLemmas.{bytes_high}
use Rattle.nquads_line.proofs.WrittenLemmas.{quads_again}
use Rattle.nquads_line.proofs.LineLemmas.{line_once}
use Rattle.nquads.specs.Lines.{is_end, no_end, AreTextLines}
use Rattle.nquads.specs.Documents.{AreLines, IsDocument}
use Rattle.nquads.specs.Written.{document_text, in_absent_graph, read_again, IsWritable}
use Rattle.nquads_line.specs.Parts.{triple_parts, graph_part}
use Rattle.nquads.proofs.LineLemmas.{or_both}
use Rattle.nquads.proofs.CutLaw.{lines_are}
use Rattle.nquads.proofs.WriteLemmas.{quad_line, one_ascii, same_test}

-- no text of a valid term holds CR or LF

no_end-append : (a b : List ℕ) → no_end a ≡ true → no_end b ≡ true → no_end (a ++ b) ≡ true
no_end-append [] b h k = k
no_end-append (c ∷ a) b h k =
    let parts = split (not (is_end c)) (no_end a) h in
    both (not (is_end c)) (no_end (a ++ b)) parts.0 (no_end-append a b parts.1 k)

-- characters of a class that has neither
none_in : (f : ℕ → Bool) (cs : List ℕ) → f 13 ≡ false → f 10 ≡ false → list_all f cs ≡ true → no_end cs ≡ true
none_in f [] m n h = refl
none_in f (c ∷ cs) m n h =
    let parts = split (f c) (list_all f cs) h in
    both (not (is_end c)) (no_end cs)
    (ap not (or_both (c == 13) (c == 10) (unequal f 13 c m parts.0) (unequal f 10 c n parts.0))) (none_in f cs m n parts.1)

abbrev label_char : ℕ → Bool
label_char c = pn_chars c || is_one_of (codes ".") c

label_chars : (cs : List ℕ) → is_label_rest cs ≡ true → list_all label_char cs ≡ true
label_chars [] h = refl
label_chars (c ∷ []) h = both (label_char c) true (or_left (pn_chars c) (is_one_of (codes ".") c) h) refl
label_chars (c ∷ d ∷ cs) h =
    let parts = split (label_char c) (is_label_rest (d ∷ cs)) h in
    both (label_char c) (list_all label_char (d ∷ cs)) parts.0 (label_chars (d ∷ cs) parts.1)

first_char : (a b c d : Bool) → a ≡ true → (((a || b) || c) || d) ≡ true
first_char true b c d h = refl
first_char false b c d h = cc

label_no_end : (label : List ℕ) → is_label label ≡ true → no_end label ≡ true
label_no_end [] h = refl
label_no_end (c ∷ cs) h =
    let parts = split (pn_chars_u c || is_digit c) (is_label_rest cs) h in
    none_in label_char (c ∷ cs) refl refl
    (both (label_char c) (list_all label_char cs) (first_char (pn_chars_u c || is_digit c) _ _ _ parts.0) (label_chars cs parts.1))

escaped_no_end : (a b d e : Bool) (c : ℕ) → (c == 10) ≡ d → (c == 13) ≡ e
    → no_end (if a then codes "\\\"" else if b then codes "\\\\" else if d then codes "\\n" else if e then codes "\\r" else c ∷ []) ≡ true
escaped_no_end true b d e c h k = refl
escaped_no_end false true d e c h k = refl
escaped_no_end false false true e c h k = refl
escaped_no_end false false false true c h k = refl
escaped_no_end false false false false c h k = both (not (is_end c)) true (ap not (or_both (c == 13) (c == 10) k h)) refl

all_escaped_no_end : (cs : List ℕ) → no_end (flat_map escaped cs) ≡ true
all_escaped_no_end [] = refl
all_escaped_no_end (c ∷ cs) =
    no_end-append (escaped c) (flat_map escaped cs)
    (escaped_no_end (c == 34) (c == 92) (c == 10) (c == 13) c refl refl) (all_escaped_no_end cs)

quoted_no_end : (cs : List ℕ) → no_end (quoted cs) ≡ true
quoted_no_end cs = no_end-append (flat_map escaped cs) (codes "\"") (all_escaped_no_end cs) refl

abbrev part_char : ℕ → Bool
part_char c = is_letter c || is_digit c

abbrev tag_char : ℕ → Bool
tag_char c = part_char c || c == 45

tag_chars : (begun : Bool) (part : ℕ → Bool) (cs : List ℕ) → ((d : ℕ) → part d ≡ true → part_char d ≡ true)
    → is_tag_from begun part cs ≡ true → list_all tag_char cs ≡ true
tag_chars begun part [] p h = refl
tag_chars begun part (c ∷ cs) p h =
    elim (either (part c && is_tag_from true part cs) (c == 45 && begun && is_tag_from false part_char cs) h) [
      | inl e ↦ (let parts = split (part c) (is_tag_from true part cs) e in
          both (tag_char c) (list_all tag_char cs) (or_left (part_char c) (c == 45) (p c parts.0)) (tag_chars true part cs p parts.1))
      | inr e ↦ (let parts = split (c == 45 && begun) (is_tag_from false part_char cs) e in
          both (tag_char c) (list_all tag_char cs) (or_right (part_char c) (c == 45) (split (c == 45) begun parts.0).0)
          (tag_chars false part_char cs (λ d k. k) parts.1))
    ]

tag_no_end : (tag : List ℕ) → is_tag tag ≡ true → no_end tag ≡ true
tag_no_end tag h = none_in tag_char tag refl refl (tag_chars false is_letter tag (λ d k. or_left (is_letter d) (is_digit d) k) (sym (is_tag-automaton tag) ∙ h))

iri_no_end : (iri : List ℕ) → is_iri_text iri ≡ true → no_end iri ≡ true
iri_no_end iri h = none_in is_iri_char iri refl refl (split (list_all is_iri_char iri) (has_scheme iri) h).0

term_no_end : (t : Term) → IsValidTerm t → no_end (term_text t) ≡ true
term_no_end (Iri iri) h = no_end-append iri (codes ">") (iri_no_end iri (split (is_part iri) (is_iri_text iri) h).1) refl
term_no_end (Blank label) h = label_no_end label (split (is_part label) (is_label label) h).1
term_no_end (Plain text) h = quoted_no_end text
term_no_end (Tagged text tag) h =
    no_end-append (quoted text ++ codes "@") tag (no_end-append (quoted text) (codes "@") (quoted_no_end text) refl)
    (tag_no_end tag (split (is_part text && is_part tag) (is_tag tag) h).1)
term_no_end (Typed text d) h =
    let a = split (is_part text && is_part d && is_iri_text d) (not (bytes_eq d xsd_string)) h in
    let b = split (is_part text && is_part d) (is_iri_text d) a.0 in
    no_end-append (quoted text ++ codes "^^<" ++ d) (codes ">")
    (no_end-append (quoted text ++ codes "^^<") d (no_end-append (quoted text) (codes "^^<") (quoted_no_end text) refl) (iri_no_end d b.1)) refl

-- the canonical line without its end
line_body : Statement → List ℕ
line_body q = (triple_parts q ++ graph_part q.c) ++ codes "."

body_line : (q : Statement) → canonical_line q ≡ line_body q ++ codes "\n"
unfolding line_body
body_line q = quad_line q ∙ sym (append_assoc (triple_parts q ++ graph_part q.c) (codes ".") (codes "\n"))

spaced_no_end : (t : Term) → IsValidTerm t → no_end (term_text t ++ codes " ") ≡ true
spaced_no_end t h = no_end-append (term_text t) (codes " ") (term_no_end t h) refl

graph_no_end : (g : Graph) → IsValidGraph g → no_end (graph_part g) ≡ true
graph_no_end Absent h = refl
graph_no_end (Named name) h = spaced_no_end name h

body_no_end : (q : Statement) → IsValidQuad q → no_end (line_body q) ≡ true
unfolding line_body
body_no_end q h =
    let s = term_text q.s ++ codes " " in
    let p' = term_text q.p ++ codes " " in
    let o = term_text q.o ++ codes " " in
    no_end-append (triple_parts q ++ graph_part q.c) (codes ".")
    (no_end-append (triple_parts q) (graph_part q.c)
    (no_end-append (s ++ p') o (no_end-append s p' (spaced_no_end q.s h.0) (spaced_no_end q.p h.1)) (spaced_no_end q.o h.2))
    (graph_no_end q.c h.3)) refl

-- nor do their bytes

high_one : (x : ℕ) → 128 ≤ x → not (x == 13 || x == 10) ≡ true
high_one x h = grind (arith, nat_tests)

high_no_end : (xs : List ℕ) → AllByRecursion (λ x. 128 ≤ x) xs → no_end xs ≡ true
high_no_end [] h = refl
high_no_end (x ∷ xs) h = both (not (is_end x)) (no_end xs) (high_one x h.0) (high_no_end xs h.1)

one_no_end : (c : ℕ) → not (is_end c) ≡ true → no_end (encode_utf8 c) ≡ true
one_no_end c n =
    elim (cases_lt c 128) [
      | inl l ↦ ap no_end (encode_ascii c l) ∙ both (not (is_end c)) true n refl
      | inr h ↦ high_no_end (encode_utf8 c) (recursion_from_All (λ x. 128 ≤ x) (encode_utf8 c) (bytes_high c h))
    ]

bytes_no_end : (cs : List ℕ) → no_end cs ≡ true → no_end (encode_utf8_all cs) ≡ true
bytes_no_end [] h = refl
bytes_no_end (c ∷ cs) h =
    let parts = split (not (is_end c)) (no_end cs) h in
    no_end-append (encode_utf8 c) (encode_utf8_all cs) (one_no_end c parts.0) (bytes_no_end cs parts.1)

-- the lines of the text

line_bytes : (line rest : List ℕ) → encode_utf8_all ((line ++ codes "\n") ++ rest) ≡ encode_utf8_all line ++ (codes "\n" ++ encode_utf8_all rest)
line_bytes line rest =
    encodes-append (line ++ codes "\n") rest
    ∙ ap (λ v. v ++ encode_utf8_all rest)
    (encodes-append line (codes "\n") ∙ ap (λ v. encode_utf8_all line ++ v) (encodes-IsAscii (codes "\n") (one_ascii 10 (omega arith))))
    ∙ append_assoc (encode_utf8_all line) (codes "\n") (encode_utf8_all rest)

-- each quad is read from its line
record IsRead (kind : Kind) (q : Statement) : Type 0 where
  pub valid : IsValidQuad q
  pub line : IsLine kind (encode_utf8_all (line_body q)) (Some q)
  pub short : IsShortQuad (Some q)

abbrev lines_written : List Statement → List (List ℕ)
lines_written qs = map (λ q. encode_utf8_all (line_body q)) qs ++ [] ∷ []

text_lines : (kind : Kind) (qs : List Statement) → AllByRecursion (IsRead kind) qs
    → AreTextLines (lines_written qs) (encode_utf8_all (flat_map canonical_line qs))
text_lines kind [] h = (refl, inl (refl, refl))
text_lines kind (q ∷ qs) h = (
  bytes_no_end (line_body q) (body_no_end q h.0.valid),
  inr (
    codes "\n",
    encode_utf8_all (flat_map canonical_line qs),
    inr (inl refl),
    ap (λ v. encode_utf8_all (v ++ flat_map canonical_line qs)) (body_line q) ∙ line_bytes (line_body q) (flat_map canonical_line qs),
    text_lines kind qs h.1,
  ),
)

empty_line : (kind : Kind) → IsLine kind [] None
empty_line kind = ([], refl, refl, record { blank = []; comment = []; written = refl; is_blank_text = refl; is_comment = tt })

lines_read : (kind : Kind) (qs : List Statement) → AllByRecursion (IsRead kind) qs → AreLines kind (lines_written qs) qs
lines_read kind [] h = (None, [], empty_line kind, tt, refl, refl)
lines_read kind (q ∷ qs) h = (Some q, qs, h.0.line, h.0.short, refl, lines_read kind qs h.1)

text_read : (kind : Kind) (qs : List Statement) → AllByRecursion (IsRead kind) qs
    → IsDocument kind (encode_utf8_all (flat_map canonical_line qs)) qs
text_read kind qs h =
    subst (λ v. AreLines kind v qs) (lines_are (encode_utf8_all (flat_map canonical_line qs)) (lines_written qs) (text_lines kind qs h))
    (lines_read kind qs h)

-- quads of valid terms are read from their lines

part_short : (part : List ℕ) → is_part part ≡ true → is_short part ≡ true
part_short part h = (split (all_scalars part) (is_short part) h).1

term_short : (t : Term) → IsValidTerm t → is_short_term t ≡ true
term_short (Iri iri) h = both (is_short iri) (is_short []) (part_short iri (split (is_part iri) (is_iri_text iri) h).0) refl
term_short (Blank label) h = both (is_short label) (is_short []) (part_short label (split (is_part label) (is_label label) h).0) refl
term_short (Plain text) h = both (is_short text) (is_short []) (part_short text h) refl
term_short (Tagged text tag) h =
    let parts = split (is_part text) (is_part tag) (split (is_part text && is_part tag) (is_tag tag) h).0 in
    both (is_short text) (is_short tag) (part_short text parts.0) (part_short tag parts.1)
term_short (Typed text d) h =
    let a = split (is_part text && is_part d && is_iri_text d) (not (bytes_eq d xsd_string)) h in
    let parts = split (is_part text) (is_part d) (split (is_part text && is_part d) (is_iri_text d) a.0).0 in
    both (is_short text) (is_short d) (part_short text parts.0) (part_short d parts.1)

graph_short : (g : Graph) → IsValidGraph g → is_short_graph g ≡ true
graph_short Absent h = refl
graph_short (Named name) h = term_short name h

quad_short : (q : Statement) → IsValidQuad q → IsShortQuad (Some q)
quad_short q h =
    both (is_short_term q.s && is_short_term q.p && is_short_term q.o) (is_short_graph q.c)
    (both (is_short_term q.s && is_short_term q.p) (is_short_term q.o)
    (both (is_short_term q.s) (is_short_term q.p) (term_short q.s h.0) (term_short q.p h.1)) (term_short q.o h.2)) (graph_short q.c h.3)

quad_read : (q : Statement) → IsWritable q → IsRead Quads q
quad_read q h = record { valid = h.1; line = quads_again q (line_body q) h.0 h.1 (body_line q); short = quad_short q h.1 }

quads_read : (qs : List Statement) → AllByRecursion IsWritable qs → AllByRecursion (IsRead Quads) qs
quads_read [] h = tt
quads_read (q ∷ qs) h = (quad_read q h.0, quads_read qs h.1)

-- without a graph they are lines of N-Triples too

abbrev IsTriple : Statement → Type 0
IsTriple q = IsWritable q × (q.c ≡ Absent)

without_label : (text : List ℕ) (q : Statement) → q.c ≡ Absent → IsStatementLine Quads text q → IsStatementLine Triples text q
without_label text q e h = record {
  s = h.s;
  p' = h.p';
  o = h.o;
  c = h.c;
  blank0 = h.blank0;
  blank1 = h.blank1;
  blank2 = h.blank2;
  blank3 = h.blank3;
  blank4 = h.blank4;
  comment = h.comment;
  written = h.written;
  blanks = h.blanks;
  subject = h.subject;
  predicate = h.predicate;
  object = h.object;
  graph = subst (IsGraphText Triples h.c) (sym e) (subst (IsGraphText Quads h.c) e h.graph);
  kinds = h.kinds;
  longest = h.longest;
  is_comment = h.is_comment;
}

triple_read : (q : Statement) → IsTriple q → IsRead Triples q
triple_read q h =
    let r = quad_read q h.0 in
    let l = r.line in
    record { valid = r.valid; line = (l.0, l.1, l.2, without_label l.0 q h.1 l.3); short = r.short }

triples_read : (qs : List Statement) → AllByRecursion IsTriple qs → AllByRecursion (IsRead Triples) qs
triples_read [] h = tt
triples_read (q ∷ qs) h = (triple_read q h.0, triples_read qs h.1)

are_triples : (qs : List Statement) → AllByRecursion IsWritable qs → AllByRecursion IsTriple (map in_absent_graph qs)
are_triples [] h = tt
are_triples (q ∷ qs) h =
    let k = h.0.0 in
    let v = h.0.1 in
    (((record { subject = k.subject; predicate = k.predicate; graph = tt }, (v.0, v.1, v.2, tt)), refl), are_triples qs h.1)

-- two quads have one line only where they are equal

line_exact : (x y : Statement) → IsWritable x → IsWritable y → canonical_line x ≡ canonical_line y → x ≡ y
line_exact x y h k e =
    let r = quads_again x (line_body x) h.0 h.1 (body_line x) in
    let s = quads_again y (line_body x) k.0 k.1 (sym e ∙ body_line x) in
    let same : Some x ≡ Some y = line_once Quads (encode_utf8_all (line_body x)) (Some x) (Some y) r s in
    cc

abbrev same_quad : Statement → Statement → Bool
same_quad = eq_by_cmp quad_cmp

line_test : (x y : Statement) → IsWritable x → IsWritable y → bytes_eq (canonical_line x) (canonical_line y) ≡ same_quad x y
line_test x y h k =
    let lines = bytes_eq-Decides (canonical_line x) (canonical_line y) in
    let quads = same_by_cmp quad_total quad_exact x y (same_quad x y) refl in
    same_test _ _ (λ e. quads.1 (line_exact x y h k (lines.0 e))) (λ e. lines.1 (ap canonical_line (quads.0 e)))

-- so that equal neighbouring lines are those of equal neighbouring quads

once_from : (k : Statement) (xs : List Statement) → IsTriple k → AllByRecursion IsTriple xs
    → dedup_from bytes_eq (canonical_line k) (map canonical_line xs) ≡ map canonical_line (dedup_from same_quad k xs)
once_from k [] h a = refl
once_from k (x ∷ xs) h a =
    ap (λ b. cond b (dedup_from bytes_eq (canonical_line k) (map canonical_line xs)) (canonical_line k ∷ dedup_from bytes_eq (canonical_line x) (map canonical_line xs)))
    (line_test x k a.0.0 h.0)
    ∙ at (same_quad x k) (once_from k xs h a.1) (once_from x xs a.0 a.1)
  where
    at : (b : Bool) → dedup_from bytes_eq (canonical_line k) (map canonical_line xs) ≡ map canonical_line (dedup_from same_quad k xs)
        → dedup_from bytes_eq (canonical_line x) (map canonical_line xs) ≡ map canonical_line (dedup_from same_quad x xs)
        → cond b (dedup_from bytes_eq (canonical_line k) (map canonical_line xs)) (canonical_line k ∷ dedup_from bytes_eq (canonical_line x) (map canonical_line xs))
        ≡ map canonical_line (cond b (dedup_from same_quad k xs) (k ∷ dedup_from same_quad x xs))
    at true same other = same
    at false same other = ap (λ v. canonical_line k ∷ v) other

once : (xs : List Statement) → AllByRecursion IsTriple xs
    → dedup bytes_eq (map canonical_line xs) ≡ map canonical_line (dedup same_quad xs)
once [] a = refl
once (x ∷ xs) a = once_from x xs a.0 a.1

kept_from : (k : Statement) (xs : List Statement) → IsTriple k → AllByRecursion IsTriple xs → AllByRecursion IsTriple (dedup_from same_quad k xs)
kept_from k [] h a = (h, tt)
kept_from k (x ∷ xs) h a = at (same_quad x k) (kept_from k xs h a.1) (kept_from x xs a.0 a.1)
  where
    at : (b : Bool) → AllByRecursion IsTriple (dedup_from same_quad k xs) → AllByRecursion IsTriple (dedup_from same_quad x xs)
        → AllByRecursion IsTriple (cond b (dedup_from same_quad k xs) (k ∷ dedup_from same_quad x xs))
    at true same other = same
    at false same other = (h, other)

kept : (xs : List Statement) → AllByRecursion IsTriple xs → AllByRecursion IsTriple (dedup same_quad xs)
kept [] a = tt
kept (x ∷ xs) a = kept_from x xs a.0 a.1

triple_lines : (qs : List Statement) → map canonical_triple qs ≡ map canonical_line (map in_absent_graph qs)
triple_lines [] = refl
triple_lines (q ∷ qs) = ap (λ v. canonical_triple q ∷ v) (triple_lines qs)

joined : (xs : List Statement) → flat_map (λ line. line) (map canonical_line xs) ≡ flat_map canonical_line xs
joined [] = refl
joined (x ∷ xs) = ap (λ v. canonical_line x ++ v) (joined xs)

pub document_again : (kind : Kind) (qs : List Statement) → AllByRecursion IsWritable qs
    → IsDocument kind (encode_utf8_all (document_text kind qs)) (read_again kind qs)
document_again Quads qs h = text_read Quads qs (quads_read qs h)
document_again Triples qs h =
    let triples = are_triples qs h in
    let kept_triples = kept (map in_absent_graph qs) triples in
    let text : document_text Triples qs ≡ flat_map canonical_line (read_again Triples qs) =
    ap (λ v. flat_map (λ line. line) (dedup bytes_eq v)) (triple_lines qs)
    ∙ ap (flat_map (λ line. line)) (once (map in_absent_graph qs) triples) ∙ joined (dedup same_quad (map in_absent_graph qs)) in
    subst (λ v. IsDocument Triples (encode_utf8_all v) (read_again Triples qs)) (sym text)
    (text_read Triples (read_again Triples qs) (triples_read (read_again Triples qs) kept_triples))
