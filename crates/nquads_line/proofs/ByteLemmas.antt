-- The bytes of a canonical line.
use Rattle.std.proofs.Common.{◌≡◌, ℕ, ◌<◌, ◌+◌, List, [], ◌∷◌, ◌++◌, refl, ap, ◌∙◌, length, append-nil, length-append, encode_utf8_all, codes, arith}
use Rattle.std.specs.List.{flat_map}
use Rattle.std.proofs.lemmas.Str.{encodes-append, encodes-IsAscii}
use Rattle.rdf_term.specs.Canonical.{escaped, quoted, term_text, graph_texts, canonical_line}
use Rattle.rdf_term.specs.declared.term.Term.{Term}
use Rattle.rdf_term.specs.declared.graph.Graph.{Graph}
use Rattle.rdf_term.specs.declared.graph.Graph.TheVariants.{Absent, Named}
use Rattle.rdf_term.specs.Statement.{Statement}
use Rattle.nquads_line.specs.Parts.{graph_part}
use Rattle.nquads_line.proofs.WriteLemmas.{one_ascii, two_ascii, three_ascii, quoted_bytes}

abbrev bytes : List ℕ → ℕ
bytes t = length (encode_utf8_all t)

bytes-append : (a b : List ℕ) → bytes (a ++ b) ≡ bytes a + bytes b
bytes-append a b = ap length (encodes-append a b) ∙ length-append (encode_utf8_all a) (encode_utf8_all b)

one : (d : ℕ) → d < 128 → bytes (d ∷ []) ≡ 1
one d h = ap length (encodes-IsAscii (d ∷ []) (one_ascii d h))

two : (c d : ℕ) → c < 128 → d < 128 → bytes (c ∷ d ∷ []) ≡ 2
two c d h k = ap length (encodes-IsAscii (c ∷ d ∷ []) (two_ascii c d h k))

three : (c d e : ℕ) → c < 128 → d < 128 → e < 128 → bytes (c ∷ d ∷ e ∷ []) ≡ 3
three c d e h k l = ap length (encodes-IsAscii (c ∷ d ∷ e ∷ []) (three_ascii c d e h k l))

space : bytes (codes " ") ≡ 1
space = one 32 (omega arith)

less : bytes (codes "<") ≡ 1
less = one 60 (omega arith)

greater : bytes (codes ">") ≡ 1
greater = one 62 (omega arith)

at_sign : bytes (codes "@") ≡ 1
at_sign = one 64 (omega arith)

blank_mark : bytes (codes "_:") ≡ 2
blank_mark = two 95 58 (omega arith) (omega arith)

line_end : bytes (codes ".\n") ≡ 2
line_end = two 46 10 (omega arith) (omega arith)

type_mark : bytes (codes "^^<") ≡ 3
type_mark = three 94 94 60 (omega arith) (omega arith) (omega arith)

pub length-quoted : (t : List ℕ) → bytes (quoted t) ≡ length (flat_map escaped (encode_utf8_all t)) + 2
length-quoted t =
    let e = ap length (quoted_bytes t) in
    let a = length-append (codes "\"") (flat_map escaped (encode_utf8_all t) ++ codes "\"") in
    let b = length-append (flat_map escaped (encode_utf8_all t)) (codes "\"") in
    e ∙ grouped (flat_map escaped (encode_utf8_all t))
  where
    grouped : (m : List ℕ) → length (codes "\"" ++ m ++ codes "\"") ≡ length m + 2
    grouped m = omega (arith, length-append (codes "\"" ++ m) (codes "\""), length-append (codes "\"") m)

pub length-iri : (t : List ℕ) → bytes (codes "<" ++ t ++ codes ">") ≡ bytes t + 2
length-iri t = omega (arith, bytes-append (codes "<" ++ t) (codes ">"), bytes-append (codes "<") t, less, greater)

pub length-blank : (t : List ℕ) → bytes (codes "_:" ++ t) ≡ bytes t + 2
length-blank t = omega (arith, bytes-append (codes "_:") t, blank_mark)

pub length-tagged : (q t : List ℕ) → bytes (q ++ codes "@" ++ t) ≡ bytes q + bytes t + 1
length-tagged q t = omega (arith, bytes-append (q ++ codes "@") t, bytes-append q (codes "@"), at_sign)

pub length-typed : (q t : List ℕ) → bytes (q ++ codes "^^<" ++ t ++ codes ">") ≡ bytes q + bytes t + 4
length-typed q t = omega (arith, bytes-append (q ++ codes "^^<" ++ t) (codes ">"), bytes-append (q ++ codes "^^<") t, bytes-append q (codes "^^<"), greater, type_mark)

pub length-graph : (name : Term) → bytes (term_text name ++ codes " ") ≡ bytes (term_text name) + 1
length-graph name = omega (arith, bytes-append (term_text name) (codes " "), space)

graph_line : (c : Graph) → bytes (flat_map (λ (part : List ℕ). part ++ codes " ") (graph_texts c)) ≡ bytes (graph_part c)
graph_line Absent = refl
graph_line (Named name) = ap bytes (append-nil (term_text name ++ codes " "))

pub length-line : (q : Statement) → bytes (canonical_line q) ≡ bytes (term_text q.s) + bytes (term_text q.p) + bytes (term_text q.o) + bytes (graph_part q.c) + 5
length-line q =
    let s = term_text q.s ++ codes " " in
    let p = term_text q.p ++ codes " " in
    let o = term_text q.o ++ codes " " in
    let g = flat_map (λ (part : List ℕ). part ++ codes " ") (graph_texts q.c) in
    omega (
      arith,
      bytes-append (s ++ (p ++ (o ++ g))) (codes ".\n"),
      bytes-append s (p ++ (o ++ g)),
      bytes-append p (o ++ g),
      bytes-append o g,
      bytes-append (term_text q.s) (codes " "),
      bytes-append (term_text q.p) (codes " "),
      bytes-append (term_text q.o) (codes " "),
      graph_line q.c,
      space,
      line_end,
    )
