-- What the functions of the reader give, each as one function on lists. The grammar above it is `Grammar`.
use Rattle.std.specs.Prelude.{◌≡◌, ℕ, ◌+◌, List, [], ◌∷◌, ◌++◌, Option, Some, None, Bool, suc, zero, ◌==◌, ◌&&◌, ◌||◌, if◌then◌else◌, take, drop, length}
use Rattle.std.specs.List.{list_all, prefix_len}
use Rattle.std.specs.Str.{bytes_eq}
use Rattle.std.specs.declared.result.Result.{Result}
use Rattle.std.specs.declared.result.Result.TheVariants.{Ok, Err}
use Rattle.rdf_term.specs.declared.term.Term.{Term}
use Rattle.rdf_term.specs.declared.term.Term.TheVariants as terms
use Rattle.rdf_term.specs.declared.graph.Graph.{Graph}
use Rattle.rdf_term.specs.declared.graph.Graph.TheVariants.{Absent, Named}
use Rattle.rdf_term.specs.Statement.{Statement}
use Rattle.rdf_term.specs.Escapes.{echar_meaning}
use Rattle.rdf_term.specs.Classes.{is_digit, is_letter, pn_chars_u, pn_chars}
use Rattle.rdf_term.specs.Validity.{has_scheme, is_tag, xsd_string}
use Rattle.nquads_line.specs.declared.kind.Kind.{Kind}
use Rattle.nquads_line.specs.declared.kind.Kind.TheVariants.{Triples, Quads}
use Rattle.nquads_line.specs.declared.fault.LineFault.{LineFault}
use Rattle.nquads_line.specs.declared.fault.LineFault.TheVariants.{Bad, TooLong, Memory}
use Rattle.nquads_line.specs.declared.quoted.Quoted.{Quoted}
use Rattle.nquads_line.specs.declared.quoted.Quoted.TheVariants.{Iri, Literal}
use Rattle.nquads_line.specs.Written.{hex_value, is_hex, closing, is_raw, is_short_escape, is_meant}
use Rattle.nquads_line.specs.Terms.{is_space, is_comment_char}

-- one step after another
infixl 10 ◌>>=◌
abbrev pub ◌>>=◌ : {A B : Type 0} → Option A → (A → Option B) → Option B
None >>= f = None
(Some x) >>= f = f x

-- the reading has no value, or memory ran out
abbrev pub Fails : {Y : Type 0} → LineFault → Option Y → Type 0
Fails Memory read = Unit {0}
Fails Bad read = read ≡ None
Fails TooLong read = ⊥

-- what a function returned, seen by view, is what the reading gives, unless memory ran out
abbrev pub Gives : {X Y : Type 0} → (X → Y) → Result X LineFault → Option Y → Type 0
Gives view (Ok x) read = read ≡ Some (view x)
Gives view (Err e) read = Fails e read

-- these characters in front of what was read
abbrev pub with_front : List ℕ → Option (List ℕ × List ℕ) → Option (List ℕ × List ℕ)
with_front front None = None
with_front front (Some x) = Some (front ++ x.0, x.1)

-- what stands after a mark
abbrev pub mark_at : ℕ → List ℕ → Option (List ℕ)
mark_at mark [] = None
mark_at mark (c ∷ cs) = if c == mark then Some cs else None

-- what stands after ws*
abbrev pub skip : List ℕ → List ℕ
skip [] = []
skip (c ∷ cs) = if is_space c then skip cs else c ∷ cs

-- the character that a UCHAR of so many digits names, and how many characters it took after the backslash
abbrev pub hex_at : ℕ → List ℕ → Option (ℕ × ℕ)
hex_at count cs = if is_hex count (take count cs) then Some (hex_value (take count cs), count + 1) else None

-- the same of what stands after a backslash
abbrev pub escape_at : Quoted → List ℕ → Option (ℕ × ℕ)
escape_at form [] = None
escape_at form (e ∷ cs) =
    if e == 117 then hex_at 4 cs else if e == 85 then hex_at 8 cs
    else if is_short_escape form e then Some (echar_meaning e, 1) else None

-- the character that the first piece means, and how many characters it took after its first
abbrev pub if_meant : Quoted → Option (ℕ × ℕ) → Option (ℕ × ℕ)
if_meant form None = None
if_meant form (Some x) = if is_meant form x.0 then Some x else None

abbrev pub piece_at : Quoted → ℕ → List ℕ → Option (ℕ × ℕ)
piece_at form c cs =
    if c == 92 then if_meant form (escape_at form cs) else if is_raw form c then Some (c, 0) else None

-- the characters that are meant before the text is closed, and what stands after that, once so many are skipped
abbrev pub after_piece : Option (ℕ × ℕ) → (ℕ → Option (List ℕ × List ℕ)) → Option (List ℕ × List ℕ)
after_piece None next = None
after_piece (Some x) next = with_front (x.0 ∷ []) (next x.1)

abbrev pub body_at : Quoted → List ℕ → ℕ → Option (List ℕ × List ℕ)
body_at form [] skipped = None
body_at form (c ∷ cs) (suc skipped) = body_at form cs skipped
body_at form (c ∷ cs) zero =
    if c == closing form then Some ([], cs) else after_piece (piece_at form c cs) (λ skipped. body_at form cs skipped)

-- an IRI, if it has a scheme
abbrev pub if_schemed : List ℕ × List ℕ → Option (List ℕ × List ℕ)
if_schemed x = if has_scheme x.0 then Some x else None

unfoldable pub iri_at : List ℕ → Option (List ℕ × List ℕ)
iri_at cs = do
  inner ← mark_at 60 cs
  x ← body_at Iri inner 0
  if_schemed x

-- how many characters continue a label, of which the last is no dot
abbrev pub one_more : ℕ → ℕ
one_more zero = zero
one_more (suc n) = suc (suc n)

abbrev pub label_len : List ℕ → ℕ
label_len [] = 0
label_len (c ∷ cs) = if pn_chars c then suc (label_len cs) else if c == 46 then one_more (label_len cs) else 0

-- a label without `_:`
abbrev pub label_from : List ℕ → Option (List ℕ × List ℕ)
label_from [] = None
label_from (c ∷ cs) =
    if pn_chars_u c || is_digit c then Some (c ∷ take (label_len cs) cs, drop (label_len cs) cs) else None

unfoldable pub label_at : List ℕ → Option (List ℕ × List ℕ)
label_at cs = do
  colon ← mark_at 95 cs
  label ← mark_at 58 colon
  label_from label

-- the characters that can continue a tag
abbrev pub is_tag_char : ℕ → Bool
is_tag_char c = is_letter c || is_digit c || c == 45

-- a tag without `@`
abbrev pub tag_at : List ℕ → Option (List ℕ × List ℕ)
tag_at cs =
    if is_tag (take (prefix_len is_tag_char cs) cs)
    then Some (take (prefix_len is_tag_char cs) cs, drop (prefix_len is_tag_char cs) cs) else None

-- a literal with a datatype
abbrev pub typed : List ℕ → List ℕ → Term
typed text datatype = if bytes_eq datatype xsd_string then terms.Plain text else terms.Typed text datatype

unfoldable pub datatype_at : List ℕ → List ℕ → Option (Term × List ℕ)
datatype_at text cs = do
  second ← mark_at 94 cs
  x ← iri_at (skip second)
  Some (typed text x.0, x.1)

unfoldable pub tagged_at : List ℕ → List ℕ → Option (Term × List ℕ)
tagged_at text cs = do
  x ← tag_at cs
  Some (terms.Tagged text x.0, x.1)

-- the literal of a text that stands before rest, which is shown behind ws* too
abbrev pub suffix_at : List ℕ → List ℕ → List ℕ → Option (Term × List ℕ)
suffix_at text rest [] = Some (terms.Plain text, rest)
suffix_at text rest (c ∷ cs) =
    if c == 64 then tagged_at text cs else if c == 94 then datatype_at text cs else Some (terms.Plain text, rest)

unfoldable pub literal_at : List ℕ → Option (Term × List ℕ)
literal_at cs = do
  inner ← mark_at 34 cs
  x ← body_at Literal inner 0
  suffix_at x.0 x.1 (skip x.1)

-- an IRI or a blank node
abbrev pub as_iri : List ℕ × List ℕ → Option (Term × List ℕ)
as_iri x = Some (terms.Iri x.0, x.1)

abbrev pub as_blank : List ℕ × List ℕ → Option (Term × List ℕ)
as_blank x = Some (terms.Blank x.0, x.1)

abbrev pub resource_at : List ℕ → Option (Term × List ℕ)
resource_at [] = None
resource_at (c ∷ cs) = if c == 60 then iri_at (c ∷ cs) >>= as_iri else label_at (c ∷ cs) >>= as_blank

-- any term
abbrev pub term_at : List ℕ → Option (Term × List ℕ)
term_at [] = None
term_at (c ∷ cs) = if c == 34 then literal_at (c ∷ cs) else resource_at (c ∷ cs)

-- a graph's label and ws*, where a line of this kind has one
abbrev pub as_graph : Term × List ℕ → Option (Graph × List ℕ)
as_graph x = Some (Named x.0, skip x.1)

abbrev pub graph_at : Kind → List ℕ → Option (Graph × List ℕ)
graph_at Triples cs = Some (Absent, cs)
graph_at Quads [] = Some (Absent, [])
graph_at Quads (c ∷ cs) = if c == 46 then Some (Absent, c ∷ cs) else resource_at (c ∷ cs) >>= as_graph

-- nothing, or a comment
abbrev pub end_at : List ℕ → Option (Unit {0})
end_at [] = Some tt
end_at (c ∷ cs) = if c == 35 && list_all is_comment_char cs then Some tt else None

-- a statement that begins here
unfoldable pub statement_at : Kind → List ℕ → Option Statement
statement_at kind cs = do
  s ← resource_at cs
  p' ← iri_at (skip s.1)
  o ← term_at (skip p'.1)
  c ← graph_at kind (skip o.1)
  d ← mark_at 46 c.1
  end ← end_at (skip d)
  Some (record { s = s.0; p = terms.Iri p'.0; o = o.0; c = c.0 })

-- a line, behind ws*
abbrev pub as_quad : Statement → Option (Option Statement)
as_quad q = Some (Some q)

abbrev pub as_none : Unit {0} → Option (Option Statement)
as_none x = Some None

abbrev pub line_from : Kind → List ℕ → Option (Option Statement)
line_from kind [] = Some None
line_from kind (c ∷ cs) = if c == 35 then end_at (c ∷ cs) >>= as_none else statement_at kind (c ∷ cs) >>= as_quad

abbrev pub line_at : Kind → List ℕ → Option (Option Statement)
line_at kind cs = line_from kind (skip cs)

-- a term and nothing after it
abbrev pub if_all : Term × List ℕ → Option Term
if_all x = if length x.1 == 0 then Some x.0 else None

abbrev pub whole_term_at : List ℕ → Option Term
whole_term_at cs = term_at cs >>= if_all
