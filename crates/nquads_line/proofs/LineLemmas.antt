-- What is read as a line is a line of the grammar, and a line of the grammar is read.
use Rattle.std.proofs.Common.{◌≡◌, ℕ, List, [], ◌∷◌, ◌++◌, Bool, true, false, ◌==◌, ◌&&◌, ◌||◌, refl, ap, ◌∙◌, sym, subst, append_assoc, append-nil, Option, Some, None, ◌⊎◌, inl, inr, codes, cond, length, ◌+◌}
use Rattle.std.specs.List.{list_all, prefix_len}
use Rattle.std.specs.Str.{IsUtf8, is_utf8, chars}
use Rattle.std.proofs.lemmas.Str.{chars_from_encodes, encodes-chars, scalars-chars, encodes_same, IsUtf8-from_is_utf8, is_utf8-from_IsUtf8}
use Rattle.rdf_term.specs.declared.term.Term.{Term}
use Rattle.rdf_term.specs.declared.term.Term.TheVariants.{Iri, Blank, Plain, Tagged, Typed}
use Rattle.rdf_term.specs.declared.graph.Graph.{Graph}
use Rattle.rdf_term.specs.declared.graph.Graph.TheVariants.{Absent, Named}
use Rattle.rdf_term.specs.Statement.{Statement}
use Rattle.rdf_term.specs.Terms.{IsResource, IsIri, IsGraph}
use Rattle.nquads_line.specs.declared.kind.Kind.{Kind}
use Rattle.nquads_line.specs.declared.kind.Kind.TheVariants.{Triples, Quads}
use Rattle.nquads_line.specs.Terms.{IsIriRef, IsTermText, is_space, is_comment_char, is_blank}
use Rattle.nquads_line.specs.Grammar.{IsLongest, IsComment, IsGraphText, IsStatementLine, IsLineText, IsLine, IsTerm}
use Rattle.nquads_line.specs.Reading.{◌>>=◌, skip, mark_at, iri_at, one_more, label_len, is_tag_char, resource_at, term_at, as_graph, graph_at, end_at, statement_at, as_quad, as_none, line_from, line_at, if_all, whole_term_at}
use Rattle.nquads_line.proofs.LabelLemmas.{longest_again}
use Rattle.nquads_line.proofs.TermLemmas.{skip_ok, skip_again, iri_ok, iri_again, resource_ok, term_ok, NoSuffix, Stops, resource_again, term_again, typed_begins, tagged_begins}
use Rattle.nquads_line.proofs.Steps.{chosen, take_then, take_else, both, split, either, equal, true_or_false, bind_ok, step, mark_ok}

-- from the reading to the grammar

end_ok : (cs : List ℕ) (x : Unit {0}) → end_at cs ≡ Some x → IsComment cs
end_ok [] x e = tt
end_ok (c ∷ cs) x e =
    elim (chosen (c == 35 && list_all is_comment_char cs) _ _ _ e) [
      | inl h ↦ (let parts = split (c == 35) (list_all is_comment_char cs) h.0 in (equal c 35 parts.0, parts.1))
      | inr h ↦ cc
    ]

abbrev IsGraphRead : Kind → List ℕ → Graph × List ℕ → Type 0
IsGraphRead kind cs x = (text : List ℕ) × (cs ≡ text ++ x.1) × IsGraphText kind text x.0 × IsGraph x.0

graph_ok : (kind : Kind) (cs : List ℕ) (x : Graph × List ℕ) → graph_at kind cs ≡ Some x → IsGraphRead kind cs x
graph_ok Triples cs x e = let same : (Absent, cs) ≡ x = cc in subst (IsGraphRead Triples cs) same ([], refl, refl, tt)
graph_ok Quads [] x e = let same : (Absent, []) ≡ x = cc in subst (IsGraphRead Quads []) same ([], refl, refl, tt)
graph_ok Quads (c ∷ cs) x e =
    elim (chosen (c == 46) _ _ _ e) [
      | inl h ↦ (let same : (Absent, c ∷ cs) ≡ x = cc in subst (IsGraphRead Quads (c ∷ cs)) same ([], refl, refl, tt))
      | inr h ↦ (let r = bind_ok (resource_at (c ∷ cs)) as_graph x h.1 in
          let t = resource_ok (c ∷ cs) r.0 r.1 in
          let k = skip_ok r.0.1 in
          let same : (Named r.0.0, skip r.0.1) ≡ x = (let f = r.2 in cc) in
          subst (IsGraphRead Quads (c ∷ cs)) same
          (t.0.0 ++ k.0, t.0.1 ∙ ap (λ l. t.0.0 ++ l) k.1 ∙ sym (append_assoc t.0.0 k.0 (skip r.0.1)), (t.0.0, k.0, refl, t.0.2, k.2), t.1))
    ]

statement_ok : (kind : Kind) (blank0 cs : List ℕ) (q : Statement) → is_blank blank0 ≡ true → statement_at kind cs ≡ Some q
    → IsStatementLine kind (blank0 ++ cs) q
unfolding statement_at
statement_ok kind blank0 cs q b e =
    let s = bind_ok (resource_at cs) _ q e in
    let p' = bind_ok (iri_at (skip s.0.1)) _ q s.2 in
    let o = bind_ok (term_at (skip p'.0.1)) _ q p'.2 in
    let c = bind_ok (graph_at kind (skip o.0.1)) _ q o.2 in
    let d = bind_ok (mark_at 46 c.0.1) _ q c.2 in
    let f = bind_ok (end_at (skip d.0)) _ q d.2 in
    let same : record { s = s.0.0; p = Iri p'.0.0; o = o.0.0; c = c.0.0 } ≡ q = (let g = f.2 in cc) in
    let s' = resource_ok cs s.0 s.1 in
    let k1 = skip_ok s.0.1 in
    let p'' = iri_ok (skip s.0.1) p'.0 p'.1 in
    let k2 = skip_ok p'.0.1 in
    let o' = term_ok (skip p'.0.1) o.0 o.1 in
    let k3 = skip_ok o.0.1 in
    let c' = graph_ok kind (skip o.0.1) c.0 c.1 in
    let k4 = skip_ok d.0 in
    let dot : c.0.1 ≡ 46 ∷ (k4.0 ++ skip d.0) = mark_ok 46 c.0.1 d.0 d.1 ∙ ap (λ l. 46 ∷ l) k4.1 in
    let after : o.0.1 ≡ k3.0 ++ (c'.0 ++ 46 ∷ (k4.0 ++ skip d.0)) = k3.1 ∙ ap (λ l. k3.0 ++ l) (c'.1 ∙ ap (λ l. c'.0 ++ l) dot) in
    let whole : IsStatementLine kind (blank0 ++ cs) (record { s = s.0.0; p = Iri p'.0.0; o = o.0.0; c = c.0.0 }) = record {
      s = s'.0.0;
      p' = p''.0;
      o = o'.0;
      c = c'.0;
      blank0 = blank0;
      blank1 = k1.0;
      blank2 = k2.0;
      blank3 = k3.0;
      blank4 = k4.0;
      comment = skip d.0;
      written = ap (λ l. blank0 ++ l) (s'.0.1 ∙ ap (λ l. s'.0.0 ++ l) (k1.1 ∙ ap (λ l. k1.0 ++ l) (p''.1
          ∙ ap (λ l. p''.0 ++ l) (k2.1 ∙ ap (λ l. k2.0 ++ l) (o'.1 ∙ ap (λ l. o'.0 ++ l) after)))));
      blanks = both (is_blank blank0) _ b (both (is_blank k1.0) _ k1.2 (both (is_blank k2.0) _ k2.2 (both (is_blank k3.0) _ k3.2 (both (is_blank k4.0) true k4.2 refl))));
      subject = s'.0.2;
      predicate = p''.2;
      object = o'.2;
      graph = c'.2;
      kinds = record { subject = s'.1; predicate = tt; graph = c'.3 };
      longest = subst (IsLongest o.0.0) after o'.3;
      is_comment = end_ok (skip d.0) f.0 f.1;
    } in
    subst (IsStatementLine kind (blank0 ++ cs)) same whole

from_ok : (kind : Kind) (blank behind : List ℕ) (r : Option Statement) → is_blank blank ≡ true → line_from kind behind ≡ Some r
    → IsLineText kind (blank ++ behind) r
from_ok kind blank [] r b e =
    let same : None ≡ r = cc in
    subst (IsLineText kind (blank ++ [])) same (record { blank = blank; comment = []; written = refl; is_blank_text = b; is_comment = tt })
from_ok kind blank (c ∷ cs) r b e =
    elim (chosen (c == 35) _ _ _ e) [
      | inl h ↦ (let n = bind_ok (end_at (c ∷ cs)) as_none r h.1 in
          let same : None ≡ r = (let f = n.2 in cc) in
          subst (IsLineText kind (blank ++ c ∷ cs)) same
          (record { blank = blank; comment = c ∷ cs; written = refl; is_blank_text = b; is_comment = end_ok (c ∷ cs) n.0 n.1 }))
      | inr h ↦ (let q = bind_ok (statement_at kind (c ∷ cs)) as_quad r h.1 in
          let same : Some q.0 ≡ r = (let f = q.2 in cc) in
          subst (IsLineText kind (blank ++ c ∷ cs)) same (statement_ok kind blank (c ∷ cs) q.0 b q.1))
    ]

pub line_ok : (kind : Kind) (cs : List ℕ) (r : Option Statement) → line_at kind cs ≡ Some r → IsLineText kind cs r
line_ok kind cs r e =
    let k = skip_ok cs in
    subst (λ l. IsLineText kind l r) (sym k.1) (from_ok kind k.0 (skip cs) r k.2 e)

-- from the grammar to the reading

-- the text of an IRI or a blank node begins with < or _, which is no character of a tag
resource_begins : (t : Term) (word : List ℕ) → IsResource t → IsTermText word t
    → (c : ℕ) × (inner : List ℕ) × (word ≡ c ∷ inner) × (is_space c ≡ false) × ((c == 35) ≡ false) × ((c == 46) ≡ false)
    × ((c == 64) ≡ false) × ((c == 94) ≡ false) × (is_tag_char c ≡ false)
resource_begins (Iri t) word k h = (60, h.inner, h.opened, refl, refl, refl, refl, refl, refl)
resource_begins (Blank t) word k h = (95, 58 ∷ t, h.1, refl, refl, refl, refl, refl, refl)
resource_begins (Plain t) word k h = absurd k
resource_begins (Tagged t u) word k h = absurd k
resource_begins (Typed t u) word k h = absurd k

term_begins : (t : Term) (word : List ℕ) → IsTermText word t → (c : ℕ) × (inner : List ℕ) × (word ≡ c ∷ inner) × (is_space c ≡ false)
term_begins (Iri t) word h = (60, h.inner, h.opened, refl)
term_begins (Blank t) word h = (95, 58 ∷ t, h.1, refl)
term_begins (Plain t) word h =
    elim h [
      | inl k ↦ (34, k.inner, k.opened, refl)
      | inr k ↦ (34, _, typed_begins word t _ k, refl)
    ]
term_begins (Tagged t u) word h = (34, _, tagged_begins word t u h, refl)
term_begins (Typed t u) word h = (34, _, typed_begins word t u h.0, refl)

skip_none : (word rest inner : List ℕ) (c : ℕ) → word ≡ c ∷ inner → is_space c ≡ false → skip (word ++ rest) ≡ word ++ rest
skip_none word rest inner c e h =
    ap (λ w. skip (w ++ rest)) e ∙ take_else (is_space c) (skip (inner ++ rest)) (c ∷ (inner ++ rest)) h ∙ ap (λ w. w ++ rest) (sym e)

skip_word : (blank word rest : List ℕ) (t : Term) → is_blank blank ≡ true → IsTermText word t → skip (blank ++ (word ++ rest)) ≡ word ++ rest
skip_word blank word rest t b h =
    let w = term_begins t word h in
    skip_again blank (word ++ rest) b ∙ skip_none word rest w.1 w.0 w.2 w.3

-- what follows an object: a graph's label or the dot
abbrev IsNext : List ℕ → Type 0
IsNext cs =
    (c : ℕ) × (inner : List ℕ) × (cs ≡ c ∷ inner) × (is_space c ≡ false) × ((c == 64) ≡ false) × ((c == 94) ≡ false) × (is_tag_char c ≡ false)

next_of : (kind : Kind) (text rest : List ℕ) (g : Graph) → IsGraphText kind text g → IsGraph g → IsNext (text ++ 46 ∷ rest)
next_of kind text rest Absent h k = (46, rest, ap (λ t. t ++ 46 ∷ rest) h, refl, refl, refl, refl)
next_of Triples text rest (Named name) h k = absurd h
next_of Quads text rest (Named name) h k =
    let w = resource_begins name h.0 k h.3 in
    (w.0, (w.1 ++ h.1) ++ 46 ∷ rest, ap (λ t. t ++ 46 ∷ rest) h.2 ∙ ap (λ t. (t ++ h.1) ++ 46 ∷ rest) w.2, w.3, w.6, w.7, w.8)

space_only : (f : ℕ → Bool) (c : ℕ) → is_space c ≡ true → f 32 ≡ false → f 9 ≡ false → f c ≡ false
space_only f c h a b =
    elim (either (32 == c) ((9 == c) || false) h) [
      | inl e ↦ ap f (sym (equal 32 c e)) ∙ a
      | inr e ↦ elim (either (9 == c) false e) [
        | inl k ↦ ap f (sym (equal 9 c k)) ∙ b
        | inr k ↦ cc
      ]
    ]

tag_stops : (blank cs : List ℕ) → is_blank blank ≡ true → IsNext cs → prefix_len is_tag_char (blank ++ cs) ≡ 0
tag_stops [] cs b n = ap (prefix_len is_tag_char) n.2 ∙ ap (λ v. cond v (1 + prefix_len is_tag_char n.1) 0) n.6
tag_stops (c ∷ blank) cs b n =
    ap (λ v. cond v (1 + prefix_len is_tag_char (blank ++ cs)) 0)
    (space_only is_tag_char c (split (is_space c) (is_blank blank) b).0 refl refl)

suffix_stops : (blank cs : List ℕ) → is_blank blank ≡ true → IsNext cs → NoSuffix (skip (blank ++ cs))
suffix_stops blank cs b n =
    let shown : skip (blank ++ cs) ≡ n.0 ∷ n.1 =
    skip_again blank cs b ∙ ap skip n.2 ∙ take_else (is_space n.0) (skip n.1) (n.0 ∷ n.1) n.3 in
    subst NoSuffix (sym shown) (n.4, n.5)

object_stops : (t : Term) (word blank cs : List ℕ) → IsTermText word t → IsLongest t (blank ++ cs) → is_blank blank ≡ true → IsNext cs → Stops t (blank ++ cs)
object_stops (Iri t) word blank cs h l b n = tt
object_stops (Blank t) word blank cs h l b n = longest_again t (blank ++ cs) h.0 l
object_stops (Plain t) word blank cs h l b n = suffix_stops blank cs b n
object_stops (Tagged t u) word blank cs h l b n = tag_stops blank cs b n
object_stops (Typed t u) word blank cs h l b n = tt

label_space : (c : ℕ) (cs : List ℕ) → is_space c ≡ true → label_len (c ∷ cs) ≡ 0
label_space c cs h =
    elim (either (32 == c) ((9 == c) || false) h) [
      | inl e ↦ ap (λ d. label_len (d ∷ cs)) (sym (equal 32 c e))
      | inr e ↦ elim (either (9 == c) false e) [
        | inl k ↦ ap (λ d. label_len (d ∷ cs)) (sym (equal 9 c k))
        | inr k ↦ cc
      ]
    ]

pub label_stops : (blank cs : List ℕ) → is_blank blank ≡ true → label_len cs ≡ 0 → label_len (blank ++ cs) ≡ 0
label_stops [] cs b z = z
label_stops (c ∷ blank) cs b z = label_space c (blank ++ cs) (split (is_space c) (is_blank blank) b).0

comment_stops : (cs : List ℕ) → IsComment cs → label_len cs ≡ 0
comment_stops [] h = refl
comment_stops (c ∷ cs) h = ap (λ d. label_len (d ∷ cs)) h.0

dot_stops : (cs : List ℕ) → label_len cs ≡ 0 → label_len (46 ∷ cs) ≡ 0
dot_stops cs z = ap one_more z

iri_stops : (word iri rest : List ℕ) → IsIriRef word iri → label_len (word ++ rest) ≡ 0
iri_stops word iri rest h = ap (λ w. label_len (w ++ rest)) h.opened

graph_again : (kind : Kind) (text rest : List ℕ) (g : Graph) → IsGraphText kind text g → IsGraph g → label_len (46 ∷ rest) ≡ 0
    → graph_at kind (text ++ 46 ∷ rest) ≡ Some (g, 46 ∷ rest)
graph_again Triples text rest Absent h k z = ap (λ t. graph_at Triples (t ++ 46 ∷ rest)) h
graph_again Quads text rest Absent h k z = ap (λ t. graph_at Quads (t ++ 46 ∷ rest)) h
graph_again Triples text rest (Named name) h k z = absurd h
graph_again Quads text rest (Named name) h k z =
    let w = resource_begins name h.0 k h.3 in
    let after = h.1 ++ 46 ∷ rest in
    let same : text ++ 46 ∷ rest ≡ h.0 ++ after = ap (λ t. t ++ 46 ∷ rest) h.2 ∙ append_assoc h.0 h.1 (46 ∷ rest) in
    let inner : h.0 ++ after ≡ w.0 ∷ (w.1 ++ after) = ap (λ t. t ++ after) w.2 in
    ap (graph_at Quads) (same ∙ inner)
    ∙ take_else (w.0 == 46) _ _ w.5
    ∙ ap (λ l. resource_at l >>= as_graph) (sym inner)
    ∙ ap (λ r. r >>= as_graph) (resource_again name h.0 after k h.3 (label_stops h.1 (46 ∷ rest) h.4 z))
    ∙ ap (λ l. Some (Named name, l)) (skip_again h.1 (46 ∷ rest) h.4)

end_again : (cs : List ℕ) → IsComment cs → end_at (skip cs) ≡ Some tt
end_again [] h = refl
end_again (c ∷ cs) h = ap (λ d. end_at (skip (d ∷ cs))) h.0 ∙ take_then (list_all is_comment_char cs) (Some tt) None h.1

iri_of : (t : Term) → IsIri t → (iri : List ℕ) × (t ≡ Iri iri)
iri_of (Iri iri) k = (iri, refl)
iri_of (Blank t) k = absurd k
iri_of (Plain t) k = absurd k
iri_of (Tagged t u) k = absurd k
iri_of (Typed t u) k = absurd k

statement_again : (kind : Kind) (text : List ℕ) (q : Statement) (h : IsStatementLine kind text q)
    → statement_at kind (h.s ++ (h.blank1 ++ (h.p' ++ (h.blank2 ++ (h.o ++ (h.blank3 ++ (h.c ++ (codes "." ++ (h.blank4 ++ h.comment))))))))) ≡ Some q
unfolding statement_at
statement_again kind text q h =
    let b0 = split (is_blank h.blank0) _ h.blanks in
    let b1 = split (is_blank h.blank1) _ b0.1 in
    let b2 = split (is_blank h.blank2) _ b1.1 in
    let b3 = split (is_blank h.blank3) _ b2.1 in
    let b4 = split (is_blank h.blank4) true b3.1 in
    let p'' = iri_of q.p h.kinds.predicate in
    let ref : IsIriRef h.p' p''.0 = subst (IsTermText h.p') p''.1 h.predicate in
    let after_dot = h.blank4 ++ h.comment in
    let after_o = h.blank3 ++ (h.c ++ 46 ∷ after_dot) in
    let after_p = h.blank2 ++ (h.o ++ after_o) in
    let after_s = h.blank1 ++ (h.p' ++ after_p) in
    let ends : label_len (46 ∷ after_dot) ≡ 0 = dot_stops after_dot (label_stops h.blank4 h.comment b4.0 (comment_stops h.comment h.is_comment)) in
    let next = next_of kind h.c after_dot q.c h.graph h.kinds.graph in
    let shown_c : skip after_o ≡ h.c ++ 46 ∷ after_dot =
    skip_again h.blank3 (h.c ++ 46 ∷ after_dot) b3.0 ∙ ap skip next.2 ∙ take_else (is_space next.0) (skip next.1) (next.0 ∷ next.1) next.3 ∙ sym next.2 in
    step (resource_at (h.s ++ after_s)) _ (q.s, after_s) q
    (resource_again q.s h.s after_s h.kinds.subject h.subject (label_stops h.blank1 (h.p' ++ after_p) b1.0 (iri_stops h.p' p''.0 after_p ref)))
    (step (iri_at (skip after_s)) _ (p''.0, after_p) q
    (ap iri_at (skip_word h.blank1 h.p' after_p q.p b1.0 h.predicate) ∙ iri_again h.p' p''.0 after_p ref)
    (step (term_at (skip after_p)) _ (q.o, after_o) q
    (ap term_at (skip_word h.blank2 h.o after_o q.o b2.0 h.object)
    ∙ term_again q.o h.o after_o h.object (object_stops q.o h.o h.blank3 (h.c ++ 46 ∷ after_dot) h.object h.longest b3.0 next))
    (step (graph_at kind (skip after_o)) _ (q.c, 46 ∷ after_dot) q
    (ap (graph_at kind) shown_c ∙ graph_again kind h.c after_dot q.c h.graph h.kinds.graph ends)
    (step (end_at (skip after_dot)) _ tt q
    (ap end_at (skip_again h.blank4 h.comment b4.0) ∙ end_again h.comment h.is_comment)
    (ap (λ t. Some (record { s = q.s; p = t; o = q.o; c = q.c })) (sym p''.1))))))

pub line_again : (kind : Kind) (text : List ℕ) (r : Option Statement) → IsLineText kind text r → line_at kind text ≡ Some r
line_again kind text None h = ap (λ t. line_from kind (skip t)) h.written ∙ ap (line_from kind) (skip_again h.blank h.comment h.is_blank_text) ∙ commented h.comment h.is_comment
  where
    commented : (cs : List ℕ) → IsComment cs → line_from kind (skip cs) ≡ Some None
    commented [] k = refl
    commented (c ∷ cs) k =
        ap (λ d. line_from kind (skip (d ∷ cs))) k.0
        ∙ ap (λ n. n >>= as_none) (take_then (list_all is_comment_char cs) (Some tt) None k.1)
line_again kind text (Some q) h =
    let w = resource_begins q.s h.s h.kinds.subject h.subject in
    let after_s = h.blank1 ++ (h.p' ++ (h.blank2 ++ (h.o ++ (h.blank3 ++ (h.c ++ (codes "." ++ (h.blank4 ++ h.comment))))))) in
    let shown : skip text ≡ h.s ++ after_s =
    ap skip h.written ∙ skip_word h.blank0 h.s after_s q.s (split (is_blank h.blank0) _ h.blanks).0 h.subject in
    let inner : h.s ++ after_s ≡ w.0 ∷ (w.1 ++ after_s) = ap (λ t. t ++ after_s) w.2 in
    ap (line_from kind) (shown ∙ inner)
    ∙ take_else (w.0 == 35) _ _ w.4
    ∙ ap (λ l. statement_at kind l >>= as_quad) (sym inner)
    ∙ ap (λ r. r >>= as_quad) (statement_again kind text q h)

-- bytes

pub line_read : (kind : Kind) (bytes items : List ℕ) (r : Option Statement) → IsUtf8 bytes → items ≡ chars bytes
    → line_at kind items ≡ Some r → IsLine kind bytes r
line_read kind bytes items r u same e =
    (chars bytes, scalars-chars bytes u, encodes-chars bytes u, line_ok kind (chars bytes) r (subst (λ l. line_at kind l ≡ Some r) same e))

pub line_refused : (kind : Kind) (bytes items : List ℕ) → IsUtf8 bytes → items ≡ chars bytes → line_at kind items ≡ None
    → (r : Option Statement) → IsLine kind bytes r → ⊥
line_refused kind bytes items u same e r h =
    let told : h.0 ≡ items = chars_from_encodes h.0 bytes u h.2 ∙ sym same in
    let read : line_at kind items ≡ Some r = subst (λ l. line_at kind l ≡ Some r) told (line_again kind h.0 r h.3) in
    cc

-- a text is a line, or it is none
pub line_or_none : (kind : Kind) (bytes : List ℕ)
    → ((q : Option Statement) × IsLine kind bytes q) ⊎ ((q : Option Statement) → IsLine kind bytes q → ⊥)
line_or_none kind bytes =
    elim (true_or_false (is_utf8 bytes)) [
      | inl u ↦ at (IsUtf8-from_is_utf8 bytes u) (line_at kind (chars bytes)) refl
      | inr n ↦ inr (λ q h. (let z : true ≡ false = sym (is_utf8-from_IsUtf8 bytes (h.0, (h.1, h.2))) ∙ n in cc))
    ]
  where
    at : IsUtf8 bytes → (r : Option (Option Statement)) → line_at kind (chars bytes) ≡ r
        → ((q : Option Statement) × IsLine kind bytes q) ⊎ ((q : Option Statement) → IsLine kind bytes q → ⊥)
    at u (Some q) e = inl (q, line_read kind bytes (chars bytes) q u refl e)
    at u None e = inr (line_refused kind bytes (chars bytes) u refl e)

pub line_once : (kind : Kind) (bytes : List ℕ) (q r : Option Statement) → IsLine kind bytes q → IsLine kind bytes r → q ≡ r
line_once kind bytes q r h k =
    let same : k.0 ≡ h.0 = encodes_same k.0 h.0 (k.2 ∙ sym h.2) in
    let a : line_at kind h.0 ≡ Some q = line_again kind h.0 q h.3 in
    let b : line_at kind h.0 ≡ Some r = subst (λ l. line_at kind l ≡ Some r) same (line_again kind k.0 r k.3) in
    cc

-- whole terms

all_ok : (y : Term × List ℕ) (t : Term) → if_all y ≡ Some t → y ≡ (t, [])
all_ok y t e =
    elim (chosen (length y.1 == 0) _ _ _ e) [
      | inl h ↦ (let same : y.0 ≡ t = cc in (λ i. (same i, empty y.1 (equal (length y.1) 0 h.0) i)))
      | inr h ↦ cc
    ]
  where
    empty : (l : List ℕ) → length l ≡ 0 → l ≡ []
    empty [] z = refl
    empty (c ∷ l) z = cc

term_text_ok : (cs : List ℕ) (t : Term) → whole_term_at cs ≡ Some t → IsTermText cs t
term_text_ok cs t e =
    let a = bind_ok (term_at cs) if_all t e in
    let s = all_ok a.0 t a.2 in
    let w = term_ok cs (t, []) (a.1 ∙ ap Some s) in
    subst (λ l. IsTermText l t) (sym (w.1 ∙ append-nil w.0)) w.2

nothing_stops : (t : Term) → Stops t []
nothing_stops (Iri t) = tt
nothing_stops (Blank t) = refl
nothing_stops (Plain t) = tt
nothing_stops (Tagged t u) = refl
nothing_stops (Typed t u) = tt

term_text_again : (cs : List ℕ) (t : Term) → IsTermText cs t → whole_term_at cs ≡ Some t
term_text_again cs t h =
    step (term_at cs) if_all (t, []) t (ap term_at (sym (append-nil cs)) ∙ term_again t cs [] h (nothing_stops t)) refl

pub term_read : (bytes items : List ℕ) (t : Term) → IsUtf8 bytes → items ≡ chars bytes → whole_term_at items ≡ Some t → IsTerm bytes t
term_read bytes items t u same e =
    (chars bytes, scalars-chars bytes u, encodes-chars bytes u, term_text_ok (chars bytes) t (subst (λ l. whole_term_at l ≡ Some t) same e))

pub term_refused : (bytes items : List ℕ) → IsUtf8 bytes → items ≡ chars bytes → whole_term_at items ≡ None
    → (t : Term) → IsTerm bytes t → ⊥
term_refused bytes items u same e t h =
    let told : h.0 ≡ items = chars_from_encodes h.0 bytes u h.2 ∙ sym same in
    let read : whole_term_at items ≡ Some t = subst (λ l. whole_term_at l ≡ Some t) told (term_text_again h.0 t h.3) in
    cc

pub term_once : (bytes : List ℕ) (t v : Term) → IsTerm bytes t → IsTerm bytes v → t ≡ v
term_once bytes t v h k =
    let same : k.0 ≡ h.0 = encodes_same k.0 h.0 (k.2 ∙ sym h.2) in
    let a : whole_term_at h.0 ≡ Some t = term_text_again h.0 t h.3 in
    let b : whole_term_at h.0 ≡ Some v = subst (λ l. whole_term_at l ≡ Some v) same (term_text_again k.0 v k.3) in
    cc
