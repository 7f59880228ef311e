-- What is read as a term is the text of one, and the text of one is read.
use Rattle.std.proofs.Common.{◌≡◌, ◌≢◌, ℕ, suc, ◌+◌, List, [], ◌∷◌, ◌++◌, Bool, true, false, ◌==◌, ◌&&◌, ◌||◌, refl, ap, ◌∙◌, sym, subst, drop, take, length, append_assoc, Option, Some, None, arith, inl, inr, if◌then◌else◌, codes, cond}
use Rattle.std.specs.List.{prefix_len}
use Rattle.std.specs.Str.{bytes_eq}
use Rattle.std.proofs.lemmas.Slice.Eq.{bytes_eq-Decides}
use Rattle.std.proofs.lemmas.List.{take-append-drop}
use Rattle.std.proofs.Math.Seq.{take-append_seam, drop-append_seam}
use Rattle.rdf_term.specs.declared.term.Term.{Term}
use Rattle.rdf_term.specs.declared.term.Term.TheVariants.{Iri, Blank, Plain, Tagged, Typed}
use Rattle.rdf_term.specs.Terms.{IsResource}
use Rattle.rdf_term.specs.Classes.{is_letter, is_digit}
use Rattle.rdf_term.specs.Validity.{has_scheme, is_label, is_tag, is_tag_from, xsd_string}
use Rattle.rdf_term.specs.TagLaws.{is_tag-automaton}
use Rattle.nquads_line.specs.declared.quoted.Quoted.TheVariants as quoted
use Rattle.nquads_line.specs.Terms.{IsIriRef, IsString, IsTypedText, IsTaggedText, IsTermText, is_space, is_blank}
use Rattle.nquads_line.specs.Grammar.{IsLongest}
use Rattle.nquads_line.specs.Reading.{◌>>=◌, skip, mark_at, body_at, if_schemed, iri_at, label_len, label_at, is_tag_char, tag_at, typed, datatype_at, tagged_at, suffix_at, literal_at, as_iri, as_blank, resource_at, term_at}
use Rattle.nquads_line.proofs.TagLemmas.{part_of}
use Rattle.nquads_line.proofs.LabelLemmas.{label_ok, label_again, longest_ok}
use Rattle.nquads_line.proofs.BodyLemmas.{written_ok, written_again}
use Rattle.nquads_line.proofs.Steps.{chosen, take_then, take_else, both, split, either, or_left, or_right, true_or_false, equal, bind_ok, step, mark_ok}

-- white space

pub skip_ok : (cs : List ℕ) → (blank : List ℕ) × (cs ≡ blank ++ skip cs) × (is_blank blank ≡ true)
skip_ok [] = ([], refl, refl)
skip_ok (c ∷ cs) =
    elim (true_or_false (is_space c)) [
      | inl h ↦ (let i = skip_ok cs in
          (c ∷ i.0, ap (λ l. c ∷ l) i.1 ∙ ap (λ l. c ∷ (i.0 ++ l)) (sym (take_then (is_space c) (skip cs) (c ∷ cs) h)), both (is_space c) (is_blank i.0) h i.2))
      | inr h ↦ ([], sym (take_else (is_space c) (skip cs) (c ∷ cs) h), refl)
    ]

pub skip_again : (blank cs : List ℕ) → is_blank blank ≡ true → skip (blank ++ cs) ≡ skip cs
skip_again [] cs h = refl
skip_again (c ∷ blank) cs h =
    let parts = split (is_space c) (is_blank blank) h in
    take_then (is_space c) (skip (blank ++ cs)) (c ∷ (blank ++ cs)) parts.0 ∙ skip_again blank cs parts.1

-- IRIs

schemed_ok : (y x : List ℕ × List ℕ) → if_schemed y ≡ Some x → (y ≡ x) × (has_scheme x.0 ≡ true)
schemed_ok y x e =
    elim (chosen (has_scheme y.0) _ _ _ e) [
      | inl h ↦ (let same : y ≡ x = cc in (same, subst (λ z. has_scheme z.0 ≡ true) same h.0))
      | inr h ↦ cc
    ]

pub iri_ok : (cs : List ℕ) (x : List ℕ × List ℕ) → iri_at cs ≡ Some x → (word : List ℕ) × (cs ≡ word ++ x.1) × IsIriRef word x.0
unfolding iri_at
iri_ok cs x e =
    let a = bind_ok (mark_at 60 cs) _ x e in
    let b = bind_ok (body_at quoted.Iri a.0 0) if_schemed x a.2 in
    let s = schemed_ok b.0 x b.2 in
    let w = written_ok quoted.Iri a.0 x (b.1 ∙ ap Some s.0) in
    (60 ∷ w.0, mark_ok 60 cs a.0 a.1 ∙ ap (λ l. 60 ∷ l) w.1, record { inner = w.0; opened = refl; written = w.2; scheme = s.1 })

pub iri_again : (word iri rest : List ℕ) → IsIriRef word iri → iri_at (word ++ rest) ≡ Some (iri, rest)
unfolding iri_at
iri_again word iri rest h =
    subst (λ w. iri_at (w ++ rest) ≡ Some (iri, rest)) (sym h.opened)
    (step (body_at quoted.Iri (h.inner ++ rest) 0) if_schemed (iri, rest) (iri, rest) (written_again quoted.Iri h.inner iri rest h.written)
    (take_then (has_scheme iri) (Some (iri, rest)) None h.scheme))

-- tags

tag_ok : (cs : List ℕ) (x : List ℕ × List ℕ) → tag_at cs ≡ Some x → (cs ≡ x.0 ++ x.1) × (is_tag x.0 ≡ true)
tag_ok cs x e =
    elim (chosen (is_tag (take (prefix_len is_tag_char cs) cs)) _ _ _ e) [
      | inl h ↦ (let same : (take (prefix_len is_tag_char cs) cs, drop (prefix_len is_tag_char cs) cs) ≡ x = cc in
          subst (λ y. (cs ≡ y.0 ++ y.1) × (is_tag y.0 ≡ true)) same (sym (take-append-drop (prefix_len is_tag_char cs) cs), h.0))
      | inr h ↦ cc
    ]

part_char : (d : Bool) (c : ℕ) → part_of d c ≡ true → is_tag_char c ≡ true
part_char false c h = or_left (is_letter c || is_digit c) (c == 45) (or_left (is_letter c) (is_digit c) h)
part_char true c h = or_left (is_letter c || is_digit c) (c == 45) h

tag_len_exact : (begun d : Bool) (cs rest : List ℕ) → is_tag_from begun (part_of d) cs ≡ true → prefix_len is_tag_char rest ≡ 0
    → prefix_len is_tag_char (cs ++ rest) ≡ length cs
tag_len_exact begun d [] rest h z = z
tag_len_exact begun d (c ∷ cs) rest h z =
    elim (either (part_of d c && is_tag_from true (part_of d) cs) (c == 45 && begun && is_tag_from false (part_of true) cs) h) [
      | inl k ↦ (let parts = split (part_of d c) (is_tag_from true (part_of d) cs) k in
          more c cs rest (part_char d c parts.0) (tag_len_exact true d cs rest parts.1 z))
      | inr k ↦ (let parts = split (c == 45 && begun) (is_tag_from false (part_of true) cs) k in
          more c cs rest (or_right (is_letter c || is_digit c) (c == 45) (split (c == 45) begun parts.0).0) (tag_len_exact false true cs rest parts.1 z))
    ]
  where
    more : (c : ℕ) (cs rest : List ℕ) → is_tag_char c ≡ true → prefix_len is_tag_char (cs ++ rest) ≡ length cs
        → prefix_len is_tag_char (c ∷ (cs ++ rest)) ≡ suc (length cs)
    more c cs rest h e = at (is_tag_char c) h
      where
        at : (b : Bool) → b ≡ true → cond b (1 + prefix_len is_tag_char (cs ++ rest)) 0 ≡ suc (length cs)
        at true k = omega arith
        at false k = cc

tag_again : (tag rest : List ℕ) → is_tag tag ≡ true → prefix_len is_tag_char rest ≡ 0 → tag_at (tag ++ rest) ≡ Some (tag, rest)
tag_again tag rest h z =
    ap (cut (tag ++ rest)) (tag_len_exact false false tag rest (sym (is_tag-automaton tag) ∙ h) z)
    ∙ ap (λ t. parted t (drop (length tag) (tag ++ rest))) (take-append_seam tag rest)
    ∙ ap (parted tag) (drop-append_seam tag rest) ∙ take_then (is_tag tag) (Some (tag, rest)) None h
  where
    parted : List ℕ → List ℕ → Option (List ℕ × List ℕ)
    parted t r = if is_tag t then Some (t, r) else None

    cut : List ℕ → ℕ → Option (List ℕ × List ℕ)
    cut cs n = parted (take n cs) (drop n cs)

-- literals

-- the text of a term before what is left, where no more of it belongs to a label
abbrev pub IsToken : List ℕ → Term × List ℕ → Type 0
IsToken cs x = (word : List ℕ) × (cs ≡ word ++ x.1) × IsTermText word x.0 × IsLongest x.0 x.1

typed_text : (word text d : List ℕ) → IsTypedText word text d → IsTermText word (typed text d)
typed_text word text d h = at (bytes_eq d xsd_string) refl
  where
    at : (b : Bool) → bytes_eq d xsd_string ≡ b → IsTermText word (if b then Plain text else Typed text d)
    at true e = inr (subst (IsTypedText word text) ((bytes_eq-Decides d xsd_string).0 e) h)
    at false e = (h, λ q. (let z : true ≡ false = sym ((bytes_eq-Decides d xsd_string).1 q) ∙ e in cc))

typed_longest : (text d rest : List ℕ) → IsLongest (typed text d) rest
typed_longest text d rest = at (bytes_eq d xsd_string)
  where
    at : (b : Bool) → IsLongest (if b then Plain text else Typed text d) rest
    at true = tt
    at false = tt

typed_plain : (text d : List ℕ) → d ≡ xsd_string → typed text d ≡ Plain text
typed_plain text d e = take_then (bytes_eq d xsd_string) (Plain text) (Typed text d) ((bytes_eq-Decides d xsd_string).1 e)

typed_other : (text d : List ℕ) → d ≢ xsd_string → typed text d ≡ Typed text d
typed_other text d n =
    elim (true_or_false (bytes_eq d xsd_string)) [
      | inl h ↦ absurd (n ((bytes_eq-Decides d xsd_string).0 h))
      | inr h ↦ take_else (bytes_eq d xsd_string) (Plain text) (Typed text d) h
    ]

plain_token : (string text rest : List ℕ) (x : Term × List ℕ) → IsString string text → (Plain text, rest) ≡ x → IsToken (string ++ rest) x
plain_token string text rest x s same = subst (IsToken (string ++ rest)) same (string, refl, inl s, tt)

tagged_ok : (string text blank cs : List ℕ) (x : Term × List ℕ) → IsString string text → is_blank blank ≡ true
    → tagged_at text cs ≡ Some x → IsToken (string ++ (blank ++ 64 ∷ cs)) x
unfolding tagged_at
tagged_ok string text blank cs x s b e =
    let t = bind_ok (tag_at cs) _ x e in
    let g = tag_ok cs t.0 t.1 in
    let same : (Tagged text t.0.0, t.0.1) ≡ x = (let f = t.2 in cc) in
    subst (IsToken (string ++ (blank ++ 64 ∷ cs))) same (
      string ++ (blank ++ 64 ∷ t.0.0),
      ap (λ l. string ++ (blank ++ 64 ∷ l)) g.0 ∙ regroup string blank t.0.0 t.0.1,
      record { string = string; before = blank; written = refl; is_string = s; before_blank = b; is_tag_text = g.1 },
      tt,
    )
  where
    regroup : (a b c d : List ℕ) → a ++ (b ++ 64 ∷ (c ++ d)) ≡ (a ++ (b ++ 64 ∷ c)) ++ d
    regroup a b c d = simp append_assoc

datatype_ok : (string text blank cs : List ℕ) (x : Term × List ℕ) → IsString string text → is_blank blank ≡ true
    → datatype_at text cs ≡ Some x → IsToken (string ++ (blank ++ 94 ∷ cs)) x
unfolding datatype_at
datatype_ok string text blank cs x s b e =
    let a = bind_ok (mark_at 94 cs) _ x e in
    let i = bind_ok (iri_at (skip a.0)) _ x a.2 in
    let k = skip_ok a.0 in
    let w = iri_ok (skip a.0) i.0 i.1 in
    let same : (typed text i.0.0, i.0.1) ≡ x = (let f = i.2 in cc) in
    let whole : IsTypedText (string ++ (blank ++ 94 ∷ 94 ∷ (k.0 ++ w.0))) text i.0.0 =
    record { string = string; before = blank; after = k.0; name = w.0; written = refl; is_string = s; before_blank = b; after_blank = k.2; is_name = w.2 } in
    subst (IsToken (string ++ (blank ++ 94 ∷ cs))) same (
      string ++ (blank ++ 94 ∷ 94 ∷ (k.0 ++ w.0)),
      ap (λ l. string ++ (blank ++ 94 ∷ l)) (mark_ok 94 cs a.0 a.1 ∙ ap (λ l. 94 ∷ l) (k.1 ∙ ap (λ l. k.0 ++ l) w.1)) ∙ regroup string blank k.0 w.0 i.0.1,
      typed_text _ text i.0.0 whole,
      typed_longest text i.0.0 i.0.1,
    )
  where
    regroup : (a b c d f : List ℕ) → a ++ (b ++ 94 ∷ 94 ∷ (c ++ (d ++ f))) ≡ (a ++ (b ++ 94 ∷ 94 ∷ (c ++ d))) ++ f
    regroup a b c d f = simp append_assoc

suffix_ok : (string text blank behind : List ℕ) (x : Term × List ℕ) → IsString string text → is_blank blank ≡ true
    → suffix_at text (blank ++ behind) behind ≡ Some x → IsToken (string ++ (blank ++ behind)) x
suffix_ok string text blank [] x s b e = plain_token string text (blank ++ []) x s (let f : (Plain text, blank ++ []) ≡ x = cc in f)
suffix_ok string text blank (c ∷ cs) x s b e =
    elim (chosen (c == 64) _ _ _ e) [
      | inl h ↦ subst (λ d. IsToken (string ++ (blank ++ d ∷ cs)) x) (sym (equal c 64 h.0)) (tagged_ok string text blank cs x s b h.1)
      | inr h ↦ elim (chosen (c == 94) _ _ _ h.1) [
        | inl k ↦ subst (λ d. IsToken (string ++ (blank ++ d ∷ cs)) x) (sym (equal c 94 k.0)) (datatype_ok string text blank cs x s b k.1)
        | inr k ↦ plain_token string text (blank ++ c ∷ cs) x s (let f : (Plain text, blank ++ c ∷ cs) ≡ x = cc in f)
      ]
    ]

literal_ok : (cs : List ℕ) (x : Term × List ℕ) → literal_at cs ≡ Some x → IsToken cs x
unfolding literal_at
literal_ok cs x e =
    let a = bind_ok (mark_at 34 cs) _ x e in
    let b = bind_ok (body_at quoted.Literal a.0 0) _ x a.2 in
    let w = written_ok quoted.Literal a.0 b.0 b.1 in
    let s : IsString (34 ∷ w.0) b.0.0 = record { inner = w.0; opened = refl; written = w.2 } in
    let k = skip_ok b.0.1 in
    let t = suffix_ok (34 ∷ w.0) b.0.0 k.0 (skip b.0.1) x s k.2 (subst (λ r. suffix_at b.0.0 r (skip b.0.1) ≡ Some x) k.1 b.2) in
    (t.0, mark_ok 34 cs a.0 a.1 ∙ ap (λ l. 34 ∷ l) w.1 ∙ ap (λ l. 34 ∷ (w.0 ++ l)) k.1 ∙ t.1, t.2, t.3)

-- neither a tag nor a datatype follows
abbrev pub NoSuffix : List ℕ → Type 0
NoSuffix [] = Unit {0}
NoSuffix (c ∷ cs) = ((c == 64) ≡ false) × ((c == 94) ≡ false)

no_suffix : (text rest behind : List ℕ) → NoSuffix behind → suffix_at text rest behind ≡ Some (Plain text, rest)
no_suffix text rest [] n = refl
no_suffix text rest (c ∷ cs) n = take_else (c == 64) _ _ n.0 ∙ take_else (c == 94) _ _ n.1

string_again : (string text rest : List ℕ) (x : Term × List ℕ) → IsString string text → suffix_at text rest (skip rest) ≡ Some x
    → literal_at (string ++ rest) ≡ Some x
unfolding literal_at
string_again string text rest x s e =
    subst (λ w. literal_at (w ++ rest) ≡ Some x) (sym s.opened)
    (step (body_at quoted.Literal (s.inner ++ rest) 0) (λ y. suffix_at y.0 y.1 (skip y.1)) (text, rest) x (written_again quoted.Literal s.inner text rest s.written) e)

tagged_again : (word text tag rest : List ℕ) → IsTaggedText word text tag → prefix_len is_tag_char rest ≡ 0
    → literal_at (word ++ rest) ≡ Some (Tagged text tag, rest)
unfolding tagged_at
tagged_again word text tag rest h z =
    let after = h.before ++ 64 ∷ (tag ++ rest) in
    let same : word ++ rest ≡ h.string ++ after = ap (λ w. w ++ rest) h.written ∙ regroup h.string h.before tag rest in
    let tags : tagged_at text (tag ++ rest) ≡ Some (Tagged text tag, rest) =
    step (tag_at (tag ++ rest)) (λ y. Some (Tagged text y.0, y.1)) (tag, rest) (Tagged text tag, rest) (tag_again tag rest h.is_tag_text z) refl in
    ap literal_at same
    ∙ string_again h.string text after (Tagged text tag, rest) h.is_string
    (ap (suffix_at text after) (skip_again h.before (64 ∷ (tag ++ rest)) h.before_blank) ∙ tags)
  where
    regroup : (a b c d : List ℕ) → (a ++ (b ++ (codes "@" ++ c))) ++ d ≡ a ++ (b ++ 64 ∷ (c ++ d))
    regroup a b c d = simp append_assoc

pub begins_iri : (word iri : List ℕ) → IsIriRef word iri → (rest : List ℕ) → skip (word ++ rest) ≡ word ++ rest
begins_iri word iri h rest = subst (λ w. skip (w ++ rest) ≡ w ++ rest) (sym h.opened) refl

typed_again : (word text d rest : List ℕ) → IsTypedText word text d → literal_at (word ++ rest) ≡ Some (typed text d, rest)
unfolding datatype_at
typed_again word text d rest h =
    let after = h.before ++ 94 ∷ 94 ∷ (h.after ++ (h.name ++ rest)) in
    let same : word ++ rest ≡ h.string ++ after = ap (λ w. w ++ rest) h.written ∙ regroup h.string h.before h.after h.name rest in
    let shown : skip (h.after ++ (h.name ++ rest)) ≡ h.name ++ rest = skip_again h.after (h.name ++ rest) h.after_blank ∙ begins_iri h.name d h.is_name rest in
    let data' : datatype_at text (94 ∷ (h.after ++ (h.name ++ rest))) ≡ Some (typed text d, rest) =
    step (iri_at (skip (h.after ++ (h.name ++ rest)))) (λ y. Some (typed text y.0, y.1)) (d, rest) (typed text d, rest) (ap iri_at shown ∙ iri_again h.name d rest h.is_name) refl in
    ap literal_at same
    ∙ string_again h.string text after (typed text d, rest) h.is_string
    (ap (suffix_at text after) (skip_again h.before (94 ∷ 94 ∷ (h.after ++ (h.name ++ rest))) h.before_blank) ∙ data')
  where
    regroup : (a b c d f : List ℕ) → (a ++ (b ++ (codes "^^" ++ (c ++ d)))) ++ f ≡ a ++ (b ++ 94 ∷ 94 ∷ (c ++ (d ++ f)))
    regroup a b c d f = simp append_assoc

-- terms

pub resource_ok : (cs : List ℕ) (x : Term × List ℕ) → resource_at cs ≡ Some x → IsToken cs x × IsResource x.0
resource_ok [] x e = cc
resource_ok (c ∷ cs) x e =
    elim (chosen (c == 60) _ _ _ e) [
      | inl h ↦ (let b = bind_ok (iri_at (c ∷ cs)) as_iri x h.1 in
          let w = iri_ok (c ∷ cs) b.0 b.1 in
          let same : (Iri b.0.0, b.0.1) ≡ x = (let f = b.2 in cc) in
          subst (λ y. IsToken (c ∷ cs) y × IsResource y.0) same ((w.0, w.1, w.2, tt), tt))
      | inr h ↦ (let b = bind_ok (label_at (c ∷ cs)) as_blank x h.1 in
          let w = label_ok (c ∷ cs) b.0 b.1 in
          let same : (Blank b.0.0, b.0.1) ≡ x = (let f = b.2 in cc) in
          subst (λ y. IsToken (c ∷ cs) y × IsResource y.0) same ((95 ∷ 58 ∷ b.0.0, w.0, (w.1, refl), longest_ok b.0.0 b.0.1 w.1 w.2), tt))
    ]

pub term_ok : (cs : List ℕ) (x : Term × List ℕ) → term_at cs ≡ Some x → IsToken cs x
term_ok [] x e = cc
term_ok (c ∷ cs) x e =
    elim (chosen (c == 34) _ _ _ e) [
      | inl h ↦ literal_ok (c ∷ cs) x h.1
      | inr h ↦ (resource_ok (c ∷ cs) x h.1).0
    ]

-- what follows is no more of the term
abbrev pub Stops : Term → List ℕ → Type 0
Stops (Iri t) rest = Unit {0}
Stops (Blank t) rest = label_len rest ≡ 0
Stops (Plain t) rest = NoSuffix (skip rest)
Stops (Tagged t u) rest = prefix_len is_tag_char rest ≡ 0
Stops (Typed t u) rest = Unit {0}

iri_resource : (word iri rest : List ℕ) → IsIriRef word iri → resource_at (word ++ rest) ≡ Some (Iri iri, rest)
iri_resource word iri rest h =
    let read : iri_at (60 ∷ (h.inner ++ rest)) ≡ Some (iri, rest) = subst (λ w. iri_at (w ++ rest) ≡ Some (iri, rest)) h.opened (iri_again word iri rest h) in
    ap (λ w. resource_at (w ++ rest)) h.opened ∙ ap (λ r. r >>= as_iri) read

label_resource : (word label rest : List ℕ) → is_label label ≡ true → word ≡ 95 ∷ 58 ∷ label → label_len rest ≡ 0
    → resource_at (word ++ rest) ≡ Some (Blank label, rest)
label_resource word label rest h e z =
    ap (λ w. resource_at (w ++ rest)) e ∙ ap (λ r. r >>= as_blank) (label_again label rest h z)

pub resource_again : (t : Term) (word rest : List ℕ) → IsResource t → IsTermText word t → label_len rest ≡ 0
    → resource_at (word ++ rest) ≡ Some (t, rest)
resource_again (Iri iri) word rest k h z = iri_resource word iri rest h
resource_again (Blank label) word rest k h z = label_resource word label rest h.0 h.1 z
resource_again (Plain t) word rest k h z = absurd k
resource_again (Tagged t u) word rest k h z = absurd k
resource_again (Typed t u) word rest k h z = absurd k

-- a text that begins with a quotation mark is read as a literal
as_literal : (word inner rest : List ℕ) (x : Term × List ℕ) → word ≡ 34 ∷ inner → literal_at (word ++ rest) ≡ Some x
    → term_at (word ++ rest) ≡ Some x
as_literal word inner rest x e h = ap (λ w. term_at (w ++ rest)) e ∙ ap (λ w. literal_at (w ++ rest)) (sym e) ∙ h

pub typed_begins : (word text d : List ℕ) (h : IsTypedText word text d) → word ≡ 34 ∷ (h.is_string.inner ++ (h.before ++ (codes "^^" ++ (h.after ++ h.name))))
typed_begins word text d h = h.written ∙ ap (λ w. w ++ (h.before ++ (codes "^^" ++ (h.after ++ h.name)))) h.is_string.opened

pub tagged_begins : (word text tag : List ℕ) (h : IsTaggedText word text tag) → word ≡ 34 ∷ (h.is_string.inner ++ (h.before ++ (codes "@" ++ tag)))
tagged_begins word text tag h = h.written ∙ ap (λ w. w ++ (h.before ++ (codes "@" ++ tag))) h.is_string.opened

pub term_again : (t : Term) (word rest : List ℕ) → IsTermText word t → Stops t rest → term_at (word ++ rest) ≡ Some (t, rest)
term_again (Iri iri) word rest h s = ap (λ w. term_at (w ++ rest)) h.opened ∙ ap (λ w. resource_at (w ++ rest)) (sym h.opened) ∙ iri_resource word iri rest h
term_again (Blank label) word rest h s = ap (λ w. term_at (w ++ rest)) h.1 ∙ ap (λ w. resource_at (w ++ rest)) (sym h.1) ∙ label_resource word label rest h.0 h.1 s
term_again (Plain text) word rest h s =
    elim h [
      | inl k ↦ as_literal word k.inner rest (Plain text, rest) k.opened
          (string_again word text rest (Plain text, rest) k (no_suffix text rest (skip rest) s))
      | inr k ↦ as_literal word _ rest (Plain text, rest) (typed_begins word text xsd_string k)
          (typed_again word text xsd_string rest k ∙ ap (λ t. Some (t, rest)) (typed_plain text xsd_string refl))
    ]
term_again (Tagged text tag) word rest h s = as_literal word _ rest (Tagged text tag, rest) (tagged_begins word text tag h) (tagged_again word text tag rest h s)
term_again (Typed text d) word rest h s =
    as_literal word _ rest (Typed text d, rest) (typed_begins word text d h.0)
    (typed_again word text d rest h.0 ∙ ap (λ t. Some (t, rest)) (typed_other text d h.1))
