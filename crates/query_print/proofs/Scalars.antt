-- What is printed of a well-formed query is a text of Unicode characters.
use Rattle.std.proofs.Common.{◌≡◌, ◌<◌, ◌^◌, ◌==◌, ◌&&◌, ℕ, zero, suc, Bool, true, false, not, if◌then◌else◌, List, [], ◌∷◌, ◌++◌, refl, subst, map, codes, arith, Option, Some, None}
use Rattle.std.specs.List.{flat_map, AllByRecursion}
use Rattle.std.specs.Fmt.{decimal}
use Rattle.std.specs.Str.{all_scalars, bytes_eq}
use Rattle.std.proofs.lemmas.Fmt.{IsAscii-decimal}
use Rattle.std.proofs.lemmas.Str.{IsUtf8-from_ascii, chars-IsAscii, scalars-chars}
use lib.Utf8.{scalar}
use Rattle.rdf_term.specs.declared.term.Term.{Term}
use Rattle.rdf_term.specs.declared.term.Term.TheVariants as term
use Rattle.rdf_term.specs.Canonical.{escaped, quoted, term_text}
use Rattle.rdf_term.specs.Validity.{IsValidTerm, is_iri_text, is_label as is_term_label, is_part, is_short, is_tag, xsd_string}
use Rattle.query_print.proofs.Truths.{both, split}
use Rattle.query_model.specs.declared.query.Slot.{Slot}
use Rattle.query_model.specs.declared.query.Slot.TheVariants as slot
use Rattle.query_model.specs.declared.query.Scope.{Scope}
use Rattle.query_model.specs.declared.query.Scope.TheVariants as scope
use Rattle.query_model.specs.declared.query.TriplePattern.{TriplePattern}
use Rattle.query_model.specs.declared.query.Cut.{Cut}
use Rattle.query_model.specs.declared.query.Query.{Query}
use Rattle.query_model.specs.declared.query.Query.TheVariants as query
use Rattle.query_print.specs.Printed.{var_text, slot_text, triple_words, in_scope, pattern_words, group_words, projection_words, distinct_words, limit_words, offset_words, cut_words, spaced, printed}
use Rattle.query_model.specs.WellFormed.{is_var_name, is_label, IsVarName, IsFixed, IsSlot, IsVarOrIri, IsScope, IsPattern, IsTemplatePattern, IsLimit, IsCount, IsCut, IsWellFormed}
use Rattle.query_print.proofs.PutLemmas.{spaced-append}

pub scalars_append : (a b : List ℕ) → all_scalars a ≡ true → all_scalars b ≡ true → all_scalars (a ++ b) ≡ true
scalars_append [] b h k = k
scalars_append (c ∷ a) b h k =
    let parts = split (scalar c) (all_scalars a) h in
    both (scalar c) (all_scalars (a ++ b)) parts.0 (scalars_append a b parts.1 k)

escaped_scalars_at : (a b d e : Bool) (c : ℕ) → scalar c ≡ true
    → all_scalars (if a then codes "\\\"" else if b then codes "\\\\" else if d then codes "\\n" else if e then codes "\\r" else c ∷ []) ≡ true
escaped_scalars_at true b d e c h = refl
escaped_scalars_at false true d e c h = refl
escaped_scalars_at false false true e c h = refl
escaped_scalars_at false false false true c h = refl
escaped_scalars_at false false false false c h = both (scalar c) true h refl

escaped_scalars : (cs : List ℕ) → all_scalars cs ≡ true → all_scalars (flat_map escaped cs) ≡ true
escaped_scalars [] h = refl
escaped_scalars (c ∷ cs) h =
    let parts = split (scalar c) (all_scalars cs) h in
    scalars_append (escaped c) (flat_map escaped cs) (escaped_scalars_at (c == 34) (c == 92) (c == 10) (c == 13) c parts.0) (escaped_scalars cs parts.1)

part_scalars : (part : List ℕ) → is_part part ≡ true → all_scalars part ≡ true
part_scalars part h = (split (all_scalars part) (is_short part) h).0

quoted_scalars : (cs : List ℕ) → all_scalars cs ≡ true → all_scalars (quoted cs) ≡ true
quoted_scalars cs h = scalars_append (flat_map escaped cs) (codes "\"") (escaped_scalars cs h) refl

-- so is the canonical text of a valid term
term_scalars : (t : Term) → IsValidTerm t → all_scalars (term_text t) ≡ true
term_scalars (term.Iri iri) h = scalars_append iri (codes ">") (part_scalars iri (split (is_part iri) (is_iri_text iri) h).0) refl
term_scalars (term.Blank label) h = part_scalars label (split (is_part label) (is_term_label label) h).0
term_scalars (term.Plain text) h = quoted_scalars text (part_scalars text h)
term_scalars (term.Tagged text tag) h =
    let parts = split (is_part text) (is_part tag) (split (is_part text && is_part tag) (is_tag tag) h).0 in
    scalars_append (quoted text ++ codes "@") tag (scalars_append (quoted text) (codes "@") (quoted_scalars text (part_scalars text parts.0)) refl) (part_scalars tag parts.1)
term_scalars (term.Typed text d) h =
    let a = split (is_part text && is_part d && is_iri_text d) (not (bytes_eq d xsd_string)) h in
    let b = split (is_part text && is_part d) (is_iri_text d) a.0 in
    let parts = split (is_part text) (is_part d) b.0 in
    scalars_append (quoted text ++ codes "^^<" ++ d) (codes ">")
    (scalars_append (quoted text ++ codes "^^<") d (scalars_append (quoted text) (codes "^^<") (quoted_scalars text (part_scalars text parts.0)) refl) (part_scalars d parts.1)) refl

-- each of the words is such a text
abbrev Sound : List (List ℕ) → Type 0
Sound ws = all_scalars (spaced ws) ≡ true

one_more : (w : List ℕ) (ws : List (List ℕ)) → all_scalars w ≡ true → Sound ws → Sound (w ∷ ws)
one_more w ws h k = scalars_append w (spaced ws) h k

more : (v w : List (List ℕ)) → Sound v → Sound w → Sound (v ++ w)
more v w h k = subst (λ t. all_scalars t ≡ true) (spaced-append v w) (scalars_append (spaced v) (spaced w) h k)

name_scalars : (n : List ℕ) → IsVarName n → all_scalars n ≡ true
name_scalars n h = (split (all_scalars n) (is_var_name n) h).0

fixed_valid : (t : Term) → IsFixed t → IsValidTerm t
fixed_valid (term.Iri i) h = h
fixed_valid (term.Blank l) h = absurd h
fixed_valid (term.Plain t) h = h
fixed_valid (term.Tagged t g) h = h
fixed_valid (term.Typed t d) h = h

slot_scalars : (s : Slot) → IsSlot s → all_scalars (slot_text s) ≡ true
slot_scalars (slot.Var n) h = name_scalars n h
slot_scalars (slot.Blank l) h = (split (all_scalars l) (is_short l) (split (is_part l) (is_label l) h).0).0
slot_scalars (slot.Fixed t) h = term_scalars t (fixed_valid t h)

pub a_slot : (s : Slot) → IsVarOrIri s → IsSlot s
a_slot (slot.Var n) h = h
a_slot (slot.Blank l) h = absurd h
a_slot (slot.Fixed (term.Iri i)) h = h
a_slot (slot.Fixed (term.Blank l)) h = absurd h
a_slot (slot.Fixed (term.Plain t)) h = absurd h
a_slot (slot.Fixed (term.Tagged t g)) h = absurd h
a_slot (slot.Fixed (term.Typed t d)) h = absurd h

triple_sound : (x : TriplePattern) → IsPattern x → Sound (triple_words x)
triple_sound x h =
    one_more (slot_text x.s) (slot_text x.p ∷ slot_text x.o ∷ codes "." ∷ []) (slot_scalars x.s h.subject)
    (one_more (slot_text x.p) (slot_text x.o ∷ codes "." ∷ []) (slot_scalars x.p (a_slot x.p h.predicate))
    (one_more (slot_text x.o) (codes "." ∷ []) (slot_scalars x.o h.object) refl))

braced_sound : (ws : List (List ℕ)) → Sound ws → Sound (codes "{" ∷ ws ++ codes "}" ∷ [])
braced_sound ws h = more ws (codes "}" ∷ []) h refl

in_scope_sound : (g : Scope) (ws : List (List ℕ)) → IsScope g → Sound ws → Sound (in_scope g ws)
in_scope_sound scope.Any ws h k = k
in_scope_sound (scope.Graph s) ws h k = one_more (slot_text s) (codes "{" ∷ ws ++ codes "}" ∷ []) (slot_scalars s (a_slot s h)) (braced_sound ws k)

patterns_sound : (xs : List TriplePattern) → AllByRecursion IsPattern xs → Sound (flat_map pattern_words xs)
patterns_sound [] h = refl
patterns_sound (x ∷ xs) h =
    more (pattern_words x) (flat_map pattern_words xs) (in_scope_sound x.g (triple_words x) h.0.scope (triple_sound x h.0)) (patterns_sound xs h.1)

group_sound : (xs : List TriplePattern) → AllByRecursion IsPattern xs → Sound (group_words xs)
group_sound xs h = braced_sound (flat_map pattern_words xs) (patterns_sound xs h)

as_patterns : (xs : List TriplePattern) → AllByRecursion IsTemplatePattern xs → AllByRecursion IsPattern xs
as_patterns [] h = h
as_patterns (x ∷ xs) h = (h.0.pattern, as_patterns xs h.1)

decimal_scalars : (n : ℕ) → IsCount n → all_scalars (decimal n) ≡ true
decimal_scalars n h =
    let small : n < 2 ^ 64 = omega arith in
    let ascii = IsAscii-decimal n small in
    subst (λ t. all_scalars t ≡ true) (chars-IsAscii (decimal n) ascii) (scalars-chars (decimal n) (IsUtf8-from_ascii (decimal n) ascii))

limit_sound : (l : Option ℕ) → IsLimit l → Sound (limit_words l)
limit_sound None h = refl
limit_sound (Some n) h = one_more (codes "LIMIT") (decimal n ∷ []) refl (one_more (decimal n) [] (decimal_scalars n h) refl)

offset_sound : (n : ℕ) → IsCount n → Sound (offset_words n)
offset_sound zero h = refl
offset_sound (suc n) h = one_more (codes "OFFSET") (decimal (suc n) ∷ []) refl (one_more (decimal (suc n)) [] (decimal_scalars (suc n) h) refl)

cut_sound : (c : Cut) → IsCut c → Sound (cut_words c)
cut_sound c h = more (limit_words c.limit) (offset_words c.offset) (limit_sound c.limit h.limit) (offset_sound c.offset h.offset)

vars_sound : (vs : List (List ℕ)) → AllByRecursion IsVarName vs → Sound (map var_text vs)
vars_sound [] h = refl
vars_sound (v ∷ vs) h = one_more (var_text v) (map var_text vs) (name_scalars v h.0) (vars_sound vs h.1)

projection_sound : (vs : List (List ℕ)) → AllByRecursion IsVarName vs → Sound (projection_words vs)
projection_sound [] h = refl
projection_sound (v ∷ vs) h = vars_sound (v ∷ vs) h

distinct_sound : (d : Bool) → Sound (distinct_words d)
distinct_sound true = refl
distinct_sound false = refl

pub printed_scalars : (q : Query) → IsWellFormed q → all_scalars (printed q) ≡ true
printed_scalars (query.Select d vs g c) h =
    let head = more (distinct_words d) (projection_words vs) (distinct_sound d) (projection_sound vs h.0.each) in
    let body = more (distinct_words d ++ projection_words vs) (codes "WHERE" ∷ group_words g) head (group_sound g h.1.each) in
    more (distinct_words d ++ projection_words vs ++ codes "WHERE" ∷ group_words g) (cut_words c) body (cut_sound c h.2)
printed_scalars (query.Ask g) h = group_sound g h.each
printed_scalars (query.Construct t g c) h =
    let body = more (group_words t) (codes "WHERE" ∷ group_words g) (group_sound t (as_patterns t h.0.each)) (group_sound g h.1.each) in
    more (group_words t ++ codes "WHERE" ∷ group_words g) (cut_words c) body (cut_sound c h.2)
