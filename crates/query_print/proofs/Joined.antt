-- The tokens of what is printed of a query are those of its tree.
use Rattle.std.proofs.Common.{◌≡◌, ℕ, zero, suc, Bool, true, false, ◌&&◌, not, List, [], ◌∷◌, ◌++◌, refl, ◌∙◌, sym, ap, subst, append_assoc, append-nil, codes, map, Option, Some, None}
use Rattle.std.specs.List.{list_all, flat_map, AllByRecursion}
use Rattle.std.specs.Fmt.{decimal}
use Rattle.std.specs.Str.{all_scalars, bytes_eq}
use lib.Utf8.{encode}
use Rattle.rdf_term.specs.declared.term.Term.TheVariants as term
use Rattle.rdf_term.specs.Canonical.{quoted}
use Rattle.rdf_term.specs.Classes.{is_iri_char}
use Rattle.rdf_term.specs.Validity.{is_part, is_iri_text, is_tag, has_scheme, xsd_string}
use Rattle.query_print.proofs.Truths.{split}
use Rattle.query_tokens.specs.declared.token.Token.{Token}
use Rattle.query_tokens.specs.declared.token.Token.TheVariants as token
use Rattle.query_tokens.specs.declared.token.Number.TheVariants as number
use Rattle.query_tokens.specs.Laws.{PartedTokens}
use Rattle.query_model.specs.declared.query.Slot.{Slot}
use Rattle.query_model.specs.declared.query.Slot.TheVariants as slot
use Rattle.query_model.specs.declared.query.Scope.{Scope}
use Rattle.query_model.specs.declared.query.Scope.TheVariants as scope
use Rattle.query_model.specs.declared.query.TriplePattern.{TriplePattern}
use Rattle.query_model.specs.declared.query.Cut.{Cut as ACut}
use Rattle.query_model.specs.declared.query.Query.{Query}
use Rattle.query_model.specs.declared.query.Query.TheVariants as query
use Rattle.query_grammar.specs.declared.mode.Role.TheVariants as role
use Rattle.query_grammar.specs.Said.{Said}
use Rattle.query_grammar.specs.Queries.{tokens}
use Rattle.query_grammar.specs.Grammar.{say, mark, SlotTree, Word, Literal, Bare, Tagged, Typed, subject, object, Group, optional_block, graphs, group, limit, offset, cut, vars, modifier, projection, said}
use Rattle.query_print.specs.Printed.{var_text, slot_text, triple_words, in_scope, pattern_words, group_words, projection_words, distinct_words, limit_words, offset_words, cut_words, spaced, printed}
use Rattle.query_model.specs.WellFormed.{is_var_name, is_label, IsVarName, IsSlot, IsVarOrIri, IsPattern, IsTemplatePattern, IsLimit, IsCount, IsCut, IsWellFormed}
use Rattle.query_print.proofs.Lexed.{Lexes, is_end, nothing_lexes, space_lexes}
use Rattle.query_print.proofs.Spelled.{var_lexes, label_lexes, tag_lexes, iri_lexes, string_lexes, end_of_string, carets_lex, word_lexes, mark_lexes, digits_lex}
use Rattle.query_print.proofs.Numbers.{decimal_digits, decimal_some}
use Rattle.query_print.proofs.Trees.{slot_tree, verb_tree, name_tree, before_group, group_tree, block_tree, limit_tree, offset_tree, cut_tree, modifier_tree, projection_tree, query_tree}
use Rattle.query_print.proofs.Fine.{text_part, one_said, block_said, group_said}

-- These words, each with a space before it, have the tokens of what is said.
abbrev pub Says : List (List ℕ) → List Said → Type 0
Says ws ss = Lexes (spaced ws) (tokens ss)

spaced_end : (ws : List (List ℕ)) → is_end (spaced ws) ≡ true
spaced_end [] = refl
spaced_end (w ∷ ws) = refl

-- variables, blank nodes and terms

var_part : (n : List ℕ) → IsVarName n → is_var_name n ≡ true
var_part n h = (split (all_scalars n) (is_var_name n) h).1

iri_part : (i : List ℕ) → (is_part i && is_iri_text i) ≡ true → list_all is_iri_char i ≡ true
iri_part i h = (split (list_all is_iri_char i) (has_scheme i) (split (is_part i) (is_iri_text i) h).1).0

iri_says : PartedTokens → (i rest : List ℕ) (ts : List Token) → (is_part i && is_iri_text i) ≡ true → is_end rest ≡ true → Lexes rest ts
    → Lexes ((codes "<" ++ i ++ codes ">") ++ rest) (token.Iri i ∷ ts)
iri_says parted i rest ts h e k =
    subst (λ x. Lexes (60 ∷ x) (token.Iri i ∷ ts)) (sym (append_assoc i (62 ∷ []) rest)) (iri_lexes parted i rest ts (iri_part i h) e k)

tagged_text : (t g rest : List ℕ) → (quoted t ++ codes "@" ++ g) ++ rest ≡ quoted t ++ ((codes "@" ++ g) ++ rest)
tagged_text t g rest = ap (λ x. x ++ rest) (append_assoc (quoted t) (codes "@") g) ∙ append_assoc (quoted t) (codes "@" ++ g) rest

typed_text : (q d rest : List ℕ) → (q ++ codes "^^<" ++ d ++ codes ">") ++ rest ≡ q ++ (codes "^^" ++ ((codes "<" ++ d ++ codes ">") ++ rest))
typed_text q d rest = simp append_assoc

slot_lexes : PartedTokens → (s : Slot) (rest : List ℕ) (ss : List Said) → IsSlot s → is_end rest ≡ true → Lexes rest (tokens ss)
    → Lexes (slot_text s ++ rest) (tokens (subject (slot_tree s) ss))
slot_lexes parted (slot.Var n) rest ss h e k = var_lexes parted n rest (tokens ss) (var_part n h) e k
slot_lexes parted (slot.Blank l) rest ss h e k = label_lexes parted l rest (tokens ss) (split (is_part l) (is_label l) h).1 e k
slot_lexes parted (slot.Fixed (term.Iri i)) rest ss h e k = iri_says parted i rest (tokens ss) h e k
slot_lexes parted (slot.Fixed (term.Blank l)) rest ss h e k = absurd h
slot_lexes parted (slot.Fixed (term.Plain t)) rest ss h e k = string_lexes parted t rest (tokens ss) (end_of_string rest e) k
slot_lexes parted (slot.Fixed (term.Tagged t g)) rest ss h e k =
    subst (λ x. Lexes x (token.Str t ∷ token.Tag g ∷ tokens ss)) (sym (tagged_text t g rest))
    (string_lexes parted t ((codes "@" ++ g) ++ rest) (token.Tag g ∷ tokens ss) refl
    (tag_lexes parted g rest (tokens ss) (split (is_part t && is_part g) (is_tag g) h).1 e k))
slot_lexes parted (slot.Fixed (term.Typed t d)) rest ss h e k =
    let iri = (codes "<" ++ d ++ codes ">") ++ rest in
    subst (λ x. Lexes x (token.Str t ∷ token.Carets ∷ token.Iri d ∷ tokens ss)) (sym (typed_text (quoted t) d rest))
    (string_lexes parted t (codes "^^" ++ iri) (token.Carets ∷ token.Iri d ∷ tokens ss) refl
    (carets_lex parted iri (token.Iri d ∷ tokens ss) refl
    (iri_says parted d rest (tokens ss) (text_part t d (not (bytes_eq d xsd_string)) h).1 e k)))

as_object : (t : SlotTree) (ss : List Said) → tokens (subject t ss) ≡ tokens (object t ss)
as_object (Word w) ss = refl
as_object (Literal t Bare) ss = refl
as_object (Literal t (Tagged g)) ss = refl
as_object (Literal t (Typed i)) ss = refl

subject_says : PartedTokens → (s : Slot) (ws : List (List ℕ)) (ss : List Said) → IsSlot s → Says ws ss → Says (slot_text s ∷ ws) (subject (slot_tree s) ss)
subject_says parted s ws ss h k = space_lexes (slot_text s ++ spaced ws) _ (slot_lexes parted s (spaced ws) ss h (spaced_end ws) k)

object_says : PartedTokens → (s : Slot) (ws : List (List ℕ)) (ss : List Said) → IsSlot s → Says ws ss → Says (slot_text s ∷ ws) (object (slot_tree s) ss)
object_says parted s ws ss h k = subst (Lexes (spaced (slot_text s ∷ ws))) (as_object (slot_tree s) ss) (subject_says parted s ws ss h k)

verb_lexes : PartedTokens → (s : Slot) (rest : List ℕ) (ts : List Token) → IsVarOrIri s → is_end rest ≡ true → Lexes rest ts
    → Lexes (slot_text s ++ rest) ((verb_tree s).token ∷ ts)
verb_lexes parted (slot.Var n) rest ts h e k = var_lexes parted n rest ts (var_part n h) e k
verb_lexes parted (slot.Blank l) rest ts h e k = absurd h
verb_lexes parted (slot.Fixed (term.Iri i)) rest ts h e k = iri_says parted i rest ts h e k
verb_lexes parted (slot.Fixed (term.Blank l)) rest ts h e k = absurd h
verb_lexes parted (slot.Fixed (term.Plain t)) rest ts h e k = absurd h
verb_lexes parted (slot.Fixed (term.Tagged t g)) rest ts h e k = absurd h
verb_lexes parted (slot.Fixed (term.Typed t d)) rest ts h e k = absurd h

same_token : (s : Slot) → IsVarOrIri s → (verb_tree s).token ≡ (name_tree s).token
same_token (slot.Var n) h = refl
same_token (slot.Blank l) h = absurd h
same_token (slot.Fixed (term.Iri i)) h = refl
same_token (slot.Fixed (term.Blank l)) h = absurd h
same_token (slot.Fixed (term.Plain t)) h = absurd h
same_token (slot.Fixed (term.Tagged t g)) h = absurd h
same_token (slot.Fixed (term.Typed t d)) h = absurd h

verb_says : PartedTokens → (s : Slot) (ws : List (List ℕ)) (ss : List Said) → IsVarOrIri s → Says ws ss
    → Lexes (spaced (slot_text s ∷ ws)) ((verb_tree s).token ∷ tokens ss)
verb_says parted s ws ss h k = space_lexes (slot_text s ++ spaced ws) _ (verb_lexes parted s (spaced ws) (tokens ss) h (spaced_end ws) k)

name_says : PartedTokens → (s : Slot) (ws : List (List ℕ)) (ss : List Said) → IsVarOrIri s → Says ws ss
    → Lexes (spaced (slot_text s ∷ ws)) ((name_tree s).token ∷ tokens ss)
name_says parted s ws ss h k = subst (λ t. Lexes (spaced (slot_text s ∷ ws)) (t ∷ tokens ss)) (same_token s h) (verb_says parted s ws ss h k)

-- marks and words

mark_says : (c : ℕ) (t : Token) (ws : List (List ℕ)) (ts : List Token)
    → ((rest : List ℕ) → is_end rest ≡ true → Lexes rest ts → Lexes (c ∷ rest) (t ∷ ts)) → Lexes (spaced ws) ts → Lexes (spaced ((c ∷ []) ∷ ws)) (t ∷ ts)
mark_says c t ws ts one k = space_lexes (c ∷ spaced ws) (t ∷ ts) (one (spaced ws) (spaced_end ws) k)

open_says : PartedTokens → (ws : List (List ℕ)) (ts : List Token) → Lexes (spaced ws) ts → Lexes (spaced (codes "{" ∷ ws)) (token.Open ∷ ts)
open_says parted ws ts k = mark_says 123 token.Open ws ts (λ rest e k. mark_lexes parted 123 rest token.Open ts refl refl refl e k) k

close_says : PartedTokens → (ws : List (List ℕ)) (ts : List Token) → Lexes (spaced ws) ts → Lexes (spaced (codes "}" ∷ ws)) (token.Close ∷ ts)
close_says parted ws ts k = mark_says 125 token.Close ws ts (λ rest e k. mark_lexes parted 125 rest token.Close ts refl refl refl e k) k

dot_says : PartedTokens → (ws : List (List ℕ)) (ts : List Token) → Lexes (spaced ws) ts → Lexes (spaced (codes "." ∷ ws)) (token.Dot ∷ ts)
dot_says parted ws ts k = mark_says 46 token.Dot ws ts (λ rest e k. mark_lexes parted 46 rest token.Dot ts refl refl refl e k) k

star_says : PartedTokens → (ws : List (List ℕ)) (ts : List Token) → Lexes (spaced ws) ts → Lexes (spaced (codes "*" ∷ ws)) (token.Star ∷ ts)
star_says parted ws ts k = mark_says 42 token.Star ws ts (λ rest e k. mark_lexes parted 42 rest token.Star ts refl refl refl e k) k

-- a word at the start
select_begins : PartedTokens → (ws : List (List ℕ)) (ts : List Token) → Lexes (spaced ws) ts → Lexes (codes "SELECT" ++ spaced ws) (token.Select ∷ ts)
unfolding encode
select_begins parted ws ts k = word_lexes parted 83 (codes "ELECT") (spaced ws) token.Select ts refl refl refl (spaced_end ws) k

ask_begins : PartedTokens → (ws : List (List ℕ)) (ts : List Token) → Lexes (spaced ws) ts → Lexes (codes "ASK" ++ spaced ws) (token.Ask ∷ ts)
unfolding encode
ask_begins parted ws ts k = word_lexes parted 65 (codes "SK") (spaced ws) token.Ask ts refl refl refl (spaced_end ws) k

construct_begins : PartedTokens → (ws : List (List ℕ)) (ts : List Token) → Lexes (spaced ws) ts → Lexes (codes "CONSTRUCT" ++ spaced ws) (token.Construct ∷ ts)
unfolding encode
construct_begins parted ws ts k = word_lexes parted 67 (codes "ONSTRUCT") (spaced ws) token.Construct ts refl refl refl (spaced_end ws) k

distinct_says : PartedTokens → (ws : List (List ℕ)) (ts : List Token) → Lexes (spaced ws) ts → Lexes (spaced (codes "DISTINCT" ∷ ws)) (token.Distinct ∷ ts)
unfolding encode
distinct_says parted ws ts k =
    space_lexes (codes "DISTINCT" ++ spaced ws) _ (word_lexes parted 68 (codes "ISTINCT") (spaced ws) token.Distinct ts refl refl refl (spaced_end ws) k)

where_says : PartedTokens → (ws : List (List ℕ)) (ts : List Token) → Lexes (spaced ws) ts → Lexes (spaced (codes "WHERE" ∷ ws)) (token.Where ∷ ts)
unfolding encode
where_says parted ws ts k =
    space_lexes (codes "WHERE" ++ spaced ws) _ (word_lexes parted 87 (codes "HERE") (spaced ws) token.Where ts refl refl refl (spaced_end ws) k)

graph_says : PartedTokens → (ws : List (List ℕ)) (ts : List Token) → Lexes (spaced ws) ts → Lexes (spaced (codes "GRAPH" ∷ ws)) (token.Graph ∷ ts)
unfolding encode
graph_says parted ws ts k =
    space_lexes (codes "GRAPH" ++ spaced ws) _ (word_lexes parted 71 (codes "RAPH") (spaced ws) token.Graph ts refl refl refl (spaced_end ws) k)

limit_says : PartedTokens → (ws : List (List ℕ)) (ts : List Token) → Lexes (spaced ws) ts → Lexes (spaced (codes "LIMIT" ∷ ws)) (token.Limit ∷ ts)
unfolding encode
limit_says parted ws ts k =
    space_lexes (codes "LIMIT" ++ spaced ws) _ (word_lexes parted 76 (codes "IMIT") (spaced ws) token.Limit ts refl refl refl (spaced_end ws) k)

offset_says : PartedTokens → (ws : List (List ℕ)) (ts : List Token) → Lexes (spaced ws) ts → Lexes (spaced (codes "OFFSET" ∷ ws)) (token.Offset ∷ ts)
unfolding encode
offset_says parted ws ts k =
    space_lexes (codes "OFFSET" ++ spaced ws) _ (word_lexes parted 79 (codes "FFSET") (spaced ws) token.Offset ts refl refl refl (spaced_end ws) k)

number_says : PartedTokens → (n : ℕ) (ws : List (List ℕ)) (ts : List Token) → IsCount n → Lexes (spaced ws) ts
    → Lexes (spaced (decimal n ∷ ws)) (token.Number number.Digits (decimal n) ∷ ts)
number_says parted n ws ts h k =
    space_lexes (decimal n ++ spaced ws) _ (digits_lex parted (decimal n) (spaced ws) ts (decimal_digits n h) (decimal_some n h) (spaced_end ws) k)

-- patterns

one_says : PartedTokens → (x : TriplePattern) (ws : List (List ℕ)) (ss : List Said) → IsPattern x → Says ws ss
    → Says (triple_words x ++ ws) (one_said x (mark token.Dot ss))
one_says parted x ws ss h k =
    let o = object_says parted x.o (codes "." ∷ ws) (mark token.Dot ss) h.object (dot_says parted ws (tokens ss) k) in
    let p = verb_says parted x.p (slot_text x.o ∷ codes "." ∷ ws) (object (slot_tree x.o) (mark token.Dot ss)) h.predicate o in
    subject_says parted x.s (slot_text x.p ∷ slot_text x.o ∷ codes "." ∷ ws)
    (say role.Verb (verb_tree x.p).token (object (slot_tree x.o) (mark token.Dot ss))) h.subject p

block_says : PartedTokens → (xs : List TriplePattern) (ws : List (List ℕ)) (ss : List Said) → AllByRecursion IsTemplatePattern xs → Says ws ss
    → Says (flat_map pattern_words xs ++ ws) (optional_block (block_tree xs) ss)
block_says parted [] ws ss h k = k
block_says parted (x ∷ xs) ws ss h k =
    subst (λ us. Says us (optional_block (block_tree (x ∷ xs)) ss)) (sym (append_assoc (pattern_words x) (flat_map pattern_words xs) ws))
    (subst (λ g. Says (in_scope g (triple_words x) ++ (flat_map pattern_words xs ++ ws)) (optional_block (block_tree (x ∷ xs)) ss)) (sym h.0.scope)
    (subst (Says (triple_words x ++ (flat_map pattern_words xs ++ ws))) (sym (block_said x (block_tree xs) ss))
    (one_says parted x (flat_map pattern_words xs ++ ws) (optional_block (block_tree xs) ss) h.0.pattern (block_says parted xs ws ss h.1 k))))

step : PartedTokens → (x : TriplePattern) (g : Scope) (rest : Group) (ws : List (List ℕ)) (ss : List Said) → IsPattern x → x.g ≡ g → Says ws (group_said rest ss)
    → Says (in_scope g (triple_words x) ++ ws) (group_said (before_group g x rest) ss)
step parted x scope.Any rest ws ss h e k =
    subst (Says (triple_words x ++ ws)) (sym (block_said x rest.block (graphs rest.graphs ss))) (one_says parted x ws (group_said rest ss) h k)
step parted x (scope.Graph s) rest ws ss h e k =
    let named : IsVarOrIri s = rw e at h.scope in
    let closed = close_says parted ws (tokens (group_said rest ss)) k in
    let end : List Said = say role.GraphEnd token.Close (group_said rest ss) in
    let inside = one_says parted x (codes "}" ∷ ws) end h closed in
    let opened = open_says parted (triple_words x ++ codes "}" ∷ ws) (tokens (one_said x (mark token.Dot end))) inside in
    let name = name_says parted s (codes "{" ∷ triple_words x ++ codes "}" ∷ ws) (mark token.Open (one_said x (mark token.Dot end))) named opened in
    graph_says parted (slot_text s ∷ codes "{" ∷ triple_words x ++ codes "}" ∷ ws) _ name

group_says : PartedTokens → (xs : List TriplePattern) (ws : List (List ℕ)) (ss : List Said) → AllByRecursion IsPattern xs → Says ws (mark token.Close ss)
    → Says (flat_map pattern_words xs ++ ws) (group_said (group_tree xs) ss)
group_says parted [] ws ss h k = k
group_says parted (x ∷ xs) ws ss h k =
    subst (λ us. Says us (group_said (group_tree (x ∷ xs)) ss)) (sym (append_assoc (pattern_words x) (flat_map pattern_words xs) ws))
    (step parted x x.g (group_tree xs) (flat_map pattern_words xs ++ ws) ss h.0 refl (group_says parted xs ws ss h.1 k))

-- a whole group, in braces
whole_says : PartedTokens → (xs : List TriplePattern) (ws : List (List ℕ)) (ss : List Said) → AllByRecursion IsPattern xs → Says ws ss
    → Says (group_words xs ++ ws) (group (group_tree xs) ss)
whole_says parted xs ws ss h k =
    subst (λ us. Says us (group (group_tree xs) ss)) (ap (λ us. codes "{" ∷ us) (sym (append_assoc (flat_map pattern_words xs) (codes "}" ∷ []) ws)))
    (open_says parted (flat_map pattern_words xs ++ codes "}" ∷ ws) (tokens (group_said (group_tree xs) ss))
    (group_says parted xs (codes "}" ∷ ws) ss h (close_says parted ws (tokens ss) k)))

-- LIMIT and OFFSET

offset_tokens : PartedTokens → (n : ℕ) → IsCount n → Says (offset_words n) (offset (offset_tree n) [])
offset_tokens parted zero h = nothing_lexes
offset_tokens parted (suc n) h = offset_says parted (decimal (suc n) ∷ []) _ (number_says parted (suc n) [] [] h nothing_lexes)

limit_tokens : PartedTokens → (l : Option ℕ) (ws : List (List ℕ)) (ss : List Said) → IsLimit l → Says ws ss → Says (limit_words l ++ ws) (limit (limit_tree l) ss)
limit_tokens parted None ws ss h k = k
limit_tokens parted (Some n) ws ss h k = limit_says parted (decimal n ∷ ws) _ (number_says parted n ws (tokens ss) h k)

cut_says : PartedTokens → (c : ACut) → IsCut c → Says (cut_words c) (cut (cut_tree c))
cut_says parted c h = limit_tokens parted c.limit (offset_words c.offset) (offset (offset_tree c.offset) []) h.limit (offset_tokens parted c.offset h.offset)

-- the heads of queries

vars_say : PartedTokens → (vs : List (List ℕ)) (ws : List (List ℕ)) (ss : List Said) → AllByRecursion IsVarName vs → Says ws ss
    → Says (map var_text vs ++ ws) (vars vs ss)
vars_say parted [] ws ss h k = k
vars_say parted (v ∷ vs) ws ss h k =
    subject_says parted (slot.Var v) (map var_text vs ++ ws) (vars vs ss) h.0 (vars_say parted vs ws ss h.1 k)

projection_says : PartedTokens → (vs : List (List ℕ)) (ws : List (List ℕ)) (ss : List Said) → AllByRecursion IsVarName vs → Says ws ss
    → Says (projection_words vs ++ ws) (projection (projection_tree vs) ss)
projection_says parted [] ws ss h k = star_says parted ws (tokens ss) k
projection_says parted (v ∷ vs) ws ss h k = vars_say parted (v ∷ vs) ws ss h k

modifier_says : PartedTokens → (d : Bool) (ws : List (List ℕ)) (ss : List Said) → Says ws ss → Says (distinct_words d ++ ws) (modifier (modifier_tree d) ss)
modifier_says parted false ws ss k = k
modifier_says parted true ws ss k = distinct_says parted ws (tokens ss) k

select_words : (d v w c : List (List ℕ)) → d ++ (v ++ (codes "WHERE" ∷ (w ++ c))) ≡ d ++ v ++ codes "WHERE" ∷ w ++ c
select_words d v w c = simp append_assoc

pub query_says : PartedTokens → (q : Query) → IsWellFormed q → Lexes (printed q) (tokens (said (query_tree q)))
query_says parted (query.Select d vs g c) h =
    let grouped = whole_says parted g (cut_words c) (cut (cut_tree c)) h.1.each (cut_says parted c h.2) in
    let here = where_says parted (group_words g ++ cut_words c) _ grouped in
    let named = projection_says parted vs (codes "WHERE" ∷ (group_words g ++ cut_words c)) (mark token.Where (group (group_tree g) (cut (cut_tree c)))) h.0.each here in
    let modified = modifier_says parted d (projection_words vs ++ (codes "WHERE" ∷ (group_words g ++ cut_words c)))
    (projection (projection_tree vs) (mark token.Where (group (group_tree g) (cut (cut_tree c))))) named in
    select_begins parted (distinct_words d ++ projection_words vs ++ codes "WHERE" ∷ group_words g ++ cut_words c) _
    (subst (λ us. Says us (modifier (modifier_tree d) (projection (projection_tree vs) (mark token.Where (group (group_tree g) (cut (cut_tree c)))))))
    (select_words (distinct_words d) (projection_words vs) (group_words g) (cut_words c)) modified)
query_says parted (query.Ask g) h =
    ask_begins parted (codes "WHERE" ∷ group_words g) _
    (where_says parted (group_words g) _
    (subst (λ us. Says us (group (group_tree g) [])) (append-nil (group_words g)) (whole_says parted g [] [] h.each nothing_lexes)))
query_says parted (query.Construct t g c) h =
    let grouped = whole_says parted g (cut_words c) (cut (cut_tree c)) h.1.each (cut_says parted c h.2) in
    let here = where_says parted (group_words g ++ cut_words c) _ grouped in
    let end : List Said = say role.TemplateEnd token.Close (mark token.Where (group (group_tree g) (cut (cut_tree c)))) in
    let closed = close_says parted (codes "WHERE" ∷ (group_words g ++ cut_words c)) _ here in
    let inside = block_says parted t (codes "}" ∷ codes "WHERE" ∷ (group_words g ++ cut_words c)) end h.0.each closed in
    let opened = open_says parted (flat_map pattern_words t ++ (codes "}" ∷ codes "WHERE" ∷ (group_words g ++ cut_words c))) _ inside in
    construct_begins parted (group_words t ++ codes "WHERE" ∷ group_words g ++ cut_words c) _
    (subst (λ us. Says us (mark token.Open (optional_block (block_tree t) end))) (construct_words (flat_map pattern_words t) (group_words g) (cut_words c)) opened)
  where
    construct_words : (t w c : List (List ℕ)) → codes "{" ∷ (t ++ (codes "}" ∷ codes "WHERE" ∷ (w ++ c)))
        ≡ (codes "{" ∷ t ++ codes "}" ∷ []) ++ codes "WHERE" ∷ w ++ c
    construct_words t w c = simp append_assoc
