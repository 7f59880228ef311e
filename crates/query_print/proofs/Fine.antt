-- None of the tokens of a well-formed query's tree is refused.
use Rattle.std.proofs.Common.{◌≡◌, ◌<◌, ◌≤◌, ◌+◌, ℕ, zero, suc, Bool, true, false, ◌==◌, ◌&&◌, not, if◌then◌else◌, List, [], ◌∷◌, refl, ◌∙◌, sym, ap, subst, length, length-append, arith, Option, Some, None}
use Rattle.std.specs.List.{AllByRecursion}
use Rattle.std.specs.Fmt.{decimal}
use Rattle.std.specs.Option.{is_none, is_some}
use Rattle.std.specs.Str.{all_scalars, bytes_eq}
use Rattle.std.proofs.lemmas.Bool.Decides.{nat_tests}
use Rattle.rdf_term.specs.declared.term.Term.TheVariants as term
use Rattle.rdf_term.specs.Validity.{is_part, is_short, is_iri_text, is_tag, xsd_string}
use Rattle.query_print.proofs.Truths.{both, split}
use Rattle.query_tokens.specs.declared.token.Token.{Token}
use Rattle.query_tokens.specs.declared.token.Token.TheVariants as token
use Rattle.query_tokens.specs.declared.token.Number.TheVariants as number
use Rattle.query_model.specs.declared.query.Slot.{Slot}
use Rattle.query_model.specs.declared.query.Slot.TheVariants as slot
use Rattle.query_model.specs.declared.query.Scope.{Scope}
use Rattle.query_model.specs.declared.query.Scope.TheVariants as scope
use Rattle.query_model.specs.declared.query.TriplePattern.{TriplePattern}
use Rattle.query_model.specs.declared.query.Cut.{Cut as ACut}
use Rattle.query_model.specs.declared.query.Query.{Query}
use Rattle.query_model.specs.declared.query.Query.TheVariants as query
use Rattle.query_grammar.specs.declared.mode.Role.TheVariants as role
use Rattle.query_grammar.specs.declared.fault.Kind.{Kind as Fault}
use Rattle.query_grammar.specs.declared.fault.Kind.TheVariants as fault
use Rattle.query_grammar.specs.declared.built.Form.{Form}
use Rattle.query_grammar.specs.declared.built.Form.TheVariants as form
use Rattle.query_grammar.specs.declared.built.Built.{Built}
use Rattle.query_grammar.specs.Said.{Said}
use Rattle.query_grammar.specs.Classes.{is_label}
use Rattle.query_grammar.specs.Grammar.{say, mark, subject, object, Block, Group, block, optional_block, graphs, group, cut, limit, offset, vars, modifier, projection, said}
use Rattle.query_grammar.specs.Built.{is_template, slot_refusal, refusal, add, change_last, empty}
use Rattle.query_grammar.specs.Queries.{is_fine}
use Rattle.query_grammar.specs.Values.{Namespaces, part_refusal, iri_refusal, unless, is_sound_iri, count_in, text_of}
use Rattle.query_model.specs.WellFormed.{IsSlot, IsVarOrIri, IsLabelFree, IsPattern, IsTemplatePattern, IsLimit, IsCount, IsCut, IsWellFormed}
use Rattle.query_print.proofs.Numbers.{decimal_read}
use Rattle.query_print.proofs.Trees.{slot_tree, verb_tree, name_tree, before_block, before_group, group_tree, block_tree, limit_tree, offset_tree, cut_tree, modifier_tree, projection_tree, query_tree}

-- The tokens that are left are refused in no state with so many patterns and of this form.
abbrev Left : ℕ → Form → List Said → Type 0
Left n f rest = (b : Built) → length b.patterns ≡ n → b.form ≡ f → is_fine b rest ≡ true

left_at : {m n : ℕ} (f : Form) (rest : List Said) → m ≡ n → Left m f rest → Left n f rest
left_at f rest e h = subst (λ k. Left k f rest) e h

-- parts of terms

unless_none : (b : Bool) (k : Fault) → b ≡ true → is_none (unless b k) ≡ true
unless_none true k h = refl
unless_none false k h = cc

short_of : (part : List ℕ) → is_part part ≡ true → is_short part ≡ true
short_of part h = (split (all_scalars part) (is_short part) h).1

iri_fine : (ns : Namespaces) (i : List ℕ) → (is_part i && is_iri_text i) ≡ true → is_none (part_refusal ns (token.Iri i)) ≡ true
unfolding part_refusal iri_refusal
iri_fine ns i h =
    let parts = split (is_part i) (is_iri_text i) h in
    unless_none (is_sound_iri i) fault.Unsupported (both (is_short i) (is_iri_text i) (short_of i parts.0) parts.1)

string_fine : (ns : Namespaces) (t : List ℕ) → is_part t ≡ true → is_none (part_refusal ns (token.Str t)) ≡ true
unfolding part_refusal
string_fine ns t h = unless_none (is_short t) fault.Unsupported (short_of t h)

tag_fine : (ns : Namespaces) (t : List ℕ) → is_part t ≡ true → is_none (part_refusal ns (token.Tag t)) ≡ true
unfolding part_refusal
tag_fine ns t h = unless_none (is_short t) fault.Unsupported (short_of t h)

label_fine : (ns : Namespaces) (l : List ℕ) → is_part l ≡ true → is_none (part_refusal ns (token.Label l)) ≡ true
unfolding part_refusal
label_fine ns l h = unless_none (is_short l) fault.Unsupported (short_of l h)

-- slots

no_label : (b : Built) (t : Token) → (is_template b.form && is_label t) ≡ false → is_none (part_refusal b.prefixes t) ≡ true → is_none (slot_refusal b t) ≡ true
unfolding slot_refusal
no_label b t e h = ap (λ c. is_none (if c then Some fault.Unsupported else part_refusal b.prefixes t)) e ∙ h

and_false : (a : Bool) → (a && false) ≡ false
and_false true = refl
and_false false = refl

no_template : (a : Bool) → (a ≡ true → ⊥) → (a && true) ≡ false
no_template true h = absurd (h refl)
no_template false h = refl

-- a slot's first token
abbrev first_token : Slot → Token
first_token (slot.Var n) = token.Var n
first_token (slot.Blank l) = token.Label l
first_token (slot.Fixed (term.Iri i)) = token.Iri i
first_token (slot.Fixed (term.Blank l)) = token.Label l
first_token (slot.Fixed (term.Plain t)) = token.Str t
first_token (slot.Fixed (term.Tagged t g)) = token.Str t
first_token (slot.Fixed (term.Typed t d)) = token.Str t

-- the parts of a typed literal
pub text_part : (t d : List ℕ) (x : Bool) → (is_part t && is_part d && is_iri_text d && x) ≡ true → (is_part t ≡ true) × ((is_part d && is_iri_text d) ≡ true)
text_part t d x h =
    let a = split (is_part t && is_part d && is_iri_text d) x h in
    let b = split (is_part t && is_part d) (is_iri_text d) a.0 in
    let c = split (is_part t) (is_part d) b.0 in
    (c.0, both (is_part d) (is_iri_text d) c.1 b.1)

-- a label only where no template is read
abbrev MayStand : Form → Slot → Type 0
MayStand f s = is_template f ≡ true → IsLabelFree s

absent : (f : Form) (s : Slot) → is_template f ≡ false → MayStand f s
absent f s t = λ e. (let z : true ≡ false = sym e ∙ t in cc)

first_fine : (b : Built) (f : Form) (s : Slot) → b.form ≡ f → IsSlot s → MayStand f s → is_none (slot_refusal b (first_token s)) ≡ true
unfolding part_refusal
first_fine b f (slot.Var n) e h k = no_label b (token.Var n) (and_false (is_template b.form)) refl
first_fine b f (slot.Blank l) e h k =
    no_label b (token.Label l) (no_template (is_template b.form) (λ t. k (sym (ap is_template e) ∙ t)))
    (label_fine b.prefixes l (split (is_part l) _ h).0)
first_fine b f (slot.Fixed (term.Iri i)) e h k = no_label b (token.Iri i) (and_false (is_template b.form)) (iri_fine b.prefixes i h)
first_fine b f (slot.Fixed (term.Blank l)) e h k = absurd h
first_fine b f (slot.Fixed (term.Plain t)) e h k = no_label b (token.Str t) (and_false (is_template b.form)) (string_fine b.prefixes t h)
first_fine b f (slot.Fixed (term.Tagged t g)) e h k =
    no_label b (token.Str t) (and_false (is_template b.form)) (string_fine b.prefixes t (split (is_part t) (is_part g) (split (is_part t && is_part g) (is_tag g) h).0).0)
first_fine b f (slot.Fixed (term.Typed t d)) e h k =
    no_label b (token.Str t) (and_false (is_template b.form)) (string_fine b.prefixes t (text_part t d (not (bytes_eq d xsd_string)) h).0)

tag_of : (t g : List ℕ) → (is_part t && is_part g && is_tag g) ≡ true → is_part g ≡ true
tag_of t g h = (split (is_part t) (is_part g) (split (is_part t && is_part g) (is_tag g) h).0).1

subject_fine : (n : ℕ) (f : Form) (s : Slot) (rest : List Said) → IsSlot s → MayStand f s → Left n f rest → Left n f (subject (slot_tree s) rest)
unfolding refusal part_refusal add
subject_fine n f (slot.Var v) rest h k go = λ b p e. both _ _ (first_fine b f (slot.Var v) e h k) (go (add b role.Subject (token.Var v)) p e)
subject_fine n f (slot.Blank l) rest h k go = λ b p e. both _ _ (first_fine b f (slot.Blank l) e h k) (go (add b role.Subject (token.Label l)) p e)
subject_fine n f (slot.Fixed (term.Iri i)) rest h k go = λ b p e. both _ _ (first_fine b f (slot.Fixed (term.Iri i)) e h k) (go (add b role.Subject (token.Iri i)) p e)
subject_fine n f (slot.Fixed (term.Blank l)) rest h k go = absurd h
subject_fine n f (slot.Fixed (term.Plain t)) rest h k go = λ b p e. both _ _ (first_fine b f (slot.Fixed (term.Plain t)) e h k) (go (add b role.Subject (token.Str t)) p e)
subject_fine n f (slot.Fixed (term.Tagged t g)) rest h k go = λ b p e.
    both _ _ (first_fine b f (slot.Fixed (term.Tagged t g)) e h k)
    (both _ _ (tag_fine b.prefixes g (tag_of t g h)) (go (add (add b role.Subject (token.Str t)) role.SubjectTag (token.Tag g)) p e))
subject_fine n f (slot.Fixed (term.Typed t d)) rest h k go = λ b p e.
    both _ _ (first_fine b f (slot.Fixed (term.Typed t d)) e h k)
    (both _ _ (iri_fine b.prefixes d (text_part t d (not (bytes_eq d xsd_string)) h).1) (go (add (add b role.Subject (token.Str t)) role.SubjectType (token.Iri d)) p e))

below : (m : ℕ) → m < 256 → (m == 256) ≡ false
below m h = grind (arith, nat_tests)

object_first : (b : Built) (n : ℕ) (f : Form) (s : Slot) → length b.patterns ≡ n → n < 256 → b.form ≡ f → IsSlot s → MayStand f s
    → is_none (refusal b role.Object (first_token s)) ≡ true
unfolding refusal
object_first b n f s p l e h k =
    ap (λ c. is_none (if c then Some fault.Unsupported else slot_refusal b (first_token s))) (ap (λ m. m == 256) p ∙ below n l) ∙ first_fine b f s e h k

one_more : (b : Built) (t : Token) (n : ℕ) → length b.patterns ≡ n → length (add b role.Object t).patterns ≡ suc n
unfolding add
one_more b t n h = length-append b.patterns _ ∙ omega arith

pub length_change : (f : TriplePattern → TriplePattern) (xs : List TriplePattern) → length (change_last f xs) ≡ length xs
unfolding change_last
length_change f [] = refl
length_change f (x ∷ []) = refl
length_change f (x ∷ y ∷ ys) = ap suc (length_change f (y ∷ ys))

tag_keeps : (b : Built) (t : Token) (n : ℕ) → length b.patterns ≡ n → length (add b role.ObjectTag t).patterns ≡ n
unfolding add
tag_keeps b t n h = length_change _ b.patterns ∙ h

type_keeps : (b : Built) (t : Token) (n : ℕ) → length b.patterns ≡ n → length (add b role.ObjectType t).patterns ≡ n
unfolding add
type_keeps b t n h = length_change _ b.patterns ∙ h

form_kept : (b : Built) (t u : Token) (f : Form) → b.form ≡ f → ((add b role.Object t).form ≡ f) × ((add (add b role.Object t) role.ObjectTag u).form ≡ f)
    × ((add (add b role.Object t) role.ObjectType u).form ≡ f)
unfolding add
form_kept b t u f e = (e, e, e)

tag_step : (b : Built) (t : List ℕ) (rest : List Said) → is_part t ≡ true → is_fine (add b role.ObjectTag (token.Tag t)) rest ≡ true
    → is_fine b (say role.ObjectTag (token.Tag t) rest) ≡ true
unfolding refusal
tag_step b t rest h k = both _ _ (tag_fine b.prefixes t h) k

type_step : (b : Built) (d : List ℕ) (rest : List Said) → (is_part d && is_iri_text d) ≡ true → is_fine (add b role.ObjectType (token.Iri d)) rest ≡ true
    → is_fine b (mark token.Carets (say role.ObjectType (token.Iri d) rest)) ≡ true
unfolding refusal part_refusal add
type_step b d rest h k = both _ _ (iri_fine b.prefixes d h) k

object_fine : (n : ℕ) (f : Form) (s : Slot) (rest : List Said) → n < 256 → IsSlot s → MayStand f s → Left (suc n) f rest → Left n f (object (slot_tree s) rest)
object_fine n f (slot.Var v) rest l h k go = λ b p e.
    let t = token.Var v in both _ _ (object_first b n f (slot.Var v) p l e h k) (go (add b role.Object t) (one_more b t n p) (form_kept b t t f e).0)
object_fine n f (slot.Blank v) rest l h k go = λ b p e.
    let t = token.Label v in both _ _ (object_first b n f (slot.Blank v) p l e h k) (go (add b role.Object t) (one_more b t n p) (form_kept b t t f e).0)
object_fine n f (slot.Fixed (term.Iri i)) rest l h k go = λ b p e.
    let t = token.Iri i in both _ _ (object_first b n f (slot.Fixed (term.Iri i)) p l e h k) (go (add b role.Object t) (one_more b t n p) (form_kept b t t f e).0)
object_fine n f (slot.Fixed (term.Blank v)) rest l h k go = absurd h
object_fine n f (slot.Fixed (term.Plain v)) rest l h k go = λ b p e.
    let t = token.Str v in both _ _ (object_first b n f (slot.Fixed (term.Plain v)) p l e h k) (go (add b role.Object t) (one_more b t n p) (form_kept b t t f e).0)
object_fine n f (slot.Fixed (term.Tagged v g)) rest l h k go = λ b p e.
    let t = token.Str v in
    let c = add b role.Object t in
    both _ _ (object_first b n f (slot.Fixed (term.Tagged v g)) p l e h k)
    (tag_step c g rest (tag_of v g h)
    (go (add c role.ObjectTag (token.Tag g)) (tag_keeps c (token.Tag g) (suc n) (one_more b t n p)) (form_kept b t (token.Tag g) f e).1))
object_fine n f (slot.Fixed (term.Typed v d)) rest l h k go = λ b p e.
    let t = token.Str v in
    let c = add b role.Object t in
    both _ _ (object_first b n f (slot.Fixed (term.Typed v d)) p l e h k)
    (type_step c d rest (text_part v d (not (bytes_eq d xsd_string)) h).1
    (go (add c role.ObjectType (token.Iri d)) (type_keeps c (token.Iri d) (suc n) (one_more b t n p)) (form_kept b t (token.Iri d) f e).2))

verb_fine : (n : ℕ) (f : Form) (s : Slot) (rest : List Said) → IsVarOrIri s → Left n f rest → Left n f (say role.Verb (verb_tree s).token rest)
unfolding refusal part_refusal add
verb_fine n f (slot.Var v) rest h go = λ b p e. go (add b role.Verb (token.Var v)) p e
verb_fine n f (slot.Blank l) rest h go = absurd h
verb_fine n f (slot.Fixed (term.Iri i)) rest h go = λ b p e. both _ _ (iri_fine b.prefixes i h) (go (add b role.Verb (token.Iri i)) p e)
verb_fine n f (slot.Fixed (term.Blank l)) rest h go = absurd h
verb_fine n f (slot.Fixed (term.Plain t)) rest h go = absurd h
verb_fine n f (slot.Fixed (term.Tagged t g)) rest h go = absurd h
verb_fine n f (slot.Fixed (term.Typed t d)) rest h go = absurd h

name_fine : (n : ℕ) (f : Form) (s : Slot) (rest : List Said) → IsVarOrIri s → Left n f rest → Left n f (say role.GraphName (name_tree s).token rest)
unfolding refusal part_refusal add
name_fine n f (slot.Var v) rest h go = λ b p e. go (add b role.GraphName (token.Var v)) p e
name_fine n f (slot.Blank l) rest h go = absurd h
name_fine n f (slot.Fixed (term.Iri i)) rest h go = λ b p e. both _ _ (iri_fine b.prefixes i h) (go (add b role.GraphName (token.Iri i)) p e)
name_fine n f (slot.Fixed (term.Blank l)) rest h go = absurd h
name_fine n f (slot.Fixed (term.Plain t)) rest h go = absurd h
name_fine n f (slot.Fixed (term.Tagged t g)) rest h go = absurd h
name_fine n f (slot.Fixed (term.Typed t d)) rest h go = absurd h

-- patterns

abbrev pub one_said : TriplePattern → List Said → List Said
one_said x rest = subject (slot_tree x.s) (say role.Verb (verb_tree x.p).token (object (slot_tree x.o) rest))

one_fine : (n : ℕ) (f : Form) (x : TriplePattern) (rest : List Said) → n < 256 → IsPattern x → MayStand f x.s → MayStand f x.o → Left (suc n) f rest
    → Left n f (one_said x rest)
one_fine n f x rest l h ks ko go =
    subject_fine n f x.s _ h.subject ks (verb_fine n f x.p _ h.predicate (object_fine n f x.o rest l h.object ko go))

pub block_said : (x : TriplePattern) (b : Option Block) (rest : List Said) → block (before_block x b) rest ≡ one_said x (mark token.Dot (optional_block b rest))
block_said x None rest = refl
block_said x (Some b) rest = refl

dot_fine : (n : ℕ) (f : Form) (rest : List Said) → Left n f rest → Left n f (mark token.Dot rest)
unfolding refusal part_refusal add
dot_fine n f rest go = λ b p e. go b p e

-- a template
block_fine : (xs : List TriplePattern) (n : ℕ) (f : Form) (rest : List Said) → n + length xs ≤ 256 → AllByRecursion IsTemplatePattern xs
    → Left (n + length xs) f rest → Left n f (optional_block (block_tree xs) rest)
block_fine [] n f rest l h go = left_at f rest (omega arith) go
block_fine (x ∷ xs) n f rest l h go =
    subst (Left n f) (sym (block_said x (block_tree xs) rest))
    (one_fine n f x _ (omega arith) h.0.pattern (λ t. h.0.subject) (λ t. h.0.object)
    (dot_fine (suc n) f _ (block_fine xs (suc n) f rest (omega arith) h.1 (left_at f rest (omega arith) go))))

abbrev pub group_said : Group → List Said → List Said
group_said g rest = optional_block g.block (graphs g.graphs rest)

-- the words and marks round a block of GRAPH
graph_fine : (n : ℕ) (f : Form) (x : TriplePattern) (s : Slot) (rest : List Said) → IsVarOrIri s
    → Left n f (one_said x (mark token.Dot (say role.GraphEnd token.Close rest)))
    → Left n f (mark token.Graph (say role.GraphName (name_tree s).token (mark token.Open (one_said x (mark token.Dot (say role.GraphEnd token.Close rest))))))
unfolding refusal part_refusal add
graph_fine n f x s rest h go = λ b p e.
    name_fine n f s (mark token.Open (one_said x (mark token.Dot (say role.GraphEnd token.Close rest)))) h (λ c q d. go c q d) b p e

end_fine : (n : ℕ) (f : Form) (rest : List Said) → Left n f rest → Left n f (say role.GraphEnd token.Close rest)
unfolding refusal part_refusal add
end_fine n f rest go = λ b p e. go (add b role.GraphEnd token.Close) p e

step : (x : TriplePattern) (g : Scope) (n : ℕ) (f : Form) (rest : Group) (end : List Said) → n < 256 → IsPattern x → x.g ≡ g → is_template f ≡ false
    → Left (suc n) f (group_said rest end) → Left n f (group_said (before_group g x rest) end)
step x scope.Any n f rest end l h e t go =
    subst (Left n f) (sym (block_said x rest.block (graphs rest.graphs end)))
    (one_fine n f x (mark token.Dot (group_said rest end)) l h (absent f x.s t) (absent f x.o t) (dot_fine (suc n) f (group_said rest end) go))
step x (scope.Graph s) n f rest end l h e t go =
    let named : IsVarOrIri s = rw e at h.scope in
    let after = say role.GraphEnd token.Close (group_said rest end) in
    graph_fine n f x s (group_said rest end) named
    (one_fine n f x (mark token.Dot after) l h (absent f x.s t) (absent f x.o t) (dot_fine (suc n) f after (end_fine (suc n) f (group_said rest end) go)))

group_fine : (xs : List TriplePattern) (n : ℕ) (f : Form) (rest : List Said) → n + length xs ≤ 256 → AllByRecursion IsPattern xs → is_template f ≡ false
    → Left (n + length xs) f (mark token.Close rest) → Left n f (group_said (group_tree xs) rest)
group_fine [] n f rest l h t go = left_at f (mark token.Close rest) (omega arith) go
group_fine (x ∷ xs) n f rest l h t go =
    step x x.g n f (group_tree xs) rest (omega arith) h.0 refl t
    (group_fine xs (suc n) f rest (omega arith) h.1 t (left_at f (mark token.Close rest) (omega arith) go))

-- a whole group, in braces
whole_fine : (xs : List TriplePattern) (f : Form) (rest : List Said) → length xs ≤ 256 → AllByRecursion IsPattern xs → is_template f ≡ false
    → ((n : ℕ) → Left n f rest) → Left 0 f (group (group_tree xs) rest)
unfolding refusal part_refusal add
whole_fine xs f rest l h t go = λ b p e. group_fine xs 0 f rest (omega arith) h t (λ c q d. go (0 + length xs) c q d) b p e

-- LIMIT and OFFSET

some_is : (o : Option ℕ) (n : ℕ) → o ≡ Some n → is_none (unless (is_some o) fault.Unsupported) ≡ true
some_is None n h = cc
some_is (Some m) n h = refl

offset_fine : (o : ℕ) → IsCount o → (n : ℕ) (f : Form) → Left n f (offset (offset_tree o) [])
unfolding refusal part_refusal add count_in text_of
offset_fine zero h n f = λ b p e. refl
offset_fine (suc o) h n f = λ b p e. both _ _ (some_is _ (suc o) (decimal_read (suc o) h)) refl

limit_fine : (l : Option ℕ) (rest : List Said) → IsLimit l → (n : ℕ) (f : Form) → Left n f rest → Left n f (limit (limit_tree l) rest)
unfolding refusal part_refusal add count_in text_of
limit_fine None rest h n f go = go
limit_fine (Some l) rest h n f go = λ b p e.
    both _ _ (some_is _ l (decimal_read l h)) (go (add b role.Limit (token.Number number.Digits (decimal l))) p e)

cut_fine : (c : ACut) → IsCut c → (n : ℕ) (f : Form) → Left n f (cut (cut_tree c))
cut_fine c h n f = limit_fine c.limit _ h.limit n f (offset_fine c.offset h.offset n f)

-- the heads of queries

where_fine : (n : ℕ) (f : Form) (rest : List Said) → Left n f rest → Left n f (mark token.Where rest)
unfolding refusal part_refusal add
where_fine n f rest go = λ b p e. go b p e

vars_fine : (vs : List (List ℕ)) (n : ℕ) (f : Form) (rest : List Said) → Left n f rest → Left n f (vars vs rest)
unfolding refusal part_refusal add
vars_fine [] n f rest go = go
vars_fine (v ∷ vs) n f rest go = λ b p e. vars_fine vs n f rest go (add b role.Projected (token.Var v)) p e

projection_fine : (vs : List (List ℕ)) (n : ℕ) (f : Form) (rest : List Said) → Left n f rest → Left n f (projection (projection_tree vs) rest)
unfolding refusal part_refusal add
projection_fine [] n f rest go = λ b p e. go (add b role.All token.Star) p e
projection_fine (v ∷ vs) n f rest go = λ b p e. vars_fine vs n f rest go (add b role.Projected (token.Var v)) p e

distinct_fine : (d : Bool) (n : ℕ) (f : Form) (rest : List Said) → Left n f rest → Left n f (modifier (modifier_tree d) rest)
unfolding refusal part_refusal add
distinct_fine false n f rest go = go
distinct_fine true n f rest go = λ b p e. go (add b role.Distinct token.Distinct) p e

pub query_fine : (q : Query) → IsWellFormed q → is_fine empty (said (query_tree q)) ≡ true
unfolding refusal part_refusal add
query_fine (query.Select d vs g c) h =
    let cuts = cut (cut_tree c) in
    let grouped = group (group_tree g) cuts in
    let here = mark token.Where grouped in
    distinct_fine d 0 form.Select (projection (projection_tree vs) here) (projection_fine vs 0 form.Select here (where_fine 0 form.Select grouped
    (whole_fine g form.Select cuts h.1.count h.1.each refl (λ n. cut_fine c h.2 n form.Select)))) empty refl refl
query_fine (query.Ask g) h =
    where_fine 0 form.Ask (group (group_tree g) []) (whole_fine g form.Ask [] h.count h.each refl (λ n b p e. refl)) (add empty role.IsAsk token.Ask) refl refl
query_fine (query.Construct t g c) h =
    let cuts = cut (cut_tree c) in
    let grouped = group (group_tree g) cuts in
    block_fine t 0 form.Template (say role.TemplateEnd token.Close (mark token.Where grouped)) (omega (arith, h.0.count)) h.0.each
    (λ b p e. where_fine 0 form.Construct grouped (whole_fine g form.Construct cuts h.1.count h.1.each refl (λ n. cut_fine c h.2 n form.Construct))
    (add b role.TemplateEnd token.Close) refl refl)
    (add empty role.IsConstruct token.Construct) refl refl
