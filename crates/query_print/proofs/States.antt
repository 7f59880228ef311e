-- What holds of the query that was read so far, if its tokens are those of a text and none is refused.
use Rattle.std.proofs.Common.{◌≡◌, ◌≢◌, ◌≤◌, ◌+◌, ℕ, Bool, true, false, ◌==◌, ◌&&◌, if◌then◌else◌, nat_le, List, [], ◌∷◌, ◌++◌, refl, ◌∙◌, sym, ap, length, length-append, arith, Option, Some, None, encode_utf8_all}
use Rattle.std.specs.List.{list_all, AllByRecursion}
use Rattle.std.specs.Char.{is_ascii_digit}
use Rattle.std.specs.Option.{is_none, unwrap_or}
use Rattle.std.specs.Str.{all_scalars}
use Rattle.std.specs.Str.Parse.{digits_value}
use Rattle.std.proofs.lemmas.Bool.Decides.{nat_tests}
use Rattle.std.proofs.lemmas.Str.Parse.{digits_value_short}
use Rattle.rdf_term.specs.EachOnce.{EachOnce}
use Rattle.rdf_term.specs.Validity.{is_part, is_short, is_tag}
use Rattle.query_print.proofs.Truths.{both, split}
use Rattle.query_tokens.specs.declared.token.Token.{Token}
use Rattle.query_tokens.specs.declared.token.Token.TheVariants as token
use Rattle.query_model.specs.declared.query.Slot.{Slot}
use Rattle.query_model.specs.declared.query.Scope.{Scope}
use Rattle.query_model.specs.declared.query.Scope.TheVariants as scope
use Rattle.query_model.specs.declared.query.TriplePattern.{TriplePattern}
use Rattle.query_grammar.specs.declared.mode.Role.TheVariants as role
use Rattle.query_grammar.specs.declared.fault.Kind.TheVariants as fault
use Rattle.query_grammar.specs.declared.built.Form.{Form}
use Rattle.query_grammar.specs.declared.built.Form.TheVariants as form
use Rattle.query_grammar.specs.declared.built.Built.{Built}
use Rattle.query_grammar.specs.Said.{Said}
use Rattle.query_grammar.specs.Classes.{is_verb, is_graph_name, is_iri, is_word, is_label}
use Rattle.query_grammar.specs.Built.{is_template, slot_refusal, refusal, add, change_last, object_tagged, object_typed, cut_of, query_of}
use Rattle.query_grammar.specs.Names.{with_name, is_among}
use Rattle.query_grammar.specs.Queries.{tokens, is_fine, built}
use Rattle.query_grammar.specs.Values.{Namespaces, slot_of, part_refusal, is_count, count_of, count_in, text_of}
use Rattle.query_model.specs.WellFormed.{IsVarName, IsSlot, IsVarOrIri, IsScope, IsLabelFree, IsPattern, IsTemplatePattern, AreTemplate, IsCount, IsLimit, IsCut, IsWellFormed}
use Rattle.query_print.proofs.Fine.{length_change}
use Rattle.query_print.proofs.Known.{IsGood}
use Rattle.query_print.proofs.NameLemmas.{once_more}
use Rattle.query_print.proofs.Numbers.{own}
use Rattle.query_print.proofs.SlotLemmas.{AreNamespaces, passed, part_of, word_fits, string_fits, verb_fits, name_fits, iri_fits, free_of_label, tag_fits, tag_free, type_fits, type_free}

-- The tokens that are left are of a text, and none is refused.
abbrev pub Sound : Built → List Said → Type 0
Sound b [] = Unit {0}
Sound b (s ∷ ss) = (is_none (refusal b s.role s.token) ≡ true) × IsGood s.token × Sound (add b s.role s.token) ss

pub sound_of : (ss : List Said) (b : Built) → is_fine b ss ≡ true → AllByRecursion IsGood (tokens ss) → Sound b ss
sound_of [] b h k = tt
sound_of (s ∷ ss) b h k =
    let parts = split (is_none (refusal b s.role s.token)) (is_fine (add b s.role s.token) ss) h in
    (parts.0, k.0, sound_of ss (add b s.role s.token) parts.1 k.1)

-- the parts of the pattern that is read: in a template no label and no GRAPH; a verb once one was read
pub record Reading (template verb : Bool) (ns : Namespaces) (s p : Slot) (g : Scope) : Type 0 where
  pub namespaces : AreNamespaces ns
  pub subject : IsSlot s
  pub free : template ≡ true → IsLabelFree s
  pub predicate : verb ≡ true → IsVarOrIri p
  pub graph : IsScope g
  pub outside : template ≡ true → g ≡ scope.Any

pub record Patterns (template : Bool) (xs : List TriplePattern) : Type 0 where
  pub count : length xs ≤ 256
  pub each : AllByRecursion IsPattern xs
  pub free : template ≡ true → AllByRecursion IsTemplatePattern xs

pub record Projected (chosen all : Bool) (vars : List (List ℕ)) : Type 0 where
  pub each : AllByRecursion IsVarName vars
  pub once : EachOnce vars
  pub some : chosen ≡ true → all ≡ false → vars ≢ []

abbrev pub State : Form → Bool → Bool → Built → Type 0
State f v w b = (b.form ≡ f) × Reading (is_template f) v b.prefixes b.subject b.verb b.scope × Patterns (is_template f) b.patterns × Projected w b.all b.vars
    × AreTemplate b.template × IsCut (cut_of b)

-- Such a state leads to a well-formed query.
abbrev pub Goes : Form → Bool → Bool → List Said → Type 0
Goes f v w rest = (b : Built) → State f v w b → Sound b rest → IsWellFormed (query_of (built b rest))

-- steps

-- a slot in a template is no label
slot_passed : (b : Built) (t : Token) → is_none (slot_refusal b t) ≡ true → ((is_template b.form && is_label t) ≡ false) × (is_none (part_refusal b.prefixes t) ≡ true)
unfolding slot_refusal
slot_passed b t h = at (is_template b.form && is_label t) refl h
  where
    at : (c : Bool) → (is_template b.form && is_label t) ≡ c → is_none (if c then Some fault.Unsupported else part_refusal b.prefixes t) ≡ true
        → ((is_template b.form && is_label t) ≡ false) × (is_none (part_refusal b.prefixes t) ≡ true)
    at true e k = cc
    at false e k = (e, k)

no_label : (x : Bool) (b : Bool) → (x && b) ≡ false → x ≡ true → b ≡ false
no_label true b h k = h
no_label false b h k = cc

-- the slot of a token that begins a subject or an object
pub record Begins (template : Bool) (s : Slot) : Type 0 where
  pub slot : IsSlot s
  pub free : template ≡ true → IsLabelFree s

pub word_begins : (f : Form) (b : Built) (t : Token) → b.form ≡ f → AreNamespaces b.prefixes → is_word t ≡ true → IsGood t → is_none (slot_refusal b t) ≡ true
    → Begins (is_template f) (slot_of b.prefixes t)
word_begins f b t e a c g r =
    let w = slot_passed b t r in
    record { slot = word_fits b.prefixes t a c g w.1; free = λ k. free_of_label b.prefixes t (no_label (is_template b.form) (is_label t) w.0 (ap is_template e ∙ k)) }

pub string_begins : (f : Form) (b : Built) (t : List ℕ) → IsGood (token.Str t) → is_none (slot_refusal b (token.Str t)) ≡ true
    → Begins (is_template f) (slot_of b.prefixes (token.Str t))
string_begins f b t g r = record { slot = string_fits b.prefixes t g (slot_passed b (token.Str t) r).1; free = λ k. free_of_label b.prefixes (token.Str t) refl }

-- the subject
pub subject_state : (f : Form) (v w : Bool) (b : Built) (t : Token) → State f v w b → Begins (is_template f) (slot_of b.prefixes t)
    → State f v w (add b role.Subject t)
unfolding add
subject_state f v w b t g k =
    (g.0, record { namespaces = g.1.namespaces; subject = k.slot; free = k.free; predicate = g.1.predicate; graph = g.1.graph; outside = g.1.outside }, g.2, g.3, g.4, g.5)

tag_known : (ns : Namespaces) (t : List ℕ) → IsGood (token.Tag t) → is_none (part_refusal ns (token.Tag t)) ≡ true → (is_part t && is_tag t) ≡ true
unfolding part_refusal
tag_known ns t g r = let w = split (all_scalars t) (is_tag t) g in both (is_part t) (is_tag t) (part_of t w.0 (passed (is_short t) fault.Unsupported r)) w.1

pub subject_tag : (f : Form) (v w : Bool) (b : Built) (t : List ℕ) → State f v w b → IsGood (token.Tag t) → is_none (refusal b role.SubjectTag (token.Tag t)) ≡ true
    → State f v w (add b role.SubjectTag (token.Tag t))
unfolding add refusal text_of
subject_tag f v w b t g k r = (
  g.0,
  record {
    namespaces = g.1.namespaces;
    subject = tag_fits b.subject t g.1.subject (tag_known b.prefixes t k r);
    free = λ e. tag_free b.subject t (g.1.free e);
    predicate = g.1.predicate;
    graph = g.1.graph;
    outside = g.1.outside;
  },
  g.2,
  g.3,
  g.4,
  g.5,
)

pub subject_type : (f : Form) (v w : Bool) (b : Built) (t : Token) → State f v w b → is_iri t ≡ true → IsGood t → is_none (refusal b role.SubjectType t) ≡ true
    → State f v w (add b role.SubjectType t)
unfolding add refusal
subject_type f v w b t g c k r = (
  g.0,
  record {
    namespaces = g.1.namespaces;
    subject = type_fits b.subject (slot_of b.prefixes t) g.1.subject (iri_fits b.prefixes t g.1.namespaces c k r);
    free = λ e. type_free b.subject (slot_of b.prefixes t) (g.1.free e);
    predicate = g.1.predicate;
    graph = g.1.graph;
    outside = g.1.outside;
  },
  g.2,
  g.3,
  g.4,
  g.5,
)

-- the verb
pub verb_state : (f : Form) (v w : Bool) (b : Built) (t : Token) → State f v w b → is_verb t ≡ true → IsGood t → is_none (refusal b role.Verb t) ≡ true
    → State f true w (add b role.Verb t)
unfolding add refusal
verb_state f v w b t g c k r = (
  g.0,
  record {
    namespaces = g.1.namespaces;
    subject = g.1.subject;
    free = g.1.free;
    predicate = λ e. verb_fits b.prefixes t g.1.namespaces c k r;
    graph = g.1.graph;
    outside = g.1.outside;
  },
  g.2,
  g.3,
  g.4,
  g.5,
)

-- a state that knows a verb does for one that needn't
pub forget : (f : Form) (w : Bool) (b : Built) → State f true w b → State f false w b
forget f w b g = (
  g.0,
  record {
    namespaces = g.1.namespaces;
    subject = g.1.subject;
    free = g.1.free;
    predicate = λ e. (let z : false ≡ true = e in cc);
    graph = g.1.graph;
    outside = g.1.outside;
  },
  g.2,
  g.3,
  g.4,
  g.5,
)

-- the object

all_push : {X : Type 0} (P : X → Type 0) (xs : List X) (x : X) → AllByRecursion P xs → P x → AllByRecursion P (xs ++ x ∷ [])
all_push P [] x h k = (k, tt)
all_push P (y ∷ ys) x h k = (h.0, all_push P ys x h.1 k)

object_passed : (b : Built) (t : Token) → is_none (refusal b role.Object t) ≡ true → ((length b.patterns == 256) ≡ false) × (is_none (slot_refusal b t) ≡ true)
unfolding refusal
object_passed b t h = at (length b.patterns == 256) refl h
  where
    at : (c : Bool) → (length b.patterns == 256) ≡ c → is_none (if c then Some fault.Unsupported else slot_refusal b t) ≡ true
        → ((length b.patterns == 256) ≡ false) × (is_none (slot_refusal b t) ≡ true)
    at true e k = cc
    at false e k = (e, k)

room : (n : ℕ) → n ≤ 256 → (n == 256) ≡ false → n + 1 ≤ 256
room n h e = grind (arith, nat_tests)

pub object_begins : (b : Built) (t : Token) → is_none (refusal b role.Object t) ≡ true → is_none (slot_refusal b t) ≡ true
object_begins b t r = (object_passed b t r).1

pub object_state : (f : Form) (w : Bool) (b : Built) (t : Token) → State f true w b → is_none (refusal b role.Object t) ≡ true
    → Begins (is_template f) (slot_of b.prefixes t) → State f true w (add b role.Object t)
unfolding add
object_state f w b t g r k =
    let x : TriplePattern = record { s = b.subject; p = b.verb; o = slot_of b.prefixes t; g = b.scope } in
    let known : IsPattern x = record { subject = g.1.subject; predicate = g.1.predicate refl; object = k.slot; scope = g.1.graph } in (
      g.0,
      g.1,
      record {
        count = omega (arith, length-append b.patterns (x ∷ []), room (length b.patterns) g.2.count (object_passed b t r).0);
        each = all_push IsPattern b.patterns x g.2.each known;
        free = λ e. all_push IsTemplatePattern b.patterns x (g.2.free e)
            (record { pattern = known; subject = g.1.free e; object = k.free e; scope = g.1.outside e });
      },
      g.3,
      g.4,
      g.5,
    )

all_changed : (P : TriplePattern → Type 0) (f : TriplePattern → TriplePattern) (xs : List TriplePattern) → ((x : TriplePattern) → P x → P (f x))
    → AllByRecursion P xs → AllByRecursion P (change_last f xs)
unfolding change_last
all_changed P f [] k h = h
all_changed P f (x ∷ []) k h = (k x h.0, tt)
all_changed P f (x ∷ y ∷ ys) k h = (h.0, all_changed P f (y ∷ ys) k h.1)

pub patterns_changed : (template : Bool) (f : TriplePattern → TriplePattern) (xs : List TriplePattern) → ((x : TriplePattern) → IsPattern x → IsPattern (f x))
    → ((x : TriplePattern) → IsTemplatePattern x → IsTemplatePattern (f x)) → Patterns template xs → Patterns template (change_last f xs)
patterns_changed template f xs h k g = record {
  count = omega (arith, g.count, length_change f xs);
  each = all_changed IsPattern f xs h g.each;
  free = λ e. all_changed IsTemplatePattern f xs k (g.free e);
}

tagged_fits : (t : List ℕ) → (is_part t && is_tag t) ≡ true → (x : TriplePattern) → IsPattern x → IsPattern (object_tagged t x)
tagged_fits t k x h = record { subject = h.subject; predicate = h.predicate; object = tag_fits x.o t h.object k; scope = h.scope }

pub object_tag : (f : Form) (v w : Bool) (b : Built) (t : List ℕ) → State f v w b → IsGood (token.Tag t) → is_none (refusal b role.ObjectTag (token.Tag t)) ≡ true
    → State f v w (add b role.ObjectTag (token.Tag t))
unfolding add refusal text_of
object_tag f v w b t g k r =
    let known = tag_known b.prefixes t k r in (
      g.0,
      g.1,
      patterns_changed (is_template f) (object_tagged t) b.patterns (tagged_fits t known)
          (λ x h. record { pattern = tagged_fits t known x h.pattern; subject = h.subject; object = tag_free x.o t h.object; scope = h.scope }) g.2,
      g.3,
      g.4,
      g.5,
    )

typed_fits : (d : Slot) → IsVarOrIri d → (x : TriplePattern) → IsPattern x → IsPattern (object_typed d x)
typed_fits d k x h = record { subject = h.subject; predicate = h.predicate; object = type_fits x.o d h.object k; scope = h.scope }

pub object_type : (f : Form) (v w : Bool) (b : Built) (t : Token) → State f v w b → is_iri t ≡ true → IsGood t → is_none (refusal b role.ObjectType t) ≡ true
    → State f v w (add b role.ObjectType t)
unfolding add refusal
object_type f v w b t g c k r =
    let d = slot_of b.prefixes t in
    let known = iri_fits b.prefixes t g.1.namespaces c k r in (
      g.0,
      g.1,
      patterns_changed (is_template f) (object_typed d) b.patterns (typed_fits d known)
          (λ x h. record { pattern = typed_fits d known x h.pattern; subject = h.subject; object = type_free x.o d h.object; scope = h.scope }) g.2,
      g.3,
      g.4,
      g.5,
    )

-- GRAPH, outside a template
pub name_state : (f : Form) (v w : Bool) (b : Built) (t : Token) → is_template f ≡ false → State f v w b → is_graph_name t ≡ true → IsGood t
    → is_none (refusal b role.GraphName t) ≡ true → State f v w (add b role.GraphName t)
unfolding add refusal
name_state f v w b t n g c k r = (
  g.0,
  record {
    namespaces = g.1.namespaces;
    subject = g.1.subject;
    free = g.1.free;
    predicate = g.1.predicate;
    graph = name_fits b.prefixes t g.1.namespaces c k r;
    outside = λ e. (let z : true ≡ false = sym e ∙ n in cc);
  },
  g.2,
  g.3,
  g.4,
  g.5,
)

pub outside_state : (f : Form) (v w : Bool) (b : Built) (t : Token) → State f v w b → State f v w (add b role.GraphEnd t)
unfolding add
outside_state f v w b t g = (
  g.0,
  record { namespaces = g.1.namespaces; subject = g.1.subject; free = g.1.free; predicate = g.1.predicate; graph = tt; outside = λ e. refl },
  g.2,
  g.3,
  g.4,
  g.5,
)

-- the end of a template
pub template_state : (v w : Bool) (b : Built) (t : Token) → State form.Template v w b → State form.Construct v w (add b role.TemplateEnd t)
unfolding add
template_state v w b t g = (
  refl,
  record {
    namespaces = g.1.namespaces;
    subject = g.1.subject;
    free = λ e. g.1.free refl;
    predicate = g.1.predicate;
    graph = g.1.graph;
    outside = λ e. g.1.outside refl;
  },
  record { count = omega arith; each = tt; free = λ e. tt },
  g.3,
  record { count = g.2.count; each = g.2.free refl },
  g.5,
)

-- the projection

some_name : (names : List (List ℕ)) (n : List ℕ) → with_name names n ≢ []
unfolding with_name
some_name [] n = λ e. cc
some_name (x ∷ xs) n = λ e. at (is_among (x ∷ xs) n) e
  where
    at : (b : Bool) → (if b then x ∷ xs else x ∷ xs ++ n ∷ []) ≡ [] → ⊥
    at true e = cc
    at false e = cc

pub names_more : (names : List (List ℕ)) (n : List ℕ) → AllByRecursion IsVarName names → IsVarName n → AllByRecursion IsVarName (with_name names n)
unfolding with_name
names_more names n h k = at (is_among names n)
  where
    at : (b : Bool) → AllByRecursion IsVarName (if b then names else names ++ n ∷ [])
    at true = h
    at false = all_push IsVarName names n h k

pub var_state : (f : Form) (v w : Bool) (b : Built) (n : List ℕ) → State f v w b → IsVarName n → State f v true (add b role.Projected (token.Var n))
unfolding add text_of
var_state f v w b n g k = (
  g.0,
  g.1,
  g.2,
  record { each = names_more b.vars n g.3.each k; once = once_more b.vars n g.3.once; some = λ e h. some_name b.vars n },
  g.4,
  g.5,
)

pub all_state : (f : Form) (v w : Bool) (b : Built) (t : Token) → State f v w b → State f v true (add b role.All t)
unfolding add
all_state f v w b t g = (g.0, g.1, g.2, record { each = g.3.each; once = g.3.once; some = λ e h. (let z : true ≡ false = h in cc) }, g.4, g.5)

-- LIMIT and OFFSET

few : (n : ℕ) → nat_le n 18 ≡ true → n ≤ 18
few n h = grind (arith, nat_tests)

count_known : (ds : List ℕ) → IsLimit (count_of ds)
unfolding count_of
count_known ds = at (is_count ds) refl
  where
    at : (b : Bool) → is_count ds ≡ b → IsLimit (if b then Some (digits_value 10 ds) else None)
    at true e =
        (let a = split (list_all is_ascii_digit ds) _ e in
        let c = split (nat_le 1 (length ds)) (nat_le (length ds) 18) a.1 in
        digits_value_short own ds 18 a.0 (few (length ds) c.1))
    at false e = tt

or_none : (o : Option ℕ) → IsLimit o → IsCount (unwrap_or o 0)
or_none None h = omega arith
or_none (Some n) h = h

pub limit_state : (f : Form) (v w : Bool) (b : Built) (t : Token) → State f v w b → State f v w (add b role.Limit t)
unfolding add count_in
limit_state f v w b t g = (g.0, g.1, g.2, g.3, g.4, record { limit = count_known (encode_utf8_all (text_of t)); offset = g.5.offset })

pub offset_state : (f : Form) (v w : Bool) (b : Built) (t : Token) → State f v w b → State f v w (add b role.Offset t)
unfolding add count_in
offset_state f v w b t g =
    (g.0, g.1, g.2, g.3, g.4, record { limit = g.5.limit; offset = or_none (count_of (encode_utf8_all (text_of t))) (count_known (encode_utf8_all (text_of t))) })
