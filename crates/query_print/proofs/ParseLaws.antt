-- A query that a text gives is well formed, by the rules of the grammar.
use Rattle.std.proofs.Common.{◌≡◌, ℕ, Bool, true, false, if◌then◌else◌, List, [], ◌∷◌, refl, ◌∙◌, sym, subst, length, arith, fold, Option, Some, None}
use Rattle.std.specs.List.{AllByRecursion}
use Rattle.std.specs.Str.{chars}
use Rattle.std.proofs.lemmas.Str.{scalars-chars}
use Rattle.rdf_term.specs.EachOnce.{EachOnce}
use Rattle.query_tokens.specs.declared.token.Token.{Token}
use Rattle.query_tokens.specs.declared.token.Token.TheVariants as token
use Rattle.query_model.specs.declared.query.Slot.{Slot}
use Rattle.query_model.specs.declared.query.Slot.TheVariants as slot
use Rattle.query_model.specs.declared.query.Scope.{Scope}
use Rattle.query_model.specs.declared.query.Scope.TheVariants as scope
use Rattle.query_model.specs.declared.query.TriplePattern.{TriplePattern}
use Rattle.query_grammar.specs.declared.mode.Role.TheVariants as role
use Rattle.query_grammar.specs.declared.built.Form.{Form}
use Rattle.query_grammar.specs.declared.built.Form.TheVariants as form
use Rattle.query_grammar.specs.declared.built.Built.{Built}
use Rattle.query_grammar.specs.Said.{Said}
use Rattle.query_grammar.specs.Built.{is_template, refusal, add, query_as, query_of, empty}
use Rattle.query_grammar.specs.Grammar
use Rattle.query_grammar.specs.Grammar.{say, mark, optional, SlotTree, Word, Literal, Bare, Tagged, Typed, subject, object, more_objects, Part, part, Same, more_parts, same, Block, more_same, block, optional_block, GraphTree, Group, inside, graph, graphs, group, Cut, Cuts, Turned, limit, offset, cut, Modifier, Projection, modifier, vars, projection, Kind, kind, prefixes, said}
use Rattle.query_grammar.specs.Names.{with_slot, with_scope, with_pattern, standing}
use Rattle.query_grammar.specs.Queries.{built, MeaningIsBuilt}
use Rattle.query_grammar.specs.Values.{Namespaces, declare, text_of}
use Rattle.query_print.specs.Laws.{ParsedAreWellFormed}
use Rattle.query_model.specs.WellFormed.{IsVarName, IsSlot, IsScope, IsPattern, AreProjected, ArePatterns, IsWellFormed}
use Rattle.query_print.proofs.Known.{IsGood, tokens_good}
use Rattle.query_print.proofs.NameLemmas.{once_more, stands_none}
use Rattle.query_print.proofs.Scalars.{a_slot}
use Rattle.query_print.proofs.SlotLemmas.{AreNamespaces, declared_namespaces}
use Rattle.query_print.proofs.States.{Sound, sound_of, State, Goes, Patterns, Projected, word_begins, string_begins, subject_state, subject_tag, subject_type, verb_state, forget, object_begins, object_state, object_tag, object_type, name_state, outside_state, template_state, names_more, var_state, all_state, limit_state, offset_state}

plain : (f : Form) (v w : Bool) (t : Token) (rest : List Said) → Goes f v w rest → Goes f v w (mark t rest)
unfolding add
plain f v w t rest k = λ b g s. k b g s.2

maybe : (f : Form) (v w d : Bool) (t : Token) (rest : List Said) → Goes f v w rest → Goes f v w (optional d t rest)
maybe f v w false t rest k = k
maybe f v w true t rest k = plain f v w t rest k

-- subjects and objects

subject_tagged : (f : Form) (v w : Bool) (t : List ℕ) (rest : List Said) → Goes f v w rest → Goes f v w (say role.SubjectTag (token.Tag t) rest)
subject_tagged f v w t rest k = λ b g s. k (add b role.SubjectTag (token.Tag t)) (subject_tag f v w b t g s.1 s.0) s.2

subject_typed : (f : Form) (v w : Bool) (i : Grammar.In Rattle.query_grammar.specs.Classes.is_iri) (rest : List Said) → Goes f v w rest
    → Goes f v w (say role.SubjectType i.token rest)
subject_typed f v w i rest k = λ b g s. k (add b role.SubjectType i.token) (subject_type f v w b i.token g i.fits s.1 s.0) s.2

subject_string : (f : Form) (v w : Bool) (t : List ℕ) (rest : List Said) → Goes f v w rest → Goes f v w (say role.Subject (token.Str t) rest)
unfolding refusal
subject_string f v w t rest k = λ b g s. k (add b role.Subject (token.Str t)) (subject_state f v w b (token.Str t) g (string_begins f b t s.1 s.0)) s.2

subject_goes : (f : Form) (v w : Bool) (o : SlotTree) (rest : List Said) → Goes f v w rest → Goes f v w (subject o rest)
unfolding refusal
subject_goes f v w (Word x) rest k = λ b g s.
    k (add b role.Subject x.token) (subject_state f v w b x.token g (word_begins f b x.token g.0 g.1.namespaces x.fits s.1 s.0)) s.2
subject_goes f v w (Literal t Bare) rest k = subject_string f v w t rest k
subject_goes f v w (Literal t (Tagged x)) rest k = subject_string f v w t (say role.SubjectTag (token.Tag x) rest) (subject_tagged f v w x rest k)
subject_goes f v w (Literal t (Typed i)) rest k =
    let typed = say role.SubjectType i.token rest in
    subject_string f v w t (mark token.Carets typed) (plain f v w token.Carets typed (subject_typed f v w i rest k))

object_tagged : (f : Form) (v w : Bool) (t : List ℕ) (rest : List Said) → Goes f v w rest → Goes f v w (say role.ObjectTag (token.Tag t) rest)
object_tagged f v w t rest k = λ b g s. k (add b role.ObjectTag (token.Tag t)) (object_tag f v w b t g s.1 s.0) s.2

object_typed : (f : Form) (v w : Bool) (i : Grammar.In Rattle.query_grammar.specs.Classes.is_iri) (rest : List Said) → Goes f v w rest
    → Goes f v w (say role.ObjectType i.token rest)
object_typed f v w i rest k = λ b g s. k (add b role.ObjectType i.token) (object_type f v w b i.token g i.fits s.1 s.0) s.2

object_string : (f : Form) (w : Bool) (t : List ℕ) (rest : List Said) → Goes f true w rest → Goes f true w (say role.Object (token.Str t) rest)
object_string f w t rest k = λ b g s.
    k (add b role.Object (token.Str t)) (object_state f w b (token.Str t) g s.0 (string_begins f b t s.1 (object_begins b (token.Str t) s.0))) s.2

object_goes : (f : Form) (w : Bool) (o : SlotTree) (rest : List Said) → Goes f true w rest → Goes f true w (object o rest)
object_goes f w (Word x) rest k = λ b g s.
    k (add b role.Object x.token)
    (object_state f w b x.token g s.0 (word_begins f b x.token g.0 g.1.namespaces x.fits s.1 (object_begins b x.token s.0))) s.2
object_goes f w (Literal t Bare) rest k = object_string f w t rest k
object_goes f w (Literal t (Tagged x)) rest k = object_string f w t (say role.ObjectTag (token.Tag x) rest) (object_tagged f true w x rest k)
object_goes f w (Literal t (Typed i)) rest k =
    let typed = say role.ObjectType i.token rest in
    object_string f w t (mark token.Carets typed) (plain f true w token.Carets typed (object_typed f true w i rest k))

objects_go : (f : Form) (w : Bool) (os : List SlotTree) (rest : List Said) → Goes f false w rest → Goes f true w (more_objects os rest)
objects_go f w [] rest k = λ b g s. k b (forget f w b g) s
objects_go f w (o ∷ os) rest k =
    let more = more_objects os rest in
    plain f true w token.Comma (object o more) (object_goes f w o more (objects_go f w os rest k))

-- blocks

part_goes : (f : Form) (w : Bool) (x : Part) (rest : List Said) → Goes f false w rest → Goes f false w (part x rest)
part_goes f w x rest k = λ b g s.
    object_goes f w x.first (more_objects x.more rest) (objects_go f w x.more rest k) (add b role.Verb x.verb.token)
    (verb_state f false w b x.verb.token g x.verb.fits s.1 s.0) s.2

parts_go : (f : Form) (w : Bool) (xs : List (Option Part)) (rest : List Said) → Goes f false w rest → Goes f false w (more_parts xs rest)
parts_go f w [] rest k = k
parts_go f w (None ∷ xs) rest k = plain f false w token.Semicolon (more_parts xs rest) (parts_go f w xs rest k)
parts_go f w (Some x ∷ xs) rest k =
    let more = more_parts xs rest in
    plain f false w token.Semicolon (part x more) (part_goes f w x more (parts_go f w xs rest k))

same_goes : (f : Form) (w : Bool) (x : Same) (rest : List Said) → Goes f false w rest → Goes f false w (same x rest)
same_goes f w x rest k =
    let more = more_parts x.more rest in
    subject_goes f false w x.subject (part x.first more) (part_goes f w x.first more (parts_go f w x.more rest k))

sames_go : (f : Form) (w : Bool) (xs : List Same) (rest : List Said) → Goes f false w rest → Goes f false w (more_same xs rest)
sames_go f w [] rest k = k
sames_go f w (x ∷ xs) rest k =
    let more = more_same xs rest in
    plain f false w token.Dot (same x more) (same_goes f w x more (sames_go f w xs rest k))

block_goes : (f : Form) (w : Bool) (x : Block) (rest : List Said) → Goes f false w rest → Goes f false w (block x rest)
block_goes f w x rest k =
    let end = optional x.dot token.Dot rest in
    same_goes f w x.first (more_same x.more end) (sames_go f w x.more end (maybe f false w x.dot token.Dot rest k))

optional_goes : (f : Form) (w : Bool) (x : Option Block) (rest : List Said) → Goes f false w rest → Goes f false w (optional_block x rest)
optional_goes f w None rest k = k
optional_goes f w (Some x) rest k = block_goes f w x rest k

-- groups, which are no templates

inside_goes : (f : Form) (w : Bool) (x : Option Block) (rest : List Said) → Goes f false w rest → Goes f false w (inside x rest)
unfolding refusal
inside_goes f w None rest k = λ b g s. (let z : false ≡ true = s.0 in cc)
inside_goes f w (Some x) rest k =
    block_goes f w x (say role.GraphEnd token.Close rest) (λ b g s. k (add b role.GraphEnd token.Close) (outside_state f false w b token.Close g) s.2)

graph_goes : (f : Form) (w : Bool) (x : GraphTree) (rest : List Said) → is_template f ≡ false → Goes f false w rest → Goes f false w (graph x rest)
graph_goes f w x rest n k =
    let after = optional x.dot token.Dot (optional_block x.after rest) in
    let opened = mark token.Open (inside x.inside after) in
    let more : Goes f false w opened = plain f false w token.Open (inside x.inside after)
    (inside_goes f w x.inside after (maybe f false w x.dot token.Dot (optional_block x.after rest) (optional_goes f w x.after rest k))) in
    plain f false w token.Graph (say role.GraphName x.name.token opened)
    (λ b g s. more (add b role.GraphName x.name.token) (name_state f false w b x.name.token n g x.name.fits s.1 s.0) s.2)

graphs_go : (f : Form) (w : Bool) (xs : List GraphTree) (rest : List Said) → is_template f ≡ false → Goes f false w rest → Goes f false w (graphs xs rest)
graphs_go f w [] rest n k = plain f false w token.Close rest k
graphs_go f w (x ∷ xs) rest n k = graph_goes f w x (graphs xs rest) n (graphs_go f w xs rest n k)

group_goes : (f : Form) (w : Bool) (x : Group) (rest : List Said) → is_template f ≡ false → Goes f false w rest → Goes f false w (group x rest)
group_goes f w x rest n k =
    let more = graphs x.graphs rest in
    plain f false w token.Open (optional_block x.block more) (optional_goes f w x.block more (graphs_go f w x.graphs rest n k))

-- LIMIT and OFFSET

limit_goes : (f : Form) (w : Bool) (l : Option (List ℕ)) (rest : List Said) → Goes f false w rest → Goes f false w (limit l rest)
limit_goes f w None rest k = k
limit_goes f w (Some n) rest k =
    let t = token.Number Rattle.query_tokens.specs.declared.token.Number.TheVariants.Digits n in
    plain f false w token.Limit (say role.Limit t rest) (λ b g s. k (add b role.Limit t) (limit_state f false w b t g) s.2)

offset_goes : (f : Form) (w : Bool) (l : Option (List ℕ)) (rest : List Said) → Goes f false w rest → Goes f false w (offset l rest)
offset_goes f w None rest k = k
offset_goes f w (Some n) rest k =
    let t = token.Number Rattle.query_tokens.specs.declared.token.Number.TheVariants.Digits n in
    plain f false w token.Offset (say role.Offset t rest) (λ b g s. k (add b role.Offset t) (offset_state f false w b t g) s.2)

cut_goes : (f : Form) (w : Bool) (c : Cut) → Goes f false w [] → Goes f false w (cut c)
cut_goes f w (Cuts l o) k = limit_goes f w l (offset o []) (offset_goes f w o [] k)
cut_goes f w (Turned o l) k = offset_goes f w (Some o) (limit (Some l) []) (limit_goes f w (Some l) [] k)

-- projections

vars_go : (f : Form) (xs : List (List ℕ)) (rest : List Said) → Goes f false true rest → Goes f false true (vars xs rest)
vars_go f [] rest k = k
vars_go f (x ∷ xs) rest k = λ b g s. vars_go f xs rest k (add b role.Projected (token.Var x)) (var_state f false true b x g s.1) s.2

projection_goes : (f : Form) (x : Projection) (rest : List Said) → Goes f false true rest → Goes f false false (projection x rest)
projection_goes f Grammar.All rest k = λ b g s. k (add b role.All token.Star) (all_state f false false b token.Star g) s.2
projection_goes f (Grammar.Vars x xs) rest k = λ b g s.
    vars_go f xs rest k (add b role.Projected (token.Var x)) (var_state f false false b x g s.1) s.2

modifier_goes : (f : Form) (x : Option Modifier) (rest : List Said) → Goes f false false rest → Goes f false false (modifier x rest)
unfolding add
modifier_goes f None rest k = k
modifier_goes f (Some Grammar.Distinct) rest k = λ b g s. k (add b role.Distinct token.Distinct) g s.2
modifier_goes f (Some Grammar.Reduced) rest k = plain f false false token.Reduced rest k

-- the variables of a group

record AreNames (names : List (List ℕ)) : Type 0 where
  each : AllByRecursion IsVarName names
  once : EachOnce names

no_names : AreNames []
no_names = record { each = tt; once = λ i j d l h. absurd (omega arith) }

slot_names : (names : List (List ℕ)) (s : Slot) → IsSlot s → AreNames names → AreNames (with_slot names s)
slot_names names (slot.Var n) h k = record { each = names_more names n k.each h; once = once_more names n k.once }
slot_names names (slot.Blank l) h k = k
slot_names names (slot.Fixed t) h k = k

scope_names : (names : List (List ℕ)) (g : Scope) → IsScope g → AreNames names → AreNames (with_scope names g)
scope_names names scope.Any h k = k
scope_names names (scope.Graph s) h k = slot_names names s (a_slot s h) k

pattern_names : (names : List (List ℕ)) (x : TriplePattern) → IsPattern x → AreNames names → AreNames (with_pattern names x)
unfolding with_pattern
pattern_names names x h k =
    slot_names _ x.o h.object (slot_names _ x.p (a_slot x.p h.predicate) (slot_names _ x.s h.subject (scope_names names x.g h.scope k)))

group_names : (xs : List TriplePattern) (names : List (List ℕ)) → AllByRecursion IsPattern xs → AreNames names → AreNames (fold with_pattern names xs)
group_names [] names h k = k
group_names (x ∷ xs) names h k = group_names xs (with_pattern names x) h.1 (pattern_names names x h.0 k)

projected_known : (all : Bool) (names : List (List ℕ)) (xs : List TriplePattern) → AllByRecursion IsPattern xs → Projected true all names
    → AreProjected (if all then standing xs else names) xs
unfolding standing
projected_known true names xs h k =
    let w = group_names xs [] h no_names in record { each = w.each; once = w.once; none = λ e. stands_none xs e }
projected_known false names xs h k = record { each = k.each; once = k.once; none = λ e. absurd (k.some refl refl e) }

-- the ends of queries

ends_as : (f : Form) (w : Bool) → ((b : Built) → State f false w b → IsWellFormed (query_as f b)) → Goes f false w []
unfolding query_of
ends_as f w k = λ b g s. subst (λ h. IsWellFormed (query_as h b)) (sym g.0) (k b g)

are_patterns : (t : Bool) (xs : List TriplePattern) → Patterns t xs → ArePatterns xs
are_patterns t xs h = record { count = h.count; each = h.each }

select_ends : Goes form.Select false true []
select_ends = ends_as form.Select true (λ b g. (projected_known b.all b.vars b.patterns g.2.each g.3, are_patterns false b.patterns g.2, g.5))

ask_ends : Goes form.Ask false false []
ask_ends = ends_as form.Ask false (λ b g. are_patterns false b.patterns g.2)

construct_ends : Goes form.Construct false false []
construct_ends = ends_as form.Construct false (λ b g. (g.4, are_patterns false b.patterns g.2, g.5))

short_ends : Goes form.Short false false []
short_ends = ends_as form.Short false (λ b g. (record { count = g.2.count; each = g.2.free refl }, are_patterns true b.patterns g.2, g.5))

-- the heads of queries

abbrev started : Namespaces → List ℕ → Built
started ns p = record empty { prefixes = ns; pending = p }

head_state : (f : Form) (ns : Namespaces) (p : List ℕ) → AreNamespaces ns → State f false false (record (started ns p) { form = f })
head_state f ns p h = (
  refl,
  record { namespaces = h; subject = refl; free = λ e. tt; predicate = λ e. (let z : false ≡ true = e in cc); graph = tt; outside = λ e. refl },
  record { count = omega arith; each = tt; free = λ e. tt },
  record { each = no_names.each; once = no_names.once; some = λ e. (let z : false ≡ true = e in cc) },
  record { count = omega arith; each = tt },
  record { limit = tt; offset = omega arith },
)

abbrev Known : Built → List Said → Type 0
Known b ss = Sound b ss → IsWellFormed (query_of (built b ss))

kind_known : (k : Kind) (ns : Namespaces) (p : List ℕ) → AreNamespaces ns → Known (started ns p) (kind k)
unfolding add
kind_known (Grammar.Select m x d g c) ns p h = λ s.
    let f = form.Select in
    let grouped = group g (cut c) in
    let rest = optional d token.Where grouped in
    let goes = maybe f false true d token.Where grouped (group_goes f true g (cut c) refl (cut_goes f true c select_ends)) in
    modifier_goes f m (projection x rest) (projection_goes f x rest goes) (started ns p) (head_state f ns p h) s.2
kind_known (Grammar.Construct t d g c) ns p h = λ s.
    let grouped = group g (cut c) in
    let rest = optional d token.Where grouped in
    let goes = maybe form.Construct false false d token.Where grouped (group_goes form.Construct false g (cut c) refl (cut_goes form.Construct false c construct_ends)) in
    let closed = say role.TemplateEnd token.Close rest in
    optional_goes form.Template false t closed (λ b g s. goes (add b role.TemplateEnd token.Close) (template_state false false b token.Close g) s.2)
    (record (started ns p) { form = form.Template }) (head_state form.Template ns p h) s.2.2
kind_known (Grammar.Short t c) ns p h = λ s.
    let closed = mark token.Close (cut c) in
    optional_goes form.Short false t closed (plain form.Short false false token.Close (cut c) (cut_goes form.Short false c short_ends))
    (record (started ns p) { form = form.Short }) (head_state form.Short ns p h) s.2.2.2
kind_known (Grammar.Ask d g) ns p h = λ s.
    let f = form.Ask in
    let grouped = group g [] in
    maybe f false false d token.Where grouped (group_goes f false g [] refl ask_ends) (record (started ns p) { form = f }) (head_state f ns p h) s.2

prefixes_known : (ps : List (List ℕ × List ℕ)) (k : Kind) (ns : Namespaces) (p : List ℕ) → AreNamespaces ns → Known (started ns p) (prefixes ps (kind k))
unfolding add text_of
prefixes_known [] k ns p h = kind_known k ns p h
prefixes_known (x ∷ ps) k ns p h = λ s.
    prefixes_known ps k (declare ns x.0 x.1) x.0 (declared_namespaces ns x.0 x.1 h s.2.2.1) s.2.2.2

pub parsed_known : MeaningIsBuilt → ParsedAreWellFormed
parsed_known reads = λ text q u h.
    let tree = h.query.tree in
    let good = tokens_good (length text) (chars text) h.tokens (scalars-chars text u) h.are in
    let sound : Sound empty (said tree) = sound_of (said tree) empty h.query.fine (subst (AllByRecursion IsGood) (sym h.query.is) good) in
    subst IsWellFormed (reads tree ∙ sym h.query.query) (prefixes_known tree.prefixes tree.kind [] [] tt sound)
