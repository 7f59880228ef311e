-- From where a token leads, what is left of a tree comes from what is left with the token in front.
use Rattle.std.proofs.Common.{◌≡◌, refl, ◌∙◌, ℕ, Bool, true, false, IsTrue, List, [], ◌∷◌, Option, Some, None, inl, inr}
use Rattle.query_tokens.specs.declared.token.Token.{Token}
use Rattle.query_tokens.specs.declared.token.Token.TheVariants as token
use Rattle.query_tokens.specs.declared.token.Number.TheVariants as number
use Rattle.query_grammar.specs.declared.mode.Role.{Role}
use Rattle.query_grammar.specs.declared.mode.Role.TheVariants as role
use Rattle.query_grammar.specs.declared.mode.Ending.{Ending}
use Rattle.query_grammar.specs.declared.mode.Ending.TheVariants as ending
use Rattle.query_grammar.specs.declared.mode.Place.{Place}
use Rattle.query_grammar.specs.declared.mode.Place.TheVariants as place
use Rattle.query_grammar.specs.declared.mode.Mode.{Mode}
use Rattle.query_grammar.specs.declared.mode.Mode.TheVariants as mode
use Rattle.query_grammar.specs.Classes.{is_iri, is_verb, is_graph_name, is_word}
use Rattle.query_grammar.specs.Said.{Said}
use Rattle.query_grammar.specs.Grammar.{In, Bare, Tagged, Typed, SlotTree, Word, Literal, Part, Same, Block, GraphTree, Cut, Cuts, Turned, Distinct, Reduced, All, Vars, Select, Construct, Short, Ask, say, mark, optional, more_same, optional_block, cut, limit}
use Rattle.query_grammar.specs.Machine.{next, when}
use Rattle.query_grammar.proofs.Tails.{Exit, Rest, InGraph, SuffixIf, suffix_if, Tail, tail_said, rest_said, exit_said, optional_part, count}

abbrev pub Backward : Mode → Token → Option (Role × Mode) → Type 0
Backward m t None = Unit {0}
Backward m t (Some x) = (tail : Tail x.1) → (front : Tail m) × (tail_said m front ≡ say x.0 t (tail_said x.1 tail))

by_when : (b : Bool) (m : Mode) (t : Token) (r : Role) (m' : Mode)
    → (IsTrue b → (tail : Tail m') → (front : Tail m) × (tail_said m front ≡ say r t (tail_said m' tail))) → Backward m t (when b r m')
by_when true m t r m' k = k refl
by_when false m t r m' k = tt

abbrev in_class : {class : Token → Bool} (t : Token) → IsTrue (class t) → In class
in_class t h = record { token = t; fits = h }

abbrev block_of : {e : Ending} {p : Place} → SlotTree → Part → Rest e p → Block
block_of s v r = record { first = record { subject = s; first = v; more = r.parts }; more = r.sames; dot = r.dot }

-- a '.' behind a block ends it, or stands before more of it
after_dot : (b : Option Block) → (x : List Same × Bool) × ((rest : List Said) → more_same x.0 (optional x.1 token.Dot rest) ≡ mark token.Dot (optional_block b rest))
after_dot None = (([], true), λ rest. refl)
after_dot (Some b) = ((b.first ∷ b.more, b.dot), λ rest. refl)

abbrev none_if : (b : Bool) → SuffixIf b
none_if true = Bare
none_if false = tt

none_said : (tag type : Role) (b : Bool) (rest : List Said) → suffix_if tag type b (none_if b) rest ≡ rest
none_said tag type true rest = refl
none_said tag type false rest = refl

abbrev in_graph : {e : Ending} → Option Block → Exit e place.InGraph → InGraph e
in_graph b x = record { inside = b; dot = x.0; after = x.1; graphs = x.2; end = x.3 }

-- a GRAPH that begins what is left
abbrev graph_of : {e : Ending} → In is_graph_name → InGraph e → GraphTree
graph_of n g = record { name = n; inside = g.inside; dot = g.dot; after = g.after }

abbrev at_exit : {e : Ending} {p : Place} → Exit e p → Rest e p
at_exit x = record { parts = []; sames = []; dot = false; exit = x }

-- a '.' before what is left of a place
abbrev dot_rest : (e : Ending) (p : Place) → Tail (mode.BlockDue e p) → Rest e p
dot_rest e p x = let d = after_dot x.0 in record { parts = []; sames = d.0.0; dot = d.0.1; exit = x.1 }

dot_said : (e : Ending) (p : Place) (x : Tail (mode.BlockDue e p)) → rest_said e p (dot_rest e p x) ≡ mark token.Dot (tail_said (mode.BlockDue e p) x)
dot_said e p x = (after_dot x.0).1 (exit_said e p x.1)

-- a ';' before what is left
abbrev more_rest : {e : Ending} {p : Place} → Option Part → Rest e p → Rest e p
more_rest v r = record { parts = v ∷ r.parts; sames = r.sames; dot = r.dot; exit = r.exit }

more_rest_said : (e : Ending) (p : Place) (v : Option Part) (r : Rest e p) → rest_said e p (more_rest v r) ≡ mark token.Semicolon (optional_part v (rest_said e p r))
more_rest_said e p None r = refl
more_rest_said e p (Some v) r = refl

semicolon : (b : Bool) (e : Ending) (p : Place) (v : Option Part) (r : Rest e p)
    → (front : Tail (mode.AfterObject b e p)) × (tail_said (mode.AfterObject b e p) front ≡ mark token.Semicolon (tail_said (mode.AfterSemicolon e p) (v, r)))
semicolon b e p v r = ((none_if b, [], more_rest v r), none_said role.ObjectTag role.ObjectType b _ ∙ more_rest_said e p v r)

-- an OFFSET that stands first
turned : (o : List ℕ) (l : Option (List ℕ)) → (front : Cut) × (cut front ≡ mark token.Offset (count role.Offset o (limit l [])))
turned o None = (Cuts None (Some o), refl)
turned o (Some l) = (Turned o l, refl)

pub back : (m : Mode) (t : Token) → Backward m t (next m t)
back mode.Head token.Prefix = λ x. (record { prefixes = (x.0, x.1) ∷ x.2.prefixes; kind = x.2.kind }, refl)
back mode.Head token.Select = λ x. (record { prefixes = []; kind = Select x.0 x.1 x.2 x.3 x.4 }, refl)
back mode.Head token.Construct = construct
  where
    construct : (x : Tail mode.TemplateDue) → (front : Tail mode.Head) × (tail_said mode.Head front ≡ say role.IsConstruct token.Construct (tail_said mode.TemplateDue x))
    construct (inl x) = (record { prefixes = []; kind = Construct x.0 x.1 x.2 x.3 }, refl)
    construct (inr x) = (record { prefixes = []; kind = Short x.0 x.1 }, refl)
back mode.Head token.Ask = λ x. (record { prefixes = []; kind = Ask x.0 x.1 }, refl)
back mode.NamespaceDue (token.Namespace p) = λ x. ((p, x.0, x.1), refl)
back mode.IriDue (token.Iri i) = λ x. ((i, x), refl)
back mode.SelectDue token.Distinct = λ x. ((Some Distinct, x.0, x.1, x.2, x.3), refl)
back mode.SelectDue token.Reduced = λ x. ((Some Reduced, x.0, x.1, x.2, x.3), refl)
back mode.SelectDue token.Star = λ x. ((None, All, x.0, x.1, x.2), refl)
back mode.SelectDue (token.Var v) = λ x. ((None, Vars v x.0, x.1, x.2, x.3), refl)
back mode.FirstVar token.Star = λ x. ((All, x.0, x.1, x.2), refl)
back mode.FirstVar (token.Var v) = λ x. ((Vars v x.0, x.1, x.2, x.3), refl)
back mode.MoreVars (token.Var v) = λ x. ((v ∷ x.0, x.1, x.2, x.3), refl)
back mode.MoreVars token.Where = λ x. (([], true, x.0, x.1), refl)
back mode.MoreVars token.Open = λ x. (([], false, record { block = x.0; graphs = x.1.0 }, x.1.1), refl)
back mode.TemplateDue token.Open = λ x. (inl (x.0, x.1.0, x.1.1, x.1.2), refl)
back mode.TemplateDue token.Where = λ x. (inr x, refl)
back mode.ShortDue token.Open = λ x. ((x.0, x.1), refl)
back (mode.GroupDue e) token.Where = λ x. ((true, x.0, x.1), refl)
back (mode.GroupDue e) token.Open = λ x. ((false, record { block = x.0; graphs = x.1.0 }, x.1.1), refl)
back (mode.OpenDue e) token.Open = λ x. ((record { block = x.0; graphs = x.1.0 }, x.1.1), refl)
back (mode.BlockDue ending.Cut place.InGroup) token.Close = λ x. ((None, ([], x)), refl)
back (mode.BlockDue ending.Nothing place.InGroup) token.Close = λ x. ((None, ([], x)), refl)
back (mode.BlockDue e place.InGraph) token.Close = λ x. ((None, x), refl)
back (mode.BlockDue e place.InTemplate) token.Close = λ x. ((None, x), refl)
back (mode.BlockDue ending.Cut place.InShort) token.Close = λ x. ((None, x), refl)
back (mode.BlockDue ending.Nothing place.InShort) token.Close = λ x. ((None, x), refl)
back (mode.BlockDue e place.InGroup) token.Graph = λ x. ((None, (graph_of x.0 x.1 ∷ x.1.graphs, x.1.end)), refl)
back (mode.BlockDue e place.InGraph) token.Graph = tt
back (mode.BlockDue e place.InTemplate) token.Graph = tt
back (mode.BlockDue e place.InShort) token.Graph = tt
back (mode.BlockDue e p) (token.Str s) = λ x. ((Some (block_of (Literal s x.0) x.1 x.2), x.2.exit), refl)
back (mode.BlockDue e p) t = by_when (is_word t) (mode.BlockDue e p) t role.Subject (mode.AfterSubject false e p) (λ w x. ((Some (block_of (Word (in_class t w)) x.1 x.2), x.2.exit), refl))
back (mode.GraphDue e) t = by_when (is_graph_name t) (mode.GraphDue e) t role.GraphName (mode.GraphOpenDue e) (λ w x. ((in_class t w, x), refl))
back (mode.GraphOpenDue e) token.Open = λ x. (x, refl)
back (mode.GraphStart e) token.Close = λ x. (in_graph None x, refl)
back (mode.GraphStart e) (token.Str s) = λ x. (in_graph (Some (block_of (Literal s x.0) x.1 x.2)) x.2.exit, refl)
back (mode.GraphStart e) t = by_when (is_word t) (mode.GraphStart e) t role.Subject (mode.AfterSubject false e place.InGraph) (λ w x. (in_graph (Some (block_of (Word (in_class t w)) x.1 x.2)) x.2.exit, refl))
back (mode.AfterGraph e) token.Dot = λ x. ((true, x.0, x.1.0, x.1.1), refl)
back (mode.AfterGraph ending.Cut) token.Close = λ x. ((false, None, [], x), refl)
back (mode.AfterGraph ending.Nothing) token.Close = λ x. ((false, None, [], x), refl)
back (mode.AfterGraph e) token.Graph = λ x. ((false, None, graph_of x.0 x.1 ∷ x.1.graphs, x.1.end), refl)
back (mode.AfterGraph e) (token.Str s) = λ x. ((false, Some (block_of (Literal s x.0) x.1 x.2), x.2.exit.0, x.2.exit.1), refl)
back (mode.AfterGraph e) t = by_when (is_word t) (mode.AfterGraph e) t role.Subject (mode.AfterSubject false e place.InGroup) (λ w x. ((false, Some (block_of (Word (in_class t w)) x.1 x.2), x.2.exit.0, x.2.exit.1), refl))
back (mode.AfterSubject true e p) (token.Tag g) = λ x. ((Tagged g, x.1, x.2), refl)
back (mode.AfterSubject true e p) token.Carets = λ x. ((Typed x.0, x.1, x.2), refl)
back (mode.AfterSubject true e p) t = by_when (is_verb t) (mode.AfterSubject true e p) t role.Verb (mode.AfterVerb e p) (λ w x. ((Bare, record { verb = in_class t w; first = x.0; more = x.1 }, x.2), refl))
back (mode.AfterSubject false e p) t = by_when (is_verb t) (mode.AfterSubject false e p) t role.Verb (mode.AfterVerb e p) (λ w x. ((tt, record { verb = in_class t w; first = x.0; more = x.1 }, x.2), refl))
back (mode.SubjectTypeDue e p) t = by_when (is_iri t) (mode.SubjectTypeDue e p) t role.SubjectType (mode.AfterSubject false e p) (λ w x. ((in_class t w, x.1, x.2), refl))
back (mode.AfterVerb e p) (token.Str s) = λ x. ((Literal s x.0, x.1, x.2), refl)
back (mode.AfterVerb e p) t = by_when (is_word t) (mode.AfterVerb e p) t role.Object (mode.AfterObject false e p) (λ w x. ((Word (in_class t w), x.1, x.2), refl))
back (mode.AfterObject true e p) (token.Tag g) = λ x. ((Tagged g, x.1, x.2), refl)
back (mode.AfterObject true e p) token.Carets = λ x. ((Typed x.0, x.1, x.2), refl)
back (mode.AfterObject b e p) token.Comma = λ x. ((none_if b, x.0 ∷ x.1, x.2), none_said role.ObjectTag role.ObjectType b _)
back (mode.AfterObject b e p) token.Semicolon = λ x. semicolon b e p x.0 x.1
back (mode.AfterObject b e p) token.Dot = λ x. ((none_if b, [], dot_rest e p x), none_said role.ObjectTag role.ObjectType b _ ∙ dot_said e p x)
back (mode.AfterObject b ending.Cut place.InGroup) token.Close = λ x. ((none_if b, [], at_exit ([], x)), none_said role.ObjectTag role.ObjectType b _)
back (mode.AfterObject b ending.Nothing place.InGroup) token.Close = λ x. ((none_if b, [], at_exit ([], x)), none_said role.ObjectTag role.ObjectType b _)
back (mode.AfterObject b e place.InGraph) token.Close = λ x. ((none_if b, [], at_exit x), none_said role.ObjectTag role.ObjectType b _)
back (mode.AfterObject b e place.InTemplate) token.Close = λ x. ((none_if b, [], at_exit x), none_said role.ObjectTag role.ObjectType b _)
back (mode.AfterObject b ending.Cut place.InShort) token.Close = λ x. ((none_if b, [], at_exit x), none_said role.ObjectTag role.ObjectType b _)
back (mode.AfterObject b ending.Nothing place.InShort) token.Close = λ x. ((none_if b, [], at_exit x), none_said role.ObjectTag role.ObjectType b _)
back (mode.AfterObject b e place.InGroup) token.Graph = λ x. ((none_if b, [], at_exit (graph_of x.0 x.1 ∷ x.1.graphs, x.1.end)), none_said role.ObjectTag role.ObjectType b _)
back (mode.ObjectTypeDue e p) t = by_when (is_iri t) (mode.ObjectTypeDue e p) t role.ObjectType (mode.AfterObject false e p) (λ w x. ((in_class t w, x.1, x.2), refl))
back (mode.AfterComma e p) (token.Str s) = λ x. ((Literal s x.0, x.1, x.2), refl)
back (mode.AfterComma e p) t = by_when (is_word t) (mode.AfterComma e p) t role.Object (mode.AfterObject false e p) (λ w x. ((Word (in_class t w), x.1, x.2), refl))
back (mode.AfterSemicolon e p) token.Semicolon = λ x. ((None, more_rest x.0 x.1), more_rest_said e p x.0 x.1)
back (mode.AfterSemicolon e p) token.Dot = λ x. ((None, dot_rest e p x), dot_said e p x)
back (mode.AfterSemicolon ending.Cut place.InGroup) token.Close = λ x. ((None, at_exit ([], x)), refl)
back (mode.AfterSemicolon ending.Nothing place.InGroup) token.Close = λ x. ((None, at_exit ([], x)), refl)
back (mode.AfterSemicolon e place.InGraph) token.Close = λ x. ((None, at_exit x), refl)
back (mode.AfterSemicolon e place.InTemplate) token.Close = λ x. ((None, at_exit x), refl)
back (mode.AfterSemicolon ending.Cut place.InShort) token.Close = λ x. ((None, at_exit x), refl)
back (mode.AfterSemicolon ending.Nothing place.InShort) token.Close = λ x. ((None, at_exit x), refl)
back (mode.AfterSemicolon e place.InGroup) token.Graph = λ x. ((None, at_exit (graph_of x.0 x.1 ∷ x.1.graphs, x.1.end)), refl)
back (mode.AfterSemicolon e place.InGraph) token.Graph = tt
back (mode.AfterSemicolon e place.InTemplate) token.Graph = tt
back (mode.AfterSemicolon e place.InShort) token.Graph = tt
back (mode.AfterSemicolon e p) t = by_when (is_verb t) (mode.AfterSemicolon e p) t role.Verb (mode.AfterVerb e p) (λ w x. ((Some (record { verb = in_class t w; first = x.0; more = x.1 }), x.2), refl))
back mode.CutDue token.Limit = λ x. (Cuts (Some x.0) x.1, refl)
back mode.CutDue token.Offset = λ x. turned x.0 x.1
back mode.LimitDue (token.Number number.Digits n) = λ x. ((n, x), refl)
back mode.AfterLimit token.Offset = λ x. (Some x, refl)
back mode.LastOffsetDue (token.Number number.Digits n) = λ x. (n, refl)
back mode.OffsetDue (token.Number number.Digits n) = λ x. ((n, x), refl)
back mode.AfterOffset token.Limit = λ x. (Some x, refl)
back mode.LastLimitDue (token.Number number.Digits n) = λ x. (n, refl)
back _ _ = tt
