-- What is left of a query's tree is nothing, where the mode can end, or it begins with a token that leads to what is left then.
use Rattle.std.proofs.Common.{◌≡◌, refl, ℕ, Bool, true, false, List, [], ◌∷◌, Option, Some, None, ◌⊎◌, inl, inr}
use Rattle.query_tokens.specs.declared.token.Token.{Token}
use Rattle.query_tokens.specs.declared.token.Token.TheVariants as token
use Rattle.query_tokens.specs.declared.token.Number.{Number}
use Rattle.query_grammar.specs.declared.mode.Role.{Role}
use Rattle.query_grammar.specs.declared.mode.Role.TheVariants as role
use Rattle.query_grammar.specs.declared.mode.Ending.{Ending}
use Rattle.query_grammar.specs.declared.mode.Ending.TheVariants as ending
use Rattle.query_grammar.specs.declared.mode.Place.{Place}
use Rattle.query_grammar.specs.declared.mode.Place.TheVariants as place
use Rattle.query_grammar.specs.declared.mode.Mode.{Mode}
use Rattle.query_grammar.specs.declared.mode.Mode.TheVariants as mode
use Rattle.query_grammar.specs.Classes.{is_iri, is_verb, is_graph_name, is_word}
use Rattle.query_grammar.specs.Said.{Said}
use Rattle.query_grammar.specs.Grammar.{Suffix, Bare, Tagged, Typed, SlotTree, Word, Literal, Part, Same, Block, GraphTree, Group, Cut, Cuts, Turned, Modifier, Distinct, Reduced, Projection, All, Vars, Kind, Select, Construct, Short, Ask, optional, object, more_objects, subject, part, more_parts, more_same, optional_block, graphs, cut, limit, offset, kind, prefixes}
use Rattle.query_grammar.specs.Machine.{next, go, can_end, end_of, block_ends}
use Rattle.query_grammar.proofs.Tails.{ToEnd, Exit, Rest, Tail, tail_said, rest_said, exit_said, end_said, template_said}

abbrev pub Forward : Mode → List Said → Type 0
Forward m [] = can_end m ≡ true
Forward m (x ∷ rest) = (m' : Mode) × (tail : Tail m') × (next m x.token ≡ Some (x.role, m')) × (tail_said m' tail ≡ rest)

word_at : (P : Token → Type 0) → ((p : List ℕ) → P (token.Namespace p)) → ((i : List ℕ) → P (token.Iri i)) → ((p l : List ℕ) → P (token.Name p l))
    → ((v : List ℕ) → P (token.Var v)) → ((l : List ℕ) → P (token.Label l)) → ((k : Number) (n : List ℕ) → P (token.Number k n))
    → P token.True → P token.False → P token.Quotes → (t : Token) → is_word t ≡ true → P t
word_at P a b c d e f g i q (token.Namespace n) h = a n
word_at P a b c d e f g i q (token.Iri n) h = b n
word_at P a b c d e f g i q (token.Name p n) h = c p n
word_at P a b c d e f g i q (token.Var n) h = d n
word_at P a b c d e f g i q (token.Label n) h = e n
word_at P a b c d e f g i q (token.Number k n) h = f k n
word_at P a b c d e f g i q token.True h = g
word_at P a b c d e f g i q token.False h = i
word_at P a b c d e f g i q token.Quotes h = q
word_at P a b c d e f g i q t h = cc

verb_at : (P : Token → Type 0) → ((p : List ℕ) → P (token.Namespace p)) → ((i : List ℕ) → P (token.Iri i)) → ((p l : List ℕ) → P (token.Name p l))
    → ((v : List ℕ) → P (token.Var v)) → P token.A → (t : Token) → is_verb t ≡ true → P t
verb_at P a b c d e (token.Namespace n) h = a n
verb_at P a b c d e (token.Iri n) h = b n
verb_at P a b c d e (token.Name p n) h = c p n
verb_at P a b c d e (token.Var n) h = d n
verb_at P a b c d e token.A h = e
verb_at P a b c d e t h = cc

name_at : (P : Token → Type 0) → ((p : List ℕ) → P (token.Namespace p)) → ((i : List ℕ) → P (token.Iri i)) → ((p l : List ℕ) → P (token.Name p l))
    → ((v : List ℕ) → P (token.Var v)) → (t : Token) → is_graph_name t ≡ true → P t
name_at P a b c d (token.Namespace n) h = a n
name_at P a b c d (token.Iri n) h = b n
name_at P a b c d (token.Name p n) h = c p n
name_at P a b c d (token.Var n) h = d n
name_at P a b c d t h = cc

iri_at : (P : Token → Type 0) → ((p : List ℕ) → P (token.Namespace p)) → ((i : List ℕ) → P (token.Iri i)) → ((p l : List ℕ) → P (token.Name p l))
    → (t : Token) → is_iri t ≡ true → P t
iri_at P a b c (token.Namespace n) h = a n
iri_at P a b c (token.Iri n) h = b n
iri_at P a b c (token.Name p n) h = c p n
iri_at P a b c t h = cc

-- A word as a subject leads there, at each mode where a block may begin; and as an object, a verb, a datatype.
abbrev Leads : Mode → Role → Mode → Token → Type 0
Leads m r m' t = next m t ≡ go r m'

-- where a subject may stand, a block is begun
starts : (m : Mode) (e : Ending) (p : Place) → ((s : List ℕ) → next m (token.Str s) ≡ go role.Subject (mode.AfterSubject true e p))
    → ((t : Token) → is_word t ≡ true → next m t ≡ go role.Subject (mode.AfterSubject false e p))
    → (s : SlotTree) (v : Part) (r : Rest e p) → Forward m (subject s (part v (rest_said e p r)))
starts m e p string word (Word w) v r = (mode.AfterSubject false e p, (tt, v, r), word w.token w.fits, refl)
starts m e p string word (Literal t s) v r = (mode.AfterSubject true e p, (s, v, r), string t, refl)

abbrev rest_of : {e : Ending} {p : Place} → Block → Exit e p → Rest e p
rest_of b x = record { parts = b.first.more; sames = b.more; dot = b.dot; exit = x }

-- where an object may stand
object_starts : (m : Mode) (e : Ending) (p : Place) → ((s : List ℕ) → next m (token.Str s) ≡ go role.Object (mode.AfterObject true e p))
    → ((t : Token) → is_word t ≡ true → next m t ≡ go role.Object (mode.AfterObject false e p))
    → (o : SlotTree) (os : List SlotTree) (r : Rest e p) → Forward m (object o (more_objects os (rest_said e p r)))
object_starts m e p string word (Word w) os r = (mode.AfterObject false e p, (tt, os, r), word w.token w.fits, refl)
object_starts m e p string word (Literal t s) os r = (mode.AfterObject true e p, (s, os, r), string t, refl)

-- where a group may end
group_ends : (m : Mode) (e : Ending) → next m token.Close ≡ go role.Plain (end_of e) → next m token.Graph ≡ go role.Plain (mode.GraphDue e)
    → (gs : List GraphTree) (x : ToEnd e) → Forward m (graphs gs (end_said e x))
group_ends m ending.Cut close graph [] x = (mode.CutDue, x, close, refl)
group_ends m ending.Nothing close graph [] x = (mode.Ended, x, close, refl)
group_ends m e close graph (g ∷ gs) x = (mode.GraphDue e, (g.name, record { inside = g.inside; dot = g.dot; after = g.after; graphs = gs; end = x }), graph, refl)

-- what stands behind a block
exits : (m : Mode) (e : Ending) (p : Place) → next m token.Close ≡ block_ends token.Close e p → next m token.Graph ≡ block_ends token.Graph e p
    → (x : Exit e p) → Forward m (exit_said e p x)
exits m e place.InGroup close graph x = group_ends m e close graph x.0 x.1
exits m e place.InGraph close graph x = (mode.AfterGraph e, x, close, refl)
exits m e place.InTemplate close graph x = (mode.GroupDue e, x, close, refl)
exits m ending.Cut place.InShort close graph x = (mode.CutDue, x, close, refl)
exits m ending.Nothing place.InShort close graph x = (mode.Ended, x, close, refl)

-- where a block may end
block_exits : (m : Mode) (e : Ending) (p : Place) → next m token.Dot ≡ block_ends token.Dot e p → next m token.Close ≡ block_ends token.Close e p
    → next m token.Graph ≡ block_ends token.Graph e p → (ss : List Same) (d : Bool) (x : Exit e p)
    → Forward m (more_same ss (optional d token.Dot (exit_said e p x)))
block_exits m e p dot close graph (s ∷ ss) d x = (mode.BlockDue e p, (Some (record { first = s; more = ss; dot = d }), x), dot, refl)
block_exits m e p dot close graph [] true x = (mode.BlockDue e p, (None, x), dot, refl)
block_exits m e p dot close graph [] false x = exits m e p close graph x

parts_left : (m : Mode) (e : Ending) (p : Place) → next m token.Dot ≡ block_ends token.Dot e p → next m token.Close ≡ block_ends token.Close e p
    → next m token.Graph ≡ block_ends token.Graph e p → next m token.Semicolon ≡ go role.Plain (mode.AfterSemicolon e p)
    → (vs : List (Option Part)) (ss : List Same) (d : Bool) (x : Exit e p)
    → Forward m (more_parts vs (more_same ss (optional d token.Dot (exit_said e p x))))
parts_left m e p dot close graph semicolon [] ss d x = block_exits m e p dot close graph ss d x
parts_left m e p dot close graph semicolon (None ∷ vs) ss d x = (mode.AfterSemicolon e p, (None, record { parts = vs; sames = ss; dot = d; exit = x }), semicolon, refl)
parts_left m e p dot close graph semicolon (Some v ∷ vs) ss d x = (mode.AfterSemicolon e p, (Some v, record { parts = vs; sames = ss; dot = d; exit = x }), semicolon, refl)

objects_left : (b : Bool) (e : Ending) (p : Place) (os : List SlotTree) (r : Rest e p) → Forward (mode.AfterObject b e p) (more_objects os (rest_said e p r))
objects_left true e p [] r = parts_left (mode.AfterObject true e p) e p refl refl refl refl r.parts r.sames r.dot r.exit
objects_left false e p [] r = parts_left (mode.AfterObject false e p) e p refl refl refl refl r.parts r.sames r.dot r.exit
objects_left true e p (o ∷ os) r = (mode.AfterComma e p, (o, os, r), refl, refl)
objects_left false e p (o ∷ os) r = (mode.AfterComma e p, (o, os, r), refl, refl)

verb_next : (m : Mode) (e : Ending) (p : Place) → ((t : Token) → is_verb t ≡ true → next m t ≡ go role.Verb (mode.AfterVerb e p))
    → (v : Part) (r : Rest e p) → Forward m (part v (rest_said e p r))
verb_next m e p verb v r = (mode.AfterVerb e p, (v.first, v.more, r), verb v.verb.token v.verb.fits, refl)

subject_left : (e : Ending) (p : Place) (s : Suffix) (v : Part) (r : Rest e p) → Forward (mode.AfterSubject true e p) (tail_said (mode.AfterSubject true e p) (s, v, r))
subject_left e p Bare v r = verb_next (mode.AfterSubject true e p) e p (verb_at (Leads (mode.AfterSubject true e p) role.Verb (mode.AfterVerb e p)) (λ n. refl) (λ n. refl) (λ q n. refl) (λ n. refl) refl) v r
subject_left e p (Tagged g) v r = (mode.AfterSubject false e p, (tt, v, r), refl, refl)
subject_left e p (Typed i) v r = (mode.SubjectTypeDue e p, (i, v, r), refl, refl)

object_left : (e : Ending) (p : Place) (s : Suffix) (os : List SlotTree) (r : Rest e p) → Forward (mode.AfterObject true e p) (tail_said (mode.AfterObject true e p) (s, os, r))
object_left e p Bare os r = objects_left true e p os r
object_left e p (Tagged g) os r = (mode.AfterObject false e p, (tt, os, r), refl, refl)
object_left e p (Typed i) os r = (mode.ObjectTypeDue e p, (i, os, r), refl, refl)

semicolon_left : (e : Ending) (p : Place) (v : Option Part) (r : Rest e p) → Forward (mode.AfterSemicolon e p) (tail_said (mode.AfterSemicolon e p) (v, r))
semicolon_left e p None r = parts_left (mode.AfterSemicolon e p) e p refl refl refl refl r.parts r.sames r.dot r.exit
semicolon_left e p (Some v) r = verb_next (mode.AfterSemicolon e p) e p (verb_at (Leads (mode.AfterSemicolon e p) role.Verb (mode.AfterVerb e p)) (λ n. refl) (λ n. refl) (λ q n. refl) (λ n. refl) refl) v r

block_due : (e : Ending) (p : Place) (b : Option Block) (x : Exit e p) → Forward (mode.BlockDue e p) (optional_block b (exit_said e p x))
block_due e p None x = exits (mode.BlockDue e p) e p refl refl x
block_due e p (Some b) x = starts (mode.BlockDue e p) e p (λ n. refl) (word_at (Leads (mode.BlockDue e p) role.Subject (mode.AfterSubject false e p)) (λ n. refl) (λ n. refl) (λ q n. refl) (λ n. refl) (λ n. refl) (λ k n. refl) refl refl refl) b.first.subject b.first.first (rest_of b x)

after_graph : (e : Ending) (d : Bool) (b : Option Block) (gs : List GraphTree) (x : ToEnd e) → Forward (mode.AfterGraph e) (tail_said (mode.AfterGraph e) (d, b, gs, x))
after_graph e true b gs x = (mode.BlockDue e place.InGroup, (b, (gs, x)), refl, refl)
after_graph e false None gs x = group_ends (mode.AfterGraph e) e refl refl gs x
after_graph e false (Some b) gs x = starts (mode.AfterGraph e) e place.InGroup (λ n. refl) (word_at (Leads (mode.AfterGraph e) role.Subject (mode.AfterSubject false e place.InGroup)) (λ n. refl) (λ n. refl) (λ q n. refl) (λ n. refl) (λ n. refl) (λ k n. refl) refl refl refl) b.first.subject b.first.first (rest_of b (gs, x))

graph_start : (e : Ending) (b : Option Block) (x : Exit e place.InGraph) → Forward (mode.GraphStart e) (tail_said (mode.GraphStart e) (record { inside = b; dot = x.0; after = x.1; graphs = x.2; end = x.3 }))
graph_start e None x = (mode.AfterGraph e, x, refl, refl)
graph_start e (Some b) x = starts (mode.GraphStart e) e place.InGraph (λ n. refl) (word_at (Leads (mode.GraphStart e) role.Subject (mode.AfterSubject false e place.InGraph)) (λ n. refl) (λ n. refl) (λ q n. refl) (λ n. refl) (λ n. refl) (λ k n. refl) refl refl refl) b.first.subject b.first.first (rest_of b x)

head : (ps : List (List ℕ × List ℕ)) (k : Kind) → Forward mode.Head (prefixes ps (kind k))
head (p ∷ ps) k = (mode.NamespaceDue, (p.0, p.1, record { prefixes = ps; kind = k }), refl, refl)
head [] (Select m v w g c) = (mode.SelectDue, (m, v, w, g, c), refl, refl)
head [] (Construct b w g c) = (mode.TemplateDue, inl (b, w, g, c), refl, refl)
head [] (Short b c) = (mode.TemplateDue, inr (b, c), refl, refl)
head [] (Ask w g) = (mode.GroupDue ending.Nothing, (w, g, tt), refl, refl)

cut_due : (c : Cut) → Forward mode.CutDue (cut c)
cut_due (Cuts None None) = refl
cut_due (Cuts None (Some o)) = (mode.OffsetDue, (o, None), refl, refl)
cut_due (Cuts (Some l) o) = (mode.LimitDue, (l, o), refl, refl)
cut_due (Turned o l) = (mode.OffsetDue, (o, Some l), refl, refl)

select_due : (m : Option Modifier) (v : Projection) (w : Bool) (g : Group) (c : Cut) → Forward mode.SelectDue (tail_said mode.SelectDue (m, v, w, g, c))
select_due (Some Distinct) v w g c = (mode.FirstVar, (v, w, g, c), refl, refl)
select_due (Some Reduced) v w g c = (mode.FirstVar, (v, w, g, c), refl, refl)
select_due None All w g c = (mode.GroupDue ending.Cut, (w, g, c), refl, refl)
select_due None (Vars v vs) w g c = (mode.MoreVars, (vs, w, g, c), refl, refl)

first_var : (v : Projection) (w : Bool) (g : Group) (c : Cut) → Forward mode.FirstVar (tail_said mode.FirstVar (v, w, g, c))
first_var All w g c = (mode.GroupDue ending.Cut, (w, g, c), refl, refl)
first_var (Vars v vs) w g c = (mode.MoreVars, (vs, w, g, c), refl, refl)

more_vars : (vs : List (List ℕ)) (w : Bool) (g : Group) (c : Cut) → Forward mode.MoreVars (tail_said mode.MoreVars (vs, w, g, c))
more_vars (v ∷ vs) w g c = (mode.MoreVars, (vs, w, g, c), refl, refl)
more_vars [] true g c = (mode.OpenDue ending.Cut, (g, c), refl, refl)
more_vars [] false g c = (mode.BlockDue ending.Cut place.InGroup, (g.block, (g.graphs, c)), refl, refl)

template_due : (x : (Option Block × Bool × Group × Cut) ⊎ (Option Block × Cut)) → Forward mode.TemplateDue (template_said x)
template_due (inl x) = (mode.BlockDue ending.Cut place.InTemplate, (x.0, (x.1, x.2, x.3)), refl, refl)
template_due (inr x) = (mode.ShortDue, x, refl, refl)

group_due : (e : Ending) (w : Bool) (g : Group) (x : ToEnd e) → Forward (mode.GroupDue e) (tail_said (mode.GroupDue e) (w, g, x))
group_due e true g x = (mode.OpenDue e, (g, x), refl, refl)
group_due e false g x = (mode.BlockDue e place.InGroup, (g.block, (g.graphs, x)), refl, refl)

after_limit : (o : Option (List ℕ)) → Forward mode.AfterLimit (offset o [])
after_limit None = refl
after_limit (Some n) = (mode.LastOffsetDue, n, refl, refl)

after_offset : (l : Option (List ℕ)) → Forward mode.AfterOffset (limit l [])
after_offset None = refl
after_offset (Some n) = (mode.LastLimitDue, n, refl, refl)

pub fore : (m : Mode) (x : Tail m) → Forward m (tail_said m x)
fore mode.Head x = head x.prefixes x.kind
fore mode.NamespaceDue x = (mode.IriDue, (x.1, x.2), refl, refl)
fore mode.IriDue x = (mode.Head, x.1, refl, refl)
fore mode.SelectDue x = select_due x.0 x.1 x.2 x.3 x.4
fore mode.FirstVar x = first_var x.0 x.1 x.2 x.3
fore mode.MoreVars x = more_vars x.0 x.1 x.2 x.3
fore mode.TemplateDue x = template_due x
fore mode.ShortDue x = (mode.BlockDue ending.Cut place.InShort, (x.0, x.1), refl, refl)
fore (mode.GroupDue e) x = group_due e x.0 x.1 x.2
fore (mode.OpenDue e) x = (mode.BlockDue e place.InGroup, (x.0.block, (x.0.graphs, x.1)), refl, refl)
fore (mode.BlockDue e p) x = block_due e p x.0 x.1
fore (mode.GraphDue e) x = (mode.GraphOpenDue e, x.1, name_at (Leads (mode.GraphDue e) role.GraphName (mode.GraphOpenDue e)) (λ n. refl) (λ n. refl) (λ q n. refl) (λ n. refl) x.0.token x.0.fits, refl)
fore (mode.GraphOpenDue e) x = (mode.GraphStart e, x, refl, refl)
fore (mode.GraphStart e) x = graph_start e x.inside (x.dot, x.after, x.graphs, x.end)
fore (mode.AfterGraph e) x = after_graph e x.0 x.1 x.2 x.3
fore (mode.AfterSubject true e p) x = subject_left e p x.0 x.1 x.2
fore (mode.AfterSubject false e p) x = verb_next (mode.AfterSubject false e p) e p (verb_at (Leads (mode.AfterSubject false e p) role.Verb (mode.AfterVerb e p)) (λ n. refl) (λ n. refl) (λ q n. refl) (λ n. refl) refl) x.1 x.2
fore (mode.SubjectTypeDue e p) x = (mode.AfterSubject false e p, (tt, x.1, x.2), iri_at (Leads (mode.SubjectTypeDue e p) role.SubjectType (mode.AfterSubject false e p)) (λ n. refl) (λ n. refl) (λ q n. refl) x.0.token x.0.fits, refl)
fore (mode.AfterVerb e p) x = object_starts (mode.AfterVerb e p) e p (λ n. refl) (word_at (Leads (mode.AfterVerb e p) role.Object (mode.AfterObject false e p)) (λ n. refl) (λ n. refl) (λ q n. refl) (λ n. refl) (λ n. refl) (λ k n. refl) refl refl refl) x.0 x.1 x.2
fore (mode.AfterObject true e p) x = object_left e p x.0 x.1 x.2
fore (mode.AfterObject false e p) x = objects_left false e p x.1 x.2
fore (mode.ObjectTypeDue e p) x = (mode.AfterObject false e p, (tt, x.1, x.2), iri_at (Leads (mode.ObjectTypeDue e p) role.ObjectType (mode.AfterObject false e p)) (λ n. refl) (λ n. refl) (λ q n. refl) x.0.token x.0.fits, refl)
fore (mode.AfterComma e p) x = object_starts (mode.AfterComma e p) e p (λ n. refl) (word_at (Leads (mode.AfterComma e p) role.Object (mode.AfterObject false e p)) (λ n. refl) (λ n. refl) (λ q n. refl) (λ n. refl) (λ n. refl) (λ k n. refl) refl refl refl) x.0 x.1 x.2
fore (mode.AfterSemicolon e p) x = semicolon_left e p x.0 x.1
fore mode.CutDue x = cut_due x
fore mode.LimitDue x = (mode.AfterLimit, x.1, refl, refl)
fore mode.AfterLimit x = after_limit x
fore mode.LastOffsetDue x = (mode.Ended, tt, refl, refl)
fore mode.OffsetDue x = (mode.AfterOffset, x.1, refl, refl)
fore mode.AfterOffset x = after_offset x
fore mode.LastLimitDue x = (mode.Ended, tt, refl, refl)
fore mode.Ended x = refl
