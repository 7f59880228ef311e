-- What the code does as a function on lists of tokens gives the query that they are, or their first refused token.
use Rattle.std.proofs.Common.{◌≡◌, refl, ◌∙◌, sym, ap, subst, ℕ, suc, Bool, true, false, ◌&&◌, List, [], ◌∷◌, ◌++◌, Option, Some, None, ◌⊎◌, inl, inr, length}
use Rattle.std.specs.Option.{is_none}
use Rattle.std.specs.declared.result.Result.{Result}
use Rattle.std.specs.declared.result.Result.TheVariants.{Ok, Err}
use Rattle.query_tokens.specs.declared.token.Token.{Token}
use Rattle.query_grammar.specs.declared.mode.Role.{Role}
use Rattle.query_grammar.specs.declared.mode.Mode.{Mode}
use Rattle.query_grammar.specs.declared.mode.Mode.TheVariants as mode
use Rattle.query_grammar.specs.declared.mode.Ending.{Ending}
use Rattle.query_grammar.specs.declared.mode.Ending.TheVariants as ending
use Rattle.query_grammar.specs.declared.mode.Place.{Place}
use Rattle.query_grammar.specs.declared.mode.Place.TheVariants as place
use Rattle.query_tokens.specs.declared.token.Token.TheVariants as token
use Rattle.query_model.specs.declared.query.Query.{Query}
use Rattle.query_grammar.specs.declared.fault.Kind.{Kind}
use Rattle.query_grammar.specs.declared.fault.Kind.TheVariants as fault
use Rattle.query_grammar.specs.declared.built.Built.{Built}
use Rattle.query_grammar.specs.Said.{Said}
use Rattle.query_grammar.specs.Grammar.{Literal, Part, Bare, Group, Cuts, Tree, Ask, All, say, said}
use Rattle.query_grammar.specs.Machine.{next, can_end}
use Rattle.query_grammar.specs.Built.{refusal, add, query_of, empty}
use Rattle.query_grammar.specs.Queries.{tokens, built, is_fine, by_itself, IsQuery, IsRefused, FirstRefused}
use Rattle.query_grammar.specs.Runs.{run, taken, checked, later, at_end}
use Rattle.query_grammar.proofs.Tails.{Tail, tail_said, ToEnd, Exit, Rest, InGraph, SuffixIf}
use Rattle.query_grammar.proofs.Steps.{Backward, back}
use Rattle.query_grammar.proofs.Forth.{Forward, fore}
use Rattle.query_grammar.proofs.MeaningLaws.{tree_reads}

-- Each mode can be completed.
end_tail : (e : Ending) → ToEnd e
end_tail ending.Cut = Cuts None None
end_tail ending.Nothing = tt

a_group : Group
a_group = record { block = None; graphs = [] }

exit_tail : (e : Ending) (p : Place) → Exit e p
exit_tail e place.InGroup = ([], end_tail e)
exit_tail e place.InGraph = (false, None, [], end_tail e)
exit_tail e place.InTemplate = (false, a_group, end_tail e)
exit_tail e place.InShort = end_tail e

rest_tail : (e : Ending) (p : Place) → Rest e p
rest_tail e p = record { parts = []; sames = []; dot = false; exit = exit_tail e p }

suffix_tail : (b : Bool) → SuffixIf b
suffix_tail true = Bare
suffix_tail false = tt

a_part : Part
a_part = record { verb = record { token = token.A; fits = refl }; first = Literal [] Bare; more = [] }

in_graph_tail : (e : Ending) → InGraph e
in_graph_tail e = record { inside = None; dot = false; after = None; graphs = []; end = end_tail e }

a_tree : Tree
a_tree = record { prefixes = []; kind = Ask false a_group }

pub some_tail : (m : Mode) → Tail m
some_tail mode.Head = a_tree
some_tail mode.NamespaceDue = ([], [], a_tree)
some_tail mode.IriDue = ([], a_tree)
some_tail mode.SelectDue = (None, All, false, a_group, Cuts None None)
some_tail mode.FirstVar = (All, false, a_group, Cuts None None)
some_tail mode.MoreVars = ([], false, a_group, Cuts None None)
some_tail mode.TemplateDue = inr (None, Cuts None None)
some_tail mode.ShortDue = (None, Cuts None None)
some_tail (mode.GroupDue e) = (false, a_group, end_tail e)
some_tail (mode.OpenDue e) = (a_group, end_tail e)
some_tail (mode.BlockDue e p) = (None, exit_tail e p)
some_tail (mode.GraphDue e) = (record { token = token.Var []; fits = refl }, in_graph_tail e)
some_tail (mode.GraphOpenDue e) = in_graph_tail e
some_tail (mode.GraphStart e) = in_graph_tail e
some_tail (mode.AfterGraph e) = exit_tail e place.InGraph
some_tail (mode.AfterSubject b e p) = (suffix_tail b, a_part, rest_tail e p)
some_tail (mode.SubjectTypeDue e p) = (record { token = token.Iri []; fits = refl }, a_part, rest_tail e p)
some_tail (mode.AfterVerb e p) = (Literal [] Bare, [], rest_tail e p)
some_tail (mode.AfterObject b e p) = (suffix_tail b, [], rest_tail e p)
some_tail (mode.ObjectTypeDue e p) = (record { token = token.Iri []; fits = refl }, [], rest_tail e p)
some_tail (mode.AfterComma e p) = (Literal [] Bare, [], rest_tail e p)
some_tail (mode.AfterSemicolon e p) = (None, rest_tail e p)
some_tail mode.CutDue = Cuts None None
some_tail mode.LimitDue = ([], None)
some_tail mode.AfterLimit = None
some_tail mode.LastOffsetDue = []
some_tail mode.OffsetDue = ([], None)
some_tail mode.AfterOffset = None
some_tail mode.LastLimitDue = []
some_tail mode.Ended = tt

-- where a mode can end, nothing may be left
pub ended : (m : Mode) → can_end m ≡ true → (x : Tail m) × (tail_said m x ≡ [])
ended mode.CutDue h = (Cuts None None, refl)
ended mode.AfterLimit h = (None, refl)
ended mode.AfterOffset h = (None, refl)
ended mode.Ended h = (tt, refl)
ended m h = cc

pub raise : (m : Mode) (t : Token) (x : Role × Mode) → next m t ≡ Some x → (tail : Tail x.1)
    → (front : Tail m) × (tail_said m front ≡ say x.0 t (tail_said x.1 tail))
raise m t x e tail = subst (Backward m t) e (back m t) tail

same_some : {A : Type 0} (x y : A) → Some x ≡ Some y → x ≡ y
same_some x y e = cc

-- what is left behind the first token
pub lower : (m : Mode) (x : Role × Mode) (s : Said) (ss : List Said) (tail : Tail m) → next m s.token ≡ Some x → tail_said m tail ≡ s ∷ ss
    → (left : Tail x.1) × (tail_said x.1 left ≡ ss) × (s.role ≡ x.0)
lower m x s ss tail n e =
    let w = subst (Forward m) e (fore m tail) in
    subst (λ (y : Role × Mode). (left : Tail y.1) × (tail_said y.1 left ≡ ss) × (s.role ≡ y.0)) (same_some (s.role, w.0) x (sym w.2 ∙ n)) (w.1, w.3, refl)

differ : (o : Option (Role × Mode)) (y : Role × Mode) → o ≡ None → o ≡ Some y → ⊥
differ o y n e = cc

pub never : (m : Mode) (s : Said) (ss : List Said) (tail : Tail m) → next m s.token ≡ None → tail_said m tail ≡ s ∷ ss → ⊥
never m s ss tail n e =
    let w = subst (Forward m) e (fore m tail) in
    differ (next m s.token) (s.role, w.0) n w.2

both : (a b : Bool) → a ≡ true → b ≡ true → (a && b) ≡ true
both true b e h = h
both false b e h = cc

pub split : (a b : Bool) → (a && b) ≡ true → (a ≡ true) × (b ≡ true)
split true b e = (refl, e)
split false b e = cc

pub none_of : (o : Option Kind) → is_none o ≡ true → o ≡ None
none_of None h = refl
none_of (Some k) h = cc

-- What the tokens of a tree's rest give.
pub found_ok : (ss : List Said) (m : Mode) (b : Built) (tail : Tail m) → tail_said m tail ≡ ss → is_fine b ss ≡ true
    → run m b (tokens ss) ≡ Ok (query_of (built b ss))
found_ok [] m b tail e f = let h : can_end m ≡ true = subst (Forward m) e (fore m tail) in ap (at_end b) h
found_ok (s ∷ ss) m b tail e f =
    let w = subst (Forward m) e (fore m tail) in
    let fine = split (is_none (refusal b s.role s.token)) (is_fine (add b s.role s.token) ss) f in
    ap (taken b s.token (λ m' b'. run m' b' (tokens ss))) w.2
    ∙ ap (λ (o : Option Kind). checked o (run w.0 (add b s.role s.token) (tokens ss))) (none_of (refusal b s.role s.token) fine.0)
    ∙ ap later (found_ok ss w.0 (add b s.role s.token) w.1 w.3 fine.1)

-- What was read is a tree's rest.
abbrev FoundAt : Mode → Built → List Token → Query → Type 0
FoundAt m b ts q = (tail : Tail m) × (tokens (tail_said m tail) ≡ ts) × (is_fine b (tail_said m tail) ≡ true) × (q ≡ query_of (built b (tail_said m tail)))

later_ok : (r : Result Query (ℕ × Kind)) (q : Query) → later r ≡ Ok q → r ≡ Ok q
later_ok (Ok x) q e = e
later_ok (Err x) q e = cc

found_next : (m : Mode) (b : Built) (t : Token) (ts : List Token) (q : Query) (x : Role × Mode) → next m t ≡ Some x → (o : Option Kind) → refusal b x.0 t ≡ o
    → checked o (run x.1 (add b x.0 t) ts) ≡ Ok q → (run x.1 (add b x.0 t) ts ≡ Ok q → FoundAt x.1 (add b x.0 t) ts q) → FoundAt m b (t ∷ ts) q
found_next m b t ts q x n (Some k) r e ih = cc
found_next m b t ts q x n None r e ih =
    let w = ih (later_ok _ q e) in
    let up = raise m t x n w.0 in
    let ss = tail_said x.1 w.0 in (
      up.0,
      ap tokens up.1 ∙ ap (λ l. t ∷ l) w.1,
      ap (is_fine b) up.1 ∙ both (is_none (refusal b x.0 t)) (is_fine (add b x.0 t) ss) (ap is_none r) w.2,
      w.3 ∙ sym (ap (λ (l : List Said). query_of (built b l)) up.1),
    )

found_step : (m : Mode) (b : Built) (t : Token) (ts : List Token) (q : Query) (o : Option (Role × Mode)) → next m t ≡ o
    → taken b t (λ m' b'. run m' b' ts) o ≡ Ok q → ((m' : Mode) (b' : Built) → run m' b' ts ≡ Ok q → FoundAt m' b' ts q) → FoundAt m b (t ∷ ts) q
found_step m b t ts q None n e ih = cc
found_step m b t ts q (Some x) n e ih = found_next m b t ts q x n (refusal b x.0 t) refl e (ih x.1 (add b x.0 t))

found_end : (m : Mode) (b : Built) (q : Query) (c : Bool) → can_end m ≡ c → at_end b c ≡ Ok q → FoundAt m b [] q
found_end m b q true h e =
    let w = ended m h in
    let same : query_of b ≡ q = cc in
    (w.0, ap tokens w.1, ap (is_fine b) w.1, sym (ap (λ (l : List Said). query_of (built b l)) w.1 ∙ same))
found_end m b q false h e = cc

pub ok_found : (ts : List Token) (m : Mode) (b : Built) (q : Query) → run m b ts ≡ Ok q → FoundAt m b ts q
ok_found [] m b q e = found_end m b q (can_end m) refl e
ok_found (t ∷ ts) m b q e = found_step m b t ts q (next m t) refl e (λ m' b' h. ok_found ts m' b' q h)

-- Where it stops, at each mode.
abbrev pub BeginsAt : (m : Mode) → Built → List Token → Type 0
BeginsAt m b ts = (tail : Tail m) × (front : List Said) × (rest : List Said) × (tail_said m tail ≡ front ++ rest) × (tokens front ≡ ts) × (is_fine b front ≡ true)

abbrev pub RefusedAt : (m : Mode) → Built → List Token → Token → Kind → Type 0
RefusedAt m b ts t k = (tail : Tail m) × (front : List Said) × (here : Said) × (rest : List Said) × (tail_said m tail ≡ front ++ here ∷ rest)
    × (tokens front ≡ ts) × (is_fine b front ≡ true) × (here.token ≡ t) × (refusal (built b front) here.role here.token ≡ Some k)

abbrev pub NoneAt : (m : Mode) → List Token → Type 0
NoneAt m ts = (tail : Tail m) (front rest : List Said) → tail_said m tail ≡ front ++ rest → tokens front ≡ ts → ⊥

abbrev pub WhyAt : (m : Mode) → Built → List Token → List Token → Kind → Type 0
WhyAt m b before [] k = (k ≡ fault.BadAt) × ((tail : Tail m) → tokens (tail_said m tail) ≡ before → ⊥)
WhyAt m b before (t ∷ after) k = (RefusedAt m b before t k ⊎ (NoneAt m (before ++ t ∷ []) × (k ≡ by_itself t))) × (BeginsAt m b (before ++ t ∷ []) → ⊥)

pub record FaultAt (m : Mode) (b : Built) (ts : List Token) (n : ℕ) (k : Kind) : Type 0 where
  pub before : List Token
  pub after : List Token
  pub split : ts ≡ before ++ after
  pub place : n ≡ length before
  pub begins : BeginsAt m b before
  pub refused : WhyAt m b before after k

pub up_begins : (m : Mode) (b : Built) (t : Token) (x : Role × Mode) (ts : List Token) → next m t ≡ Some x → refusal b x.0 t ≡ None
    → BeginsAt x.1 (add b x.0 t) ts → BeginsAt m b (t ∷ ts)
up_begins m b t x ts n r w =
    let up = raise m t x n w.0 in
    (up.0, record { role = x.0; token = t } ∷ w.1, w.2, up.1 ∙ ap (say x.0 t) w.3, ap (λ l. t ∷ l) w.4, both (is_none (refusal b x.0 t)) (is_fine (add b x.0 t) w.1) (ap is_none r) w.5)

up_refused : (m : Mode) (b : Built) (t : Token) (x : Role × Mode) (ts : List Token) (u : Token) (k : Kind) → next m t ≡ Some x → refusal b x.0 t ≡ None
    → RefusedAt x.1 (add b x.0 t) ts u k → RefusedAt m b (t ∷ ts) u k
up_refused m b t x ts u k n r w =
    let up = raise m t x n w.0 in
    (up.0, record { role = x.0; token = t } ∷ w.1, w.2, w.3, up.1 ∙ ap (say x.0 t) w.4, ap (λ l. t ∷ l) w.5, both (is_none (refusal b x.0 t)) (is_fine (add b x.0 t) w.1) (ap is_none r) w.6, w.7, w.8)

-- the tokens of a tree's rest that begins with t
pub cons_tokens : (front : List Said) (t : Token) (ts : List Token) → tokens front ≡ t ∷ ts → (s : Said) × (ss : List Said) × (front ≡ s ∷ ss) × (s.token ≡ t) × (tokens ss ≡ ts)
cons_tokens [] t ts e = cc
cons_tokens (s ∷ ss) t ts e = (s, ss, refl, cc, cc)

up_none : (m : Mode) (t : Token) (x : Role × Mode) (ts : List Token) → next m t ≡ Some x → NoneAt x.1 ts → NoneAt m (t ∷ ts)
up_none m t x ts n none tail front rest e h =
    let c = cons_tokens front t ts h in
    let w = lower m x c.0 (c.1 ++ rest) tail (ap (next m) c.3 ∙ n) (e ∙ ap (λ (l : List Said). l ++ rest) c.2) in
    none w.0 c.1 rest w.1 c.4

pub same_said : (s : Said) (r : Role) (t : Token) → s.role ≡ r → s.token ≡ t → s ≡ record { role = r; token = t }
same_said s r t e h = ap (λ (q : Role). record { role = q; token = s.token }) e ∙ ap (λ (u : Token). record { role = r; token = u }) h

up_not_begins : (m : Mode) (b : Built) (t : Token) (x : Role × Mode) (ts : List Token) → next m t ≡ Some x
    → (BeginsAt x.1 (add b x.0 t) ts → ⊥) → BeginsAt m b (t ∷ ts) → ⊥
up_not_begins m b t x ts n none w =
    let c = cons_tokens w.1 t ts w.4 in
    let v = lower m x c.0 (c.1 ++ w.2) w.0 (ap (next m) c.3 ∙ n) (w.3 ∙ ap (λ (l : List Said). l ++ w.2) c.2) in
    let e : w.1 ≡ record { role = x.0; token = t } ∷ c.1 = c.2 ∙ ap (λ (s : Said). s ∷ c.1) (same_said c.0 x.0 t v.2 c.3) in
    let f : is_fine b (record { role = x.0; token = t } ∷ c.1) ≡ true = sym (ap (is_fine b) e) ∙ w.5 in
    none (v.0, c.1, w.2, v.1, c.4, (split (is_none (refusal b x.0 t)) (is_fine (add b x.0 t) c.1) f).1)

up_whole : (m : Mode) (t : Token) (x : Role × Mode) (ts : List Token) → next m t ≡ Some x
    → ((tail : Tail x.1) → tokens (tail_said x.1 tail) ≡ ts → ⊥) → (tail : Tail m) → tokens (tail_said m tail) ≡ t ∷ ts → ⊥
up_whole m t x ts n none tail h =
    let c = cons_tokens (tail_said m tail) t ts h in
    let w = lower m x c.0 c.1 tail (ap (next m) c.3 ∙ n) c.2 in
    none w.0 (ap tokens w.1 ∙ c.4)

up_why : (m : Mode) (b : Built) (t : Token) (x : Role × Mode) (before after : List Token) (k : Kind) → next m t ≡ Some x → refusal b x.0 t ≡ None
    → WhyAt x.1 (add b x.0 t) before after k → WhyAt m b (t ∷ before) after k
up_why m b t x before [] k n r w = (w.0, up_whole m t x before n w.1)
up_why m b t x before (u ∷ after) k n r w = (
  elim w.0 [
    | inl h ↦ inl (up_refused m b t x before u k n r h)
    | inr h ↦ inr (up_none m t x (before ++ u ∷ []) n h.0, h.1)
  ],
  up_not_begins m b t x (before ++ u ∷ []) n w.1,
)

-- nothing is read, and t is refused
pub at_once : (m : Mode) (b : Built) → BeginsAt m b []
at_once m b = (some_tail m, [], tail_said m (some_tail m), refl, refl, refl)

fault_none : (m : Mode) (b : Built) (t : Token) (ts : List Token) → next m t ≡ None → FaultAt m b (t ∷ ts) 0 (by_itself t)
fault_none m b t ts n = record {
  before = [];
  after = t ∷ ts;
  split = refl;
  place = refl;
  begins = at_once m b;
  refused = (inr (no, refl), λ w. no w.0 w.1 w.2 w.3 w.4);
} where
  no : NoneAt m (t ∷ [])
  no tail front rest e h = let c = cons_tokens front t [] h in never m c.0 (c.1 ++ rest) tail (ap (next m) c.3 ∙ n) (e ∙ ap (λ (l : List Said). l ++ rest) c.2)

refused_here : (m : Mode) (b : Built) (t : Token) (x : Role × Mode) (k : Kind) → next m t ≡ Some x → refusal b x.0 t ≡ Some k → BeginsAt m b (t ∷ []) → ⊥
refused_here m b t x k n r w =
    let c = cons_tokens w.1 t [] w.4 in
    let v = lower m x c.0 (c.1 ++ w.2) w.0 (ap (next m) c.3 ∙ n) (w.3 ∙ ap (λ (l : List Said). l ++ w.2) c.2) in
    let e : w.1 ≡ record { role = x.0; token = t } ∷ c.1 = c.2 ∙ ap (λ (s : Said). s ∷ c.1) (same_said c.0 x.0 t v.2 c.3) in
    let f : is_fine b (record { role = x.0; token = t } ∷ c.1) ≡ true = sym (ap (is_fine b) e) ∙ w.5 in
    let g : is_none (Some k) ≡ true = sym (ap is_none r) ∙ (split (is_none (refusal b x.0 t)) (is_fine (add b x.0 t) c.1) f).0 in cc

fault_refused : (m : Mode) (b : Built) (t : Token) (ts : List Token) (x : Role × Mode) (k : Kind) → next m t ≡ Some x → refusal b x.0 t ≡ Some k → FaultAt m b (t ∷ ts) 0 k
fault_refused m b t ts x k n r =
    let up = raise m t x n (some_tail x.1) in
    record {
      before = [];
      after = t ∷ ts;
      split = refl;
      place = refl;
      begins = at_once m b;
      refused = (inl (up.0, [], record { role = x.0; token = t }, tail_said x.1 (some_tail x.1), up.1, refl, refl, refl, r), refused_here m b t x k n r);
    }

later_err : (r : Result Query (ℕ × Kind)) (e : ℕ × Kind) → later r ≡ Err e → (d : ℕ × Kind) × (r ≡ Err d) × (e ≡ (suc d.0, d.1))
later_err (Ok q) e h = cc
later_err (Err d) e h = (d, refl, cc)

up_fault : (m : Mode) (b : Built) (t : Token) (ts : List Token) (x : Role × Mode) (n : ℕ) (k : Kind) → next m t ≡ Some x → refusal b x.0 t ≡ None
    → FaultAt x.1 (add b x.0 t) ts n k → FaultAt m b (t ∷ ts) (suc n) k
up_fault m b t ts x n k h r w = record {
  before = t ∷ w.before;
  after = w.after;
  split = ap (λ l. t ∷ l) w.split;
  place = ap suc w.place;
  begins = up_begins m b t x w.before h r w.begins;
  refused = up_why m b t x w.before w.after k h r w.refused;
}

fault_next : (m : Mode) (b : Built) (t : Token) (ts : List Token) (e : ℕ × Kind) (x : Role × Mode) → next m t ≡ Some x → (o : Option Kind) → refusal b x.0 t ≡ o
    → checked o (run x.1 (add b x.0 t) ts) ≡ Err e → ((d : ℕ × Kind) → run x.1 (add b x.0 t) ts ≡ Err d → FaultAt x.1 (add b x.0 t) ts d.0 d.1) → FaultAt m b (t ∷ ts) e.0 e.1
fault_next m b t ts e x n (Some k) r h ih = let same : (0, k) ≡ e = cc in subst (λ (e : ℕ × Kind). FaultAt m b (t ∷ ts) e.0 e.1) same (fault_refused m b t ts x k n r)
fault_next m b t ts e x n None r h ih =
    let w = later_err _ e h in
    subst (λ (e : ℕ × Kind). FaultAt m b (t ∷ ts) e.0 e.1) (sym w.2) (up_fault m b t ts x w.0.0 w.0.1 n r (ih w.0 w.1))

fault_step : (m : Mode) (b : Built) (t : Token) (ts : List Token) (e : ℕ × Kind) (o : Option (Role × Mode)) → next m t ≡ o
    → taken b t (λ m' b'. run m' b' ts) o ≡ Err e → ((m' : Mode) (b' : Built) (d : ℕ × Kind) → run m' b' ts ≡ Err d → FaultAt m' b' ts d.0 d.1) → FaultAt m b (t ∷ ts) e.0 e.1
fault_step m b t ts e None n h ih = let same : (0, by_itself t) ≡ e = cc in subst (λ (e : ℕ × Kind). FaultAt m b (t ∷ ts) e.0 e.1) same (fault_none m b t ts n)
fault_step m b t ts e (Some x) n h ih = fault_next m b t ts e x n (refusal b x.0 t) refl h (ih x.1 (add b x.0 t))

fault_end : (m : Mode) (b : Built) (e : ℕ × Kind) (c : Bool) → can_end m ≡ c → at_end b c ≡ Err e → FaultAt m b [] e.0 e.1
fault_end m b e true h r = cc
fault_end m b e false h r =
    let same : (0, fault.BadAt) ≡ e = cc in
    subst (λ (e : ℕ × Kind). FaultAt m b [] e.0 e.1) same (record {
      before = [];
      after = [];
      split = refl;
      place = refl;
      begins = at_once m b;
      refused = (refl, λ tail k. no tail (nil_tokens (tail_said m tail) k));
    }) where
      nil_tokens : (ss : List Said) → tokens ss ≡ [] → ss ≡ []
      nil_tokens [] k = refl
      nil_tokens (s ∷ ss) k = cc

      no : (tail : Tail m) → tail_said m tail ≡ [] → ⊥
      no tail k = let g : can_end m ≡ true = subst (Forward m) k (fore m tail) in cc

pub err_fault : (ts : List Token) (m : Mode) (b : Built) (e : ℕ × Kind) → run m b ts ≡ Err e → FaultAt m b ts e.0 e.1
err_fault [] m b e h = fault_end m b e (can_end m) refl h
err_fault (t ∷ ts) m b e h = fault_step m b t ts e (next m t) refl h (λ m' b' d k. err_fault ts m' b' d k)

-- The three laws of the whole.
pub is_query : (ts : List Token) (q : Query) → run mode.Head empty ts ≡ Ok q → IsQuery ts q
is_query ts q e = let w = ok_found ts mode.Head empty q e in record { tree = w.0; is = w.1; fine = w.2; query = w.3 ∙ tree_reads w.0 }

pub query_is : (ts : List Token) (q : Query) → IsQuery ts q → run mode.Head empty ts ≡ Ok q
query_is ts q w = sym (ap (run mode.Head empty) w.is) ∙ found_ok (said w.tree) mode.Head empty w.tree refl w.fine ∙ ap Ok (tree_reads w.tree ∙ sym w.query)

why : (before after : List Token) (k : Kind) → WhyAt mode.Head empty before after k → IsRefused before after k
why before [] k w = w
why before (t ∷ after) k w = (
  elim w.0 [
    | inl h ↦ inl (record { tree = h.0; front = h.1; here = h.2; rest = h.3; split = h.4; is = h.5; fine = h.6; token = h.7; refused = h.8 })
    | inr h ↦ inr h
  ],
  λ g. w.1 (g.tree, g.front, g.rest, g.split, g.is, g.fine),
)

pub first_refused : (ts : List Token) (n : ℕ) (k : Kind) → run mode.Head empty ts ≡ Err (n, k) → FirstRefused ts n k
first_refused ts n k e =
    let w = err_fault ts mode.Head empty (n, k) e in
    record {
      before = w.before;
      after = w.after;
      split = w.split;
      place = w.place;
      begins = record { tree = w.begins.0; front = w.begins.1; rest = w.begins.2; split = w.begins.3; is = w.begins.4; fine = w.begins.5 };
      refused = why w.before w.after k w.refused;
    }
