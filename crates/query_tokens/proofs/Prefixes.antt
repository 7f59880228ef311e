-- Where a prefix doesn't come to its colon, none does that goes on within it.
use Rattle.std.proofs.Common.{◌≡◌, ◌<◌, ◌+◌, ◌-◌, refl, ◌∙◌, sym, ap, subst, ℕ, arith, Bool, true, false, ◌==◌, ◌&&◌, if◌then◌else◌, List, [], ◌∷◌, length, drop, get_or, Option, Some, None, ◌⊎◌, inl, inr}
use Rattle.std.proofs.lemmas.List.{at_drop_more, drop-drop}
use Rattle.std.proofs.lemmas.Bool.Decides.{nat_tests}
use Rattle.rdf_term.specs.Classes.{is_digit, is_letter, is_one_of}
use Rattle.query_tokens.specs.declared.token.Number.TheVariants as number
use Rattle.query_tokens.specs.declared.kind.Kind.{Kind}
use Rattle.query_tokens.specs.declared.state.State.{State}
use Rattle.query_tokens.specs.declared.state.State.TheVariants as state
use Rattle.query_model.specs.WellFormed.{is_name_char, is_var_char, is_name_start}
use Rattle.query_tokens.specs.Classes.{is_base}
use Rattle.query_tokens.specs.Scanner.{next, accepts, longest, further, at_least, lookup, marks_begin, in_prefix, or_later, IsSearched, is_named, is_prefix, searched_to}
use Rattle.query_tokens.proofs.Cases.{same_char, left_or, by_case, then_is, else_is, apart, letter_name, base_name}

-- the state of a prefix that has taken these characters
abbrev pub core : State → State
core state.PrefixDot = state.PrefixDot
core _ = state.Prefix

-- whether nothing but the front of a prefix was taken
abbrev pub is_begun : State → Bool
is_begun state.Start = true
is_begun s = is_named s

abbrev Carried : State → ℕ → Option State → Type 0
Carried s c None = Unit {0}
Carried s c (Some after) = is_named after ≡ true → (next state.Prefix c ≡ Some (core after)) × (next (core s) c ≡ Some (core after)) × (accepts (core after) ≡ None)

test : (P : Option State → Type 0) (b : Bool) (x y : Option State) → (b ≡ true → P x) → (b ≡ false → P y) → P (if b then x else y)
test P true x y f g = f refl
test P false x y f g = g refl

name_next : (c : ℕ) → is_name_char c ≡ true → next state.Prefix c ≡ Some state.Prefix
name_next c h = else_is (c == 58) _ _ (apart is_name_char c 58 h refl) ∙ then_is (is_name_char c) _ _ h

name_in : (c : ℕ) → is_name_char c ≡ true → in_prefix c ≡ Some state.Prefix
name_in c h = then_is (is_name_char c) _ _ h

dot_next : (c : ℕ) → (c == 46) ≡ true → next state.Prefix c ≡ Some state.PrefixDot
dot_next c h = (let at : next state.Prefix 46 ≡ Some state.PrefixDot = refl in ap (next state.Prefix) (same_char c 46 h) ∙ at)

dot_in : (c : ℕ) → (c == 46) ≡ true → in_prefix c ≡ Some state.PrefixDot
dot_in c h = (let at : in_prefix 46 ≡ Some state.PrefixDot = refl in ap in_prefix (same_char c 46 h) ∙ at)

base_char : (c : ℕ) → is_base c ≡ true → is_name_char c ≡ true
base_char c h = left_or (is_var_char c) (is_one_of (45 ∷ []) c) (left_or (is_name_start c) _ (base_name c h))

-- no mark begins a prefix
abbrev NoName : Option State → Type 0
NoName None = Unit {0}
NoName (Some s) = is_named s ≡ false

abbrev AllNoName : List (ℕ × State) → Type 0
AllNoName [] = Unit {0}
AllNoName (e ∷ es) = (is_named e.1 ≡ false) × AllNoName es

by_table : (es : List (ℕ × State)) (c : ℕ) → AllNoName es → NoName (lookup es c)
by_table [] c a = tt
by_table (e ∷ es) c a = test NoName (c == e.0) (Some e.1) (lookup es c) (λ h. a.0) (λ h. by_table es c a.1)

marks_no_name : AllNoName marks_begin
marks_no_name = (refl, (refl, (refl, (refl, (refl, (refl, (refl, (refl, (refl, (refl, (refl, (refl, (refl, (refl, (refl, (refl, (refl, (refl, (refl, (refl, (refl, (refl, (refl, (refl, (refl, (refl, (refl, tt)))))))))))))))))))))))))))

no_name : (s : State) (c : ℕ) (o : Option State) → NoName o → Carried s c o
no_name s c None h = tt
no_name s c (Some after) h = λ k. (let f : true ≡ false = sym k ∙ h in cc)

within : (s : State) (c : ℕ) → (next (core s) c ≡ in_prefix c) ⊎ (next (core s) c ≡ next state.Prefix c) → Carried s c (in_prefix c)
within s c w =
    test (Carried s c) (is_name_char c) (Some state.Prefix) _ (λ h k. (name_next c h, by_way w (name_in c h) (name_next c h), refl))
    (λ n. test (Carried s c) (c == 46) (Some state.PrefixDot) None (λ h k. (dot_next c h, by_way w (dot_in c h) (dot_next c h), refl)) (λ n2. tt)) where
      by_way : {o : Option State} → (next (core s) c ≡ in_prefix c) ⊎ (next (core s) c ≡ next state.Prefix c) → in_prefix c ≡ o → next state.Prefix c ≡ o → next (core s) c ≡ o
      by_way (inl e) f g = e ∙ f
      by_way (inr e) f g = e ∙ g

carried : (s : State) (c : ℕ) → is_begun s ≡ true → Carried s c (next s c)
carried state.Start c b =
    test (Carried state.Start c) (is_letter c) (Some state.Letters) _ (λ h k. (name_next c (letter_name c h), name_next c (letter_name c h), refl))
    (λ n1. test (Carried state.Start c) (is_base c) (Some state.Prefix) _ (λ h k. (name_next c (base_char c h), name_next c (base_char c h), refl))
    (λ n2. test (Carried state.Start c) (is_digit c) (Some (state.Digits number.Digits)) _ (λ h k. cc)
    (λ n3. no_name state.Start c (lookup marks_begin c) (by_table marks_begin c marks_no_name))))
carried state.Letters c b =
    test (Carried state.Letters c) (is_letter c) (Some state.Letters) _ (λ h k. (name_next c (letter_name c h), name_next c (letter_name c h), refl))
    (λ n1. test (Carried state.Letters c) (c == 58) (Some state.Colon) _ (λ h k. cc) (λ n2. within state.Letters c (inr refl)))
carried state.Prefix c b =
    test (Carried state.Prefix c) (c == 58) (Some state.Colon) _ (λ h k. cc) (λ n2. within state.Prefix c (inr refl))
carried state.PrefixDot c b = within state.PrefixDot c (inl refl)
carried s c b = cc

-- what is known of the characters before a place, where they are the front of a prefix
pub record Going (text : List ℕ) (i : ℕ) (named : Bool) (s : State) : Type 0 where
  pub begun : named ≡ true → is_begun s ≡ true
  pub searched : named ≡ true → (j : ℕ) → j < i → longest (core s) (drop i text) ≡ None → longest state.Prefix (drop j text) ≡ None

split : (a b : Bool) → (a && b) ≡ true → (a ≡ true) × (b ≡ true)
split true b e = (refl, e)
split false b e = cc

named_begun : (s : State) → is_named s ≡ true → is_begun s ≡ true
named_begun state.Letters h = refl
named_begun state.Prefix h = refl
named_begun state.PrefixDot h = refl
named_begun s h = cc

-- a step that finds nothing later finds nothing here
nothing_here : (s to : State) (text : List ℕ) (i d : ℕ) → i < length text → d ≡ get_or text i d → next s d ≡ Some to → accepts to ≡ None
    → longest to (drop (i + 1) text) ≡ None → longest s (drop i text) ≡ None
nothing_here s to text i d lt is step open' none =
    at_drop_more (longest s) text i d lt
    ∙ ap (further (λ t. longest t (drop (i + 1) text))) (ap (next s) (sym is) ∙ step)
    ∙ ap (λ a. at_least a (longest to (drop (i + 1) text))) open' ∙ ap (at_least None) none

less_when : (j i : ℕ) → j < i + 1 → (j == i) ≡ false → j < i
less_when j i h e = grind (arith, nat_tests)

less_or_same : (j i : ℕ) → j < i + 1 → (j < i) ⊎ (j ≡ i)
less_or_same j i h = by_case ((j < i) ⊎ (j ≡ i)) (j == i) (λ e. inr (same_char j i e)) (λ e. inl (less_when j i h e))

-- a character that leads nowhere ends the search
pub stops : (s : State) (text : List ℕ) (i d : ℕ) → i < length text → d ≡ get_or text i d → next s d ≡ None → longest s (drop i text) ≡ None
stops s text i d lt is step =
    at_drop_more (longest s) text i d lt ∙ ap (further (λ t. longest t (drop (i + 1) text))) (ap (next s) (sym is) ∙ step)

pub go_on : (text : List ℕ) (i d : ℕ) (named : Bool) (s after : State) → i < length text → d ≡ get_or text i d → next s d ≡ Some after
    → Going text i named s → Going text (i + 1) (named && is_named after) after
go_on text i d named s after lt is step g = record {
  begun = λ h. named_begun after (split named (is_named after) h).1;
  searched = λ h j le none. (let p = split named (is_named after) h in
      let w : Carried s d (Some after) = subst (Carried s d) step (carried s d (g.begun p.0)) in
      let v = w p.1 in
      by_place j (less_or_same j i le) none v p.0);
} where
  by_place : (j : ℕ) → (j < i) ⊎ (j ≡ i) → longest (core after) (drop (i + 1) text) ≡ None
      → (next state.Prefix d ≡ Some (core after)) × (next (core s) d ≡ Some (core after)) × (accepts (core after) ≡ None) → named ≡ true → longest state.Prefix (drop j text) ≡ None
  by_place j (inl less) none v n = g.searched n j less (nothing_here (core s) (core after) text i d lt is v.1 v.2 none)
  by_place j (inr same) none v n = subst (λ k. longest state.Prefix (drop k text) ≡ None) (sym same) (nothing_here state.Prefix (core after) text i d lt is v.0 v.2 none)

core_same : (s : State) → is_prefix s ≡ true → core s ≡ s
core_same state.Prefix h = refl
core_same state.PrefixDot h = refl
core_same s h = cc

pub at_end : (text : List ℕ) (i searched : ℕ) (named : Bool) (s : State) → Going text i named s → longest s (drop i text) ≡ None
    → IsSearched searched text → IsSearched (searched_to named s i searched) text
at_end text i searched named s g none old = by_case (IsSearched (searched_to named s i searched) text) (named && is_prefix s)
    (λ h. (let p = split named (is_prefix s) h in
    subst (λ n. IsSearched n text) (sym (then_is (named && is_prefix s) i searched h))
    (record { none = λ j less. g.searched p.0 j less (subst (λ t. longest t (drop i text) ≡ None) (sym (core_same s p.1)) none) })))
    (λ h. subst (λ n. IsSearched n text) (sym (else_is (named && is_prefix s) i searched h)) old)

pub at_start : (text : List ℕ) → Going text 0 true state.Start
at_start text = record { begun = λ h. refl; searched = λ h j less none. absurd (no_less j less) } where
  no_less : (j : ℕ) → j < 0 → ⊥
  no_less j h = omega arith

-- a prefix that doesn't come to its colon doesn't behind a dot
dot_none : (text : List ℕ) → longest state.Prefix text ≡ None → longest state.PrefixDot text ≡ None
dot_none [] h = refl
dot_none (c ∷ cs) h = by_case (longest state.PrefixDot (c ∷ cs) ≡ None) (c == 58)
    (λ e. ap (further (λ t. longest t cs)) (colon c e))
    (λ e. ap (further (λ t. longest t cs)) (sym (else_is (c == 58) (Some state.Colon) (in_prefix c) e)) ∙ h) where
      colon : (c : ℕ) → (c == 58) ≡ true → in_prefix c ≡ None
      colon c e = (let at : in_prefix 58 ≡ None = refl in ap in_prefix (same_char c 58 e) ∙ at)

-- what was searched needs no search
pub known : (text : List ℕ) (i d searched : ℕ) (s after : State) (best : Option (ℕ × Kind)) → i < length text → d ≡ get_or text i d → next s d ≡ Some after
    → is_prefix after ≡ true → i + 1 < searched → IsSearched searched text → or_later best i (longest s (drop i text)) ≡ best
known text i d searched s after best lt is step p less old =
    ap (or_later best i) (nothing_here s after text i d lt is step (no_end after p) (by_state after p)) where
      no_end : (t : State) → is_prefix t ≡ true → accepts t ≡ None
      no_end state.Prefix h = refl
      no_end state.PrefixDot h = refl
      no_end t h = cc

      by_state : (t : State) → is_prefix t ≡ true → longest t (drop (i + 1) text) ≡ None
      by_state state.Prefix h = old.none (i + 1) less
      by_state state.PrefixDot h = dot_none (drop (i + 1) text) (old.none (i + 1) less)
      by_state t h = cc

-- what stands behind a place
pub searched_behind : (n k : ℕ) (text : List ℕ) → IsSearched n text → IsSearched (n - k) (drop k text)
searched_behind n k text s = record { none = λ j less. subst (λ l. longest state.Prefix l ≡ None) (drops j k text) (s.none (k + j) (omega arith)) } where
  drops : (j k : ℕ) (text : List ℕ) → drop (k + j) text ≡ drop j (drop k text)
  drops j k text = sym (drop-drop j k text)

pub searched_left : (n k m : ℕ) (rest here : List ℕ) → IsSearched n rest → here ≡ drop k rest → m ≡ n - k → IsSearched m here
searched_left n k m rest here s h e =
    subst (λ l. IsSearched m l) (sym h) (subst (λ i. IsSearched i (drop k rest)) (sym e) (searched_behind n k rest s))

pub nothing_searched : (text : List ℕ) → IsSearched 0 text
nothing_searched text = record { none = λ j less. absurd (no_less j less) } where
  no_less : (j : ℕ) → j < 0 → ⊥
  no_less j h = omega arith
