-- The tests pass exactly where a query is well formed.
use Rattle.std.proofs.Common.{◌≡◌, ◌↔◌, ◌==◌, ◌≤◌, ◌<◌, ◌^◌, ℕ, Bool, true, false, ◌&&◌, ◌||◌, not, nat_le, nat_lt, IsTrue, List, [], ◌∷◌, Option, Some, None, length, refl, sym, ap, subst, ◌∙◌, arith, codes, eqb-true}
use Rattle.std.specs.Prelude.{slice_get}
use Rattle.std.specs.Bool.{Decides}
use Rattle.std.specs.List.{AllByRecursion, list_all, list_any}
use Rattle.std.specs.Str.{all_scalars}
use Rattle.std.proofs.lemmas.Bool.Decides.{nat_tests}
use Rattle.rdf_term.specs.declared.term.Term.{Term}
use Rattle.rdf_term.specs.declared.term.Term.TheVariants as term
use Rattle.rdf_term.specs.Classes.{is_digit, is_in, is_one_of, pn_chars, pn_chars_base, pn_chars_u}
use Rattle.rdf_term.specs.EachOnce.{EachOnce}
use Rattle.rdf_term.specs.Validity.{is_label as is_wide_label, is_label_rest as is_wide_rest}
use Rattle.query_model.specs.declared.query.Slot.{Slot}
use Rattle.query_model.specs.declared.query.Slot.TheVariants as slot
use Rattle.query_model.specs.declared.query.Scope.{Scope}
use Rattle.query_model.specs.declared.query.Scope.TheVariants as scope
use Rattle.query_model.specs.declared.query.TriplePattern.{TriplePattern}
use Rattle.query_model.specs.declared.query.Cut.{Cut}
use Rattle.query_model.specs.WellFormed.{AreProjected, ArePatterns, AreTemplate, IsCut, IsCount, IsFixed, IsIri, IsLabelFree, IsLimit, IsPattern, IsScope, IsSlot, IsTemplatePattern, IsVarName, IsVarOrIri, has_variable, is_dotted, is_label, is_label_rest, is_label_start, is_name_char, is_name_start, is_var_char, is_var_name}
use Rattle.query_model.specs.WellFormedTests.{are_patterns, are_projected, are_template, is_any, is_count, is_cut, is_fixed, is_fixed_iri, is_label_free, is_limit, is_name, is_no_colon, is_none, is_pattern, is_scope, is_slot, is_template_pattern, is_var_or_iri}

-- names

-- with the first character of a name its rest may go on
begins : (n d h : Bool) → (n || (d || false)) ≡ true → (n || (d || h)) ≡ true
begins true d h e = refl
begins false true h e = refl
begins false false h e = cc

start_goes_on : (c : ℕ) → is_label_start c ≡ true → is_var_char c ≡ true
start_goes_on c e = begins (is_name_start c) (nat_le 0x30 c && nat_le c 0x39) (is_in ((0xB7, 0xB7) ∷ (0x300, 0x36F) ∷ (0x203F, 0x2040) ∷ []) c) e

pub name_by_first : (cs : List ℕ) (c : ℕ) → Some c ≡ slice_get cs 0 → is_label_start c ≡ true → is_var_name cs ≡ list_all is_var_char cs
name_by_first [] c e h = cc
name_by_first (d ∷ cs) c e h =
    let same : c ≡ d = cc in
    let start : is_label_start d ≡ true = subst (λ x. is_label_start x ≡ true) same h in
    ap (λ b. b && list_all is_var_char cs) (start ∙ sym (start_goes_on d start))

pub name_not : (cs : List ℕ) (c : ℕ) → Some c ≡ slice_get cs 0 → is_label_start c ≡ false → is_var_name cs ≡ false
name_not [] c e h = cc
name_not (d ∷ cs) c e h = let same : c ≡ d = cc in ap (λ b. b && list_all is_var_char cs) (subst (λ x. is_label_start x ≡ false) same h)

-- A label of a query is one of N-Triples without a colon

-- by cases on a test
by_test : {P : Type 0} (b : Bool) → (b ≡ true → P) → (b ≡ false → P) → P
by_test true f g = f refl
by_test false f g = g refl

other_side : (c : ℕ) → (c == 58) ≡ false → (58 == c) ≡ false
other_side c e = grind (arith, nat_tests)

-- one character apart, in the order of each definition
wide_start : (b u k d : Bool) → k ≡ false → ((b || (u || false)) || d) ≡ (((b || (u || (k || false))) || d) && not k)
wide_start b u true d e = cc
wide_start true u false d e = refl
wide_start false true false d e = refl
wide_start false false false true e = refl
wide_start false false false false e = refl

wide_char : (b u k d m h : Bool) → k ≡ false → (((b || (u || false)) || (d || h)) || (m || false)) ≡ (((((b || (u || (k || false))) || (d || false)) || (m || false)) || h) && not k)
wide_char b u true d m h e = cc
wide_char true u false d m h e = refl
wide_char false true false d m h e = refl
wide_char false false false true m h e = refl
wide_char false false false false true true e = refl
wide_char false false false false true false e = refl
wide_char false false false false false true e = refl
wide_char false false false false false false e = refl

turned : (c : ℕ) → (58 == c) ≡ (c == 58)
turned c = by_test (c == 58) (λ e. let same : c ≡ 58 = eqb-true c 58 e in subst (λ x. (58 == x) ≡ (x == 58)) (sym same) refl) (λ e. other_side c e ∙ sym e)

start_is : (c : ℕ) → is_label_start c ≡ ((pn_chars_u c || is_digit c) && is_no_colon c)
start_is c = by_test (c == 58)
    (λ e. let same : c ≡ 58 = eqb-true c 58 e in subst (λ x. is_label_start x ≡ ((pn_chars_u x || is_digit x) && is_no_colon x)) (sym same) refl)
    (λ e. wide_start (is_in pn_chars_base c) (95 == c) (58 == c) (is_digit c) (other_side c e) ∙ ap (λ k. (pn_chars_u c || is_digit c) && not k) (turned c))

char_is : (c : ℕ) → is_name_char c ≡ (pn_chars c && is_no_colon c)
char_is c = by_test (c == 58)
    (λ e. let same : c ≡ 58 = eqb-true c 58 e in subst (λ x. is_name_char x ≡ (pn_chars x && is_no_colon x)) (sym same) refl)
    (λ e. wide_char (is_in pn_chars_base c) (95 == c) (58 == c) (nat_le 0x30 c && nat_le c 0x39) (45 == c) (is_in ((0xB7, 0xB7) ∷ (0x300, 0x36F) ∷ (0x203F, 0x2040) ∷ []) c) (other_side c e)
    ∙ ap (λ k. pn_chars c && not k) (turned c))

dot_with : (p n d : Bool) → (d ≡ true → n ≡ true) → ((p && n) || d) ≡ ((p || d) && n)
dot_with true true true f = refl
dot_with true false true f = let clash : false ≡ true = f refl in cc
dot_with true true false f = refl
dot_with true false false f = refl
dot_with false true true f = refl
dot_with false false true f = let clash : false ≡ true = f refl in cc
dot_with false n false f = refl

dot_no_colon : (c : ℕ) → is_one_of (codes ".") c ≡ true → is_no_colon c ≡ true
dot_no_colon c e = grind (arith, nat_tests)

dotted_is : (c : ℕ) → is_dotted c ≡ ((pn_chars c || is_one_of (codes ".") c) && is_no_colon c)
dotted_is c = ap (λ b. b || is_one_of (codes ".") c) (char_is c) ∙ dot_with (pn_chars c) (is_no_colon c) (is_one_of (codes ".") c) (dot_no_colon c)

last_with : (p n : Bool) → (p && n) ≡ (p && (n && true))
last_with true true = refl
last_with true false = refl
last_with false n = refl

exchanged : (a b c d : Bool) → ((a && b) && (c && d)) ≡ ((a && c) && (b && d))
exchanged true true c d = refl
exchanged true false true d = refl
exchanged true false false d = refl
exchanged false b c d = refl

rest_is : (cs : List ℕ) → is_label_rest cs ≡ (is_wide_rest cs && list_all is_no_colon cs)
rest_is [] = refl
rest_is (c ∷ []) = char_is c ∙ last_with (pn_chars c) (is_no_colon c)
rest_is (c ∷ d ∷ cs) =
    (λ i. dotted_is c i && rest_is (d ∷ cs) i)
    ∙ exchanged (pn_chars c || is_one_of (codes ".") c) (is_no_colon c) (is_wide_rest (d ∷ cs)) (list_all is_no_colon (d ∷ cs))

pub label_is : (cs : List ℕ) → is_label cs ≡ (is_wide_label cs && list_all is_no_colon cs)
label_is [] = refl
label_is (c ∷ cs) = (λ i. start_is c i && rest_is cs i) ∙ exchanged (pn_chars_u c || is_digit c) (is_no_colon c) (is_wide_rest cs) (list_all is_no_colon cs)

pub label_then : (cs : List ℕ) → is_wide_label cs ≡ true → list_all is_no_colon cs ≡ is_label cs
label_then cs h = sym (label_is cs ∙ ap (λ k. k && list_all is_no_colon cs) h)

pub label_else : (cs : List ℕ) → is_wide_label cs ≡ false → is_label cs ≡ false
label_else cs h = label_is cs ∙ ap (λ k. k && list_all is_no_colon cs) h

-- each test decides

both_decide : {P Q : Type 0} (a b : Bool) → Decides a P → Decides b Q → Decides (a && b) (P × Q)
both_decide true b d e = (λ h. (d.0 refl, e.0 h), λ p. e.1 p.1)
both_decide false b d e = (λ h. cc, λ p. d.1 p.0)

all_decide : {X : Type 0} (test : X → Bool) (P : X → Type 0) → ((x : X) → Decides (test x) (P x)) → (xs : List X) → Decides (list_all test xs) (AllByRecursion P xs)
all_decide test P d [] = (λ h. tt, λ h. refl)
all_decide test P d (x ∷ xs) = both_decide (test x) (list_all test xs) (d x) (all_decide test P d xs)

name_decides : (n : List ℕ) → Decides (is_name n) (IsVarName n)
name_decides n = (λ h. h, λ h. h)

fixed_decides : (t : Term) → Decides (is_fixed t) (IsFixed t)
fixed_decides (term.Iri t) = (λ h. h, λ h. h)
fixed_decides (term.Blank t) = (λ h. cc, λ h. absurd h)
fixed_decides (term.Plain t) = (λ h. h, λ h. h)
fixed_decides (term.Tagged t u) = (λ h. h, λ h. h)
fixed_decides (term.Typed t u) = (λ h. h, λ h. h)

slot_decides : (x : Slot) → Decides (is_slot x) (IsSlot x)
slot_decides (slot.Var n) = name_decides n
slot_decides (slot.Blank l) = (λ h. h, λ h. h)
slot_decides (slot.Fixed t) = fixed_decides t

iri_decides : (t : Term) → Decides (is_fixed_iri t) (IsIri t)
iri_decides (term.Iri t) = (λ h. h, λ h. h)
iri_decides (term.Blank t) = (λ h. cc, λ h. absurd h)
iri_decides (term.Plain t) = (λ h. cc, λ h. absurd h)
iri_decides (term.Tagged t u) = (λ h. cc, λ h. absurd h)
iri_decides (term.Typed t u) = (λ h. cc, λ h. absurd h)

verb_decides : (x : Slot) → Decides (is_var_or_iri x) (IsVarOrIri x)
verb_decides (slot.Var n) = name_decides n
verb_decides (slot.Blank l) = (λ h. cc, λ h. absurd h)
verb_decides (slot.Fixed t) = iri_decides t

scope_decides : (g : Scope) → Decides (is_scope g) (IsScope g)
scope_decides scope.Any = (λ h. tt, λ h. refl)
scope_decides (scope.Graph x) = verb_decides x

pattern_decides : (x : TriplePattern) → Decides (is_pattern x) (IsPattern x)
pattern_decides x =
    let d = both_decide (is_slot x.s) (is_var_or_iri x.p && (is_slot x.o && is_scope x.g)) (slot_decides x.s)
    (both_decide (is_var_or_iri x.p) (is_slot x.o && is_scope x.g) (verb_decides x.p) (both_decide (is_slot x.o) (is_scope x.g) (slot_decides x.o) (scope_decides x.g))) in (
      λ h. let p = d.0 h in record { subject = p.0; predicate = p.1.0; object = p.1.1.0; scope = p.1.1.1 },
      λ p. d.1 (p.subject, (p.predicate, (p.object, p.scope))),
    )

free_decides : (x : Slot) → Decides (is_label_free x) (IsLabelFree x)
free_decides (slot.Var n) = (λ h. tt, λ h. refl)
free_decides (slot.Blank l) = (λ h. cc, λ h. absurd h)
free_decides (slot.Fixed t) = (λ h. tt, λ h. refl)

any_decides : (g : Scope) → Decides (is_any g) (g ≡ scope.Any)
any_decides scope.Any = (λ h. refl, λ h. refl)
any_decides (scope.Graph x) = (λ h. cc, λ h. cc)

template_decides : (x : TriplePattern) → Decides (is_template_pattern x) (IsTemplatePattern x)
template_decides x =
    let d = both_decide (is_pattern x) (is_label_free x.s && (is_label_free x.o && is_any x.g)) (pattern_decides x)
    (both_decide (is_label_free x.s) (is_label_free x.o && is_any x.g) (free_decides x.s) (both_decide (is_label_free x.o) (is_any x.g) (free_decides x.o) (any_decides x.g))) in (
      λ h. let p = d.0 h in record { pattern = p.0; subject = p.1.0; object = p.1.1.0; scope = p.1.1.1 },
      λ p. d.1 (p.pattern, (p.subject, (p.object, p.scope))),
    )

at_most_decides : (n m : ℕ) → Decides (nat_le n m) (n ≤ m)
at_most_decides n m = (λ h. grind (arith, nat_tests), λ h. grind (arith, nat_tests))

below_decides : (n m : ℕ) → Decides (nat_lt n m) (n < m)
below_decides n m = (λ h. grind (arith, nat_tests), λ h. grind (arith, nat_tests))

patterns_decide : (xs : List TriplePattern) → Decides (are_patterns xs) (ArePatterns xs)
patterns_decide xs =
    let d = both_decide (nat_le (length xs) 256) (list_all is_pattern xs) (at_most_decides (length xs) 256) (all_decide is_pattern IsPattern pattern_decides xs) in
    (λ h. let p = d.0 h in record { count = p.0; each = p.1 }, λ p. d.1 (p.count, p.each))

template_patterns_decide : (xs : List TriplePattern) → Decides (are_template xs) (AreTemplate xs)
template_patterns_decide xs =
    let d = both_decide (nat_le (length xs) 256) (list_all is_template_pattern xs) (at_most_decides (length xs) 256) (all_decide is_template_pattern IsTemplatePattern template_decides xs) in
    (λ h. let p = d.0 h in record { count = p.0; each = p.1 }, λ p. d.1 (p.count, p.each))

limit_decides : (limit : Option ℕ) → Decides (is_limit limit) (IsLimit limit)
limit_decides None = (λ h. tt, λ h. refl)
limit_decides (Some n) = below_decides n (10 ^ 18)

cut_decides : (c : Cut) → Decides (is_cut c) (IsCut c)
cut_decides c =
    let d = both_decide (is_limit c.limit) (is_count c.offset) (limit_decides c.limit) (below_decides c.offset (10 ^ 18)) in
    (λ h. let p = d.0 h in record { limit = p.0; offset = p.1 }, λ p. d.1 (p.limit, p.offset))

star_decides : (vars : List (List ℕ)) (any : Bool) → Decides (not (is_none vars) || not any) (vars ≡ [] → any ≡ false)
star_decides [] true = (λ h. cc, λ h. sym (h refl))
star_decides [] false = (λ h e. refl, λ h. refl)
star_decides (v ∷ vs) any = (λ h e. cc, λ h. refl)

projected_decide : (vars : List (List ℕ)) (group : List TriplePattern) → EachOnce vars → Decides (are_projected vars group) (AreProjected vars group)
projected_decide vars group once =
    let d = both_decide (list_all is_name vars) (not (is_none vars) || not (list_any has_variable group)) (all_decide is_name IsVarName name_decides vars)
    (star_decides vars (list_any has_variable group)) in
    (λ h. let p = d.0 h in record { each = p.0; once = once; none = p.1 }, λ p. d.1 (p.each, p.none))

-- what the parts of a query tell, where these lists are those

told : {P : Type 0} (r test : Bool) → r ≡ test → Decides test P → IsTrue r ↔ P
told r test e d = (λ h. d.0 (sym e ∙ h), λ p. e ∙ d.1 p)

three : {P Q R : Type 0} (a b c : Bool) → Decides a P → Decides b Q → Decides c R → Decides (a && (b && c)) (P × Q × R)
three a b c d e f =
    let all = both_decide a (b && c) d (both_decide b c e f) in
    (λ h. let p = all.0 h in (p.0, p.1.0, p.1.1), λ p. all.1 (p.0, (p.1, p.2)))

pub select_told : (vars : List (List ℕ)) (group : List TriplePattern) (c : Cut) (r : Bool) (vs : List (List ℕ)) (gs : List TriplePattern) → vs ≡ vars → gs ≡ group → EachOnce vars
    → r ≡ (are_projected vs gs && (are_patterns gs && is_cut c)) → IsTrue r ↔ (AreProjected vars group × ArePatterns group × IsCut c)
select_told vars group c r vs gs v g once e =
    told r (are_projected vars group && (are_patterns group && is_cut c)) (e ∙ (λ i. are_projected (v i) (g i) && (are_patterns (g i) && is_cut c)))
    (three (are_projected vars group) (are_patterns group) (is_cut c) (projected_decide vars group once) (patterns_decide group) (cut_decides c))

pub group_told : (group : List TriplePattern) (r : Bool) (gs : List TriplePattern) → gs ≡ group → r ≡ are_patterns gs → IsTrue r ↔ ArePatterns group
group_told group r gs g e = told r (are_patterns group) (e ∙ ap are_patterns g) (patterns_decide group)

pub construct_told : (template group : List TriplePattern) (c : Cut) (r : Bool) (ts gs : List TriplePattern) → ts ≡ template → gs ≡ group
    → r ≡ (are_template ts && (are_patterns gs && is_cut c)) → IsTrue r ↔ (AreTemplate template × ArePatterns group × IsCut c)
construct_told template group c r ts gs t g e =
    told r (are_template template && (are_patterns group && is_cut c)) (e ∙ (λ i. are_template (t i) && (are_patterns (g i) && is_cut c)))
    (three (are_template template) (are_patterns group) (is_cut c) (template_patterns_decide template) (patterns_decide group) (cut_decides c))
