-- Each test passes exactly where the two values are equal, so that it is an equivalence.
use Rattle.std.specs.Prelude.{◌≡◌, ◌↔◌, IsTrue, ℕ, nat_eq, Bool, true, false, ◌&&◌, List, Option, Some, None, refl}
use Rattle.std.proofs.Common.{ap, sym, subst, ◌∙◌}
use Rattle.std.specs.Bool.{beq, Decides}
use Rattle.std.specs.Option.{option_eq}
use Rattle.std.specs.Ordering.{eq_by_cmp, is_eq}
use Rattle.std.specs.Cmp.{IsEquivalence, IsTotalOrder, decided, first_so, second_so, unsigned_Decides}
use Rattle.std.specs.Cmp.Lexicographic.{pointwise, pointwise_decides}
use Rattle.std.specs.declared.cmp.Ordering.{Ordering}
use Rattle.std.specs.declared.cmp.Ordering.TheVariants.{Less, Equal, Greater}
use Rattle.std.proofs.lemmas.Cmp.{tied_itself}
use Rattle.std.proofs.lemmas.Map.Lookups.{CmpEqualImpliesEq}
use Rattle.rdf_term.specs.declared.term.Term.{Term}
use Rattle.rdf_term.specs.Statement.{Statement}
use Rattle.rdf_term.specs.TextOrder.{text_cmp, text_total}
use Rattle.rdf_term.specs.Order.{quad_cmp, term_cmp}
use Rattle.rdf_term.specs.OrderLaws.{quad_exact, quad_total, term_exact, term_total, text_exact}
use Rattle.query_model.specs.declared.query.Slot.{Slot}
use Rattle.query_model.specs.declared.query.Slot.TheVariants as slot
use Rattle.query_model.specs.declared.query.Scope.{Scope}
use Rattle.query_model.specs.declared.query.Scope.TheVariants as scope
use Rattle.query_model.specs.declared.query.TriplePattern.{TriplePattern}
use Rattle.query_model.specs.declared.query.Cut.{Cut}
use Rattle.query_model.specs.declared.query.Query.{Query}
use Rattle.query_model.specs.declared.query.Query.TheVariants as query
use Rattle.query_model.specs.declared.table.Table.{Table}
use Rattle.query_model.specs.declared.found.Found.{Found}
use Rattle.query_model.specs.declared.found.Found.TheVariants as answer
use Rattle.query_model.specs.Equality.{slot_eq, scope_eq, pattern_eq, patterns_eq, cut_eq, names_eq, query_eq, rows_eq, table_eq, found_eq}

-- a test that only equal values pass, and each with itself
decides : {K : Type 0} (test : K → K → Bool) → ((x y : K) → test x y ≡ true → x ≡ y) → ((x : K) → test x x ≡ true) → (x y : K) → Decides (test x y) (x ≡ y)
decides test same itself x y = (same x y, λ e. subst (λ z. test x z ≡ true) e (itself x))

-- what a test that decides tells
pub told : {P : Type 0} {test answer : Bool} → answer ≡ test → Decides test P → IsTrue answer ↔ P
told e decided = (λ h. decided.0 (sym e ∙ h), λ p. e ∙ decided.1 p)

tied : (o : Ordering) → is_eq o ≡ true → o ≡ Equal
tied Less e = cc
tied Equal e = refl
tied Greater e = cc

-- the test of an order in which only a value itself is as high as it
by_cmp : {K : Type 0} {R : K → K → Ordering} → IsTotalOrder R → CmpEqualImpliesEq R → (x y : K) → Decides (eq_by_cmp R x y) (x ≡ y)
by_cmp {K} {R} total exact = decides (eq_by_cmp R) (λ x y e. exact x y (tied (R x y) e)) (λ x. ap is_eq (tied_itself total x))

text_decides : (x y : List ℕ) → Decides (eq_by_cmp text_cmp x y) (x ≡ y)
text_decides = by_cmp text_total text_exact

term_decides : (x y : Term) → Decides (eq_by_cmp term_cmp x y) (x ≡ y)
term_decides = by_cmp term_total term_exact

quad_decides : (x y : Statement) → Decides (eq_by_cmp quad_cmp x y) (x ≡ y)
quad_decides = by_cmp quad_total quad_exact

bool_same : (x y : Bool) → beq x y ≡ true → x ≡ y
bool_same true true e = refl
bool_same true false e = cc
bool_same false true e = cc
bool_same false false e = refl

bool_itself : (x : Bool) → beq x x ≡ true
bool_itself true = refl
bool_itself false = refl

slot_same : (x y : Slot) → slot_eq x y ≡ true → x ≡ y
slot_same (slot.Var x) (slot.Var y) e = ap slot.Var ((text_decides x y).0 e)
slot_same (slot.Var x) (slot.Blank y) e = cc
slot_same (slot.Var x) (slot.Fixed y) e = cc
slot_same (slot.Blank x) (slot.Var y) e = cc
slot_same (slot.Blank x) (slot.Blank y) e = ap slot.Blank ((text_decides x y).0 e)
slot_same (slot.Blank x) (slot.Fixed y) e = cc
slot_same (slot.Fixed x) (slot.Var y) e = cc
slot_same (slot.Fixed x) (slot.Blank y) e = cc
slot_same (slot.Fixed x) (slot.Fixed y) e = ap slot.Fixed ((term_decides x y).0 e)

slot_itself : (x : Slot) → slot_eq x x ≡ true
slot_itself (slot.Var x) = (text_decides x x).1 refl
slot_itself (slot.Blank x) = (text_decides x x).1 refl
slot_itself (slot.Fixed x) = (term_decides x x).1 refl

pub slot_decides : (x y : Slot) → Decides (slot_eq x y) (x ≡ y)
slot_decides = decides slot_eq slot_same slot_itself

scope_same : (x y : Scope) → scope_eq x y ≡ true → x ≡ y
scope_same scope.Any scope.Any e = refl
scope_same scope.Any (scope.Graph y) e = cc
scope_same (scope.Graph x) scope.Any e = cc
scope_same (scope.Graph x) (scope.Graph y) e = ap scope.Graph (slot_same x y e)

scope_itself : (x : Scope) → scope_eq x x ≡ true
scope_itself scope.Any = refl
scope_itself (scope.Graph x) = slot_itself x

pub scope_decides : (x y : Scope) → Decides (scope_eq x y) (x ≡ y)
scope_decides = decides scope_eq scope_same scope_itself

pattern_same : (x y : TriplePattern) → pattern_eq x y ≡ true → x ≡ y
pattern_same x y e =
    let a = second_so (slot_eq x.s y.s) _ e in
    let b = second_so (slot_eq x.p y.p) _ a in
    let s = slot_same x.s y.s (first_so (slot_eq x.s y.s) _ e) in
    let p = slot_same x.p y.p (first_so (slot_eq x.p y.p) _ a) in
    let o = slot_same x.o y.o (first_so (slot_eq x.o y.o) _ b) in
    let g = scope_same x.g y.g (second_so (slot_eq x.o y.o) _ b) in
    λ i. record { s = s i; p = p i; o = o i; g = g i }

pattern_itself : (x : TriplePattern) → pattern_eq x x ≡ true
pattern_itself x = λ i. slot_itself x.s i && (slot_itself x.p i && (slot_itself x.o i && scope_itself x.g i))

pub pattern_decides : (x y : TriplePattern) → Decides (pattern_eq x y) (x ≡ y)
pattern_decides = decides pattern_eq pattern_same pattern_itself

patterns_decide : (xs ys : List TriplePattern) → Decides (patterns_eq xs ys) (xs ≡ ys)
patterns_decide = pointwise_decides pattern_decides

names_decide : (xs ys : List (List ℕ)) → Decides (names_eq xs ys) (xs ≡ ys)
names_decide = pointwise_decides text_decides

-- an option, of a test that decides
module _ {K : Type 0} (test : K → K → Bool) (of_items : (x y : K) → Decides (test x y) (x ≡ y)) where
  option_same : (x y : Option K) → option_eq test x y ≡ true → x ≡ y
  option_same None None e = refl
  option_same None (Some y) e = cc
  option_same (Some x) None e = cc
  option_same (Some x) (Some y) e = ap Some ((of_items x y).0 e)

  option_itself : (x : Option K) → option_eq test x x ≡ true
  option_itself None = refl
  option_itself (Some x) = (of_items x x).1 refl

  option_decides : (x y : Option K) → Decides (option_eq test x y) (x ≡ y)
  option_decides = decides (option_eq test) option_same option_itself

limit_decides : (x y : Option ℕ) → Decides (option_eq nat_eq x y) (x ≡ y)
limit_decides = option_decides nat_eq unsigned_Decides

cut_same : (x y : Cut) → cut_eq x y ≡ true → x ≡ y
cut_same x y e =
    let limit = (limit_decides x.limit y.limit).0 (first_so (option_eq nat_eq x.limit y.limit) _ e) in
    let offset = (unsigned_Decides x.offset y.offset).0 (second_so (option_eq nat_eq x.limit y.limit) _ e) in
    λ i. record { limit = limit i; offset = offset i }

cut_itself : (x : Cut) → cut_eq x x ≡ true
cut_itself x = λ i. (limit_decides x.limit x.limit).1 refl i && (unsigned_Decides x.offset x.offset).1 refl i

pub cut_decides : (x y : Cut) → Decides (cut_eq x y) (x ≡ y)
cut_decides = decides cut_eq cut_same cut_itself

query_same : (x y : Query) → query_eq x y ≡ true → x ≡ y
query_same (query.Select d v g c) (query.Select e w h k) q =
    let a = second_so (beq d e) _ q in
    let b = second_so (names_eq v w) _ a in
    let distinct = bool_same d e (first_so (beq d e) _ q) in
    let vars = (names_decide v w).0 (first_so (names_eq v w) _ a) in
    let group = (patterns_decide g h).0 (first_so (patterns_eq g h) _ b) in
    let cut = cut_same c k (second_so (patterns_eq g h) _ b) in
    λ i. query.Select (distinct i) (vars i) (group i) (cut i)
query_same (query.Select d v g c) (query.Ask h) q = cc
query_same (query.Select d v g c) (query.Construct t h k) q = cc
query_same (query.Ask g) (query.Select e w h k) q = cc
query_same (query.Ask g) (query.Ask h) q = ap query.Ask ((patterns_decide g h).0 q)
query_same (query.Ask g) (query.Construct t h k) q = cc
query_same (query.Construct t g c) (query.Select e w h k) q = cc
query_same (query.Construct t g c) (query.Ask h) q = cc
query_same (query.Construct t g c) (query.Construct u h k) q =
    let a = second_so (patterns_eq t u) _ q in
    let template = (patterns_decide t u).0 (first_so (patterns_eq t u) _ q) in
    let group = (patterns_decide g h).0 (first_so (patterns_eq g h) _ a) in
    let cut = cut_same c k (second_so (patterns_eq g h) _ a) in
    λ i. query.Construct (template i) (group i) (cut i)

query_itself : (x : Query) → query_eq x x ≡ true
query_itself (query.Select d v g c) = λ i. bool_itself d i && ((names_decide v v).1 refl i && ((patterns_decide g g).1 refl i && cut_itself c i))
query_itself (query.Ask g) = (patterns_decide g g).1 refl
query_itself (query.Construct t g c) = λ i. (patterns_decide t t).1 refl i && ((patterns_decide g g).1 refl i && cut_itself c i)

pub query_decides : (x y : Query) → Decides (query_eq x y) (x ≡ y)
query_decides = decides query_eq query_same query_itself

rows_decide : (xs ys : List (List (Option Term))) → Decides (rows_eq xs ys) (xs ≡ ys)
rows_decide = pointwise_decides (pointwise_decides (option_decides (eq_by_cmp term_cmp) term_decides))

table_same : (x y : Table) → table_eq x y ≡ true → x ≡ y
table_same x y e =
    let vars = (names_decide x.vars y.vars).0 (first_so (names_eq x.vars y.vars) _ e) in
    let rows = (rows_decide x.rows y.rows).0 (second_so (names_eq x.vars y.vars) _ e) in
    λ i. record { vars = vars i; rows = rows i }

table_itself : (x : Table) → table_eq x x ≡ true
table_itself x = λ i. (names_decide x.vars x.vars).1 refl i && (rows_decide x.rows x.rows).1 refl i

pub table_decides : (x y : Table) → Decides (table_eq x y) (x ≡ y)
table_decides = decides table_eq table_same table_itself

quads_decide : (xs ys : List Statement) → Decides (pointwise (eq_by_cmp quad_cmp) xs ys) (xs ≡ ys)
quads_decide = pointwise_decides quad_decides

found_same : (x y : Found) → found_eq x y ≡ true → x ≡ y
found_same (answer.Table x) (answer.Table y) e = ap answer.Table (table_same x y e)
found_same (answer.Table x) (answer.Truth y) e = cc
found_same (answer.Table x) (answer.Quads y) e = cc
found_same (answer.Truth x) (answer.Table y) e = cc
found_same (answer.Truth x) (answer.Truth y) e = ap answer.Truth (bool_same x y e)
found_same (answer.Truth x) (answer.Quads y) e = cc
found_same (answer.Quads x) (answer.Table y) e = cc
found_same (answer.Quads x) (answer.Truth y) e = cc
found_same (answer.Quads x) (answer.Quads y) e = ap answer.Quads ((quads_decide x y).0 e)

found_itself : (x : Found) → found_eq x x ≡ true
found_itself (answer.Table x) = table_itself x
found_itself (answer.Truth x) = bool_itself x
found_itself (answer.Quads x) = (quads_decide x x).1 refl

pub found_decides : (x y : Found) → Decides (found_eq x y) (x ≡ y)
found_decides = decides found_eq found_same found_itself

-- the equivalences

pub slot_equiv : IsEquivalence slot_eq
slot_equiv = decided slot_eq slot_decides

pub scope_equiv : IsEquivalence scope_eq
scope_equiv = decided scope_eq scope_decides

pub pattern_equiv : IsEquivalence pattern_eq
pattern_equiv = decided pattern_eq pattern_decides

pub cut_equiv : IsEquivalence cut_eq
cut_equiv = decided cut_eq cut_decides

pub query_equiv : IsEquivalence query_eq
query_equiv = decided query_eq query_decides

pub table_equiv : IsEquivalence table_eq
table_equiv = decided table_eq table_decides

pub found_equiv : IsEquivalence found_eq
found_equiv = decided found_eq found_decides
