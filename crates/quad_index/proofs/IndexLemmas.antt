-- The codes of an index, and its quads.
use Rattle.std.proofs.Common.{◌≡◌, ℕ, zero, suc, ◌<◌, ◌≤◌, Bool, true, false, ◌||◌, ◌&&◌, not, cond, List, [], ◌∷◌, ◌++◌, length, get_or, map, Some, slice_get, refl, sym, ap, subst, ◌∙◌, arith}
use Rattle.std.specs.List.{list_any, count_by, filter, flat_map, AllByRecursion}
use Rattle.std.specs.List.Sorted.{IsStrictlySortedBy}
use Rattle.std.specs.Ordering.{eq_by_cmp, is_eq, match_ordering, ordering_reverse}
use Rattle.std.specs.BTreeSet.{insert_key}
use Rattle.std.specs.declared.cmp.Ordering.{Ordering}
use Rattle.std.specs.declared.cmp.Ordering.TheVariants.{Less, Equal, Greater}
use Rattle.std.proofs.lemmas.Cmp.{tied_itself}
use Rattle.std.proofs.lemmas.List.Folds.{list_any_at}
use Rattle.std.proofs.lemmas.List.{map-append, length-map}
use Rattle.std.proofs.lemmas.List.Sums.{fold-append, length-filter}
use Rattle.std.proofs.lemmas.List.Kept.{IsStrictlySortedBy-filter}
use Rattle.std.proofs.lemmas.Bool.{or_right, lt-ltb, le-leb}
use Rattle.rdf_term.specs.declared.pattern.Pattern.{Pattern}
use Rattle.rdf_term.specs.declared.term.Term.{Term}
use Rattle.rdf_term.specs.declared.term.Term.TheVariants.{Iri}
use Rattle.rdf_term.specs.Statement.{Statement}
use Rattle.rdf_term.specs.Order.{term_cmp, quad_cmp}
use Rattle.rdf_term.specs.OrderLaws.{term_total, term_exact, quad_total, quad_exact}
use Rattle.rdf_term.specs.Sets.{sorted_set, in_order}
use Rattle.rdf_term.proofs.SetLemmas.{has-sorted_set, sorted_set-is}
use Rattle.quad_index.specs.declared.letter.Letter.{Letter}
use Rattle.quad_index.specs.declared.code.Code.{Code}
use Rattle.quad_index.specs.Letters.{run, IsChosen}
use Rattle.quad_index.specs.Codes.{code_cmp, code_total, decode, IsCode, IsKnown, is_known, term_at, graph_at, graph_terms, terms_of, is_within, is_ranked, passes_at, arrange_back, HasSame, HasSameWithin}
use Rattle.quad_index.specs.Contents.{Arranged, is_in, IsBest}
use Rattle.quad_index.proofs.CodeLemmas.{code_exact, decode_cmp, decode-sorted_set, decode-ascends, all-sorted_set}
use Rattle.quad_index.proofs.DictionaryLemmas.{all-append}
use Rattle.quad_index.proofs.RunLemmas.{count-map}

-- ---- a dictionary of quads has their terms

each_in : (ts us : List Term) → ((t : Term) → is_known ts t ≡ true → is_known us t ≡ true) → AllByRecursion (IsKnown us) ts
each_in [] us h = tt
each_in (t ∷ ts) us h = (h t (λ i. is_eq (tied_itself term_total t i) || is_known ts t), each_in ts us (λ u e. h u (or_right (is_eq (term_cmp u t)) (is_known ts u) e)))

all_left : {X : Type 0} (P : X → Type 0) (xs ys : List X) → AllByRecursion P (xs ++ ys) → AllByRecursion P xs
all_left P [] ys a = tt
all_left P (x ∷ xs) ys a = (a.0, all_left P xs ys a.1)

all_right : {X : Type 0} (P : X → Type 0) (xs ys : List X) → AllByRecursion P (xs ++ ys) → AllByRecursion P ys
all_right P [] ys a = a
all_right P (x ∷ xs) ys a = all_right P xs ys a.1

all_split : (terms : List Term) (quads : List Statement) → AllByRecursion (IsKnown terms) (flat_map terms_of quads) → AllByRecursion (λ q. AllByRecursion (IsKnown terms) (terms_of q)) quads
all_split terms [] a = tt
all_split terms (q ∷ qs) a = (all_left (IsKnown terms) (terms_of q) (flat_map terms_of qs) a, all_split terms qs (all_right (IsKnown terms) (terms_of q) (flat_map terms_of qs) a))

pub all_known : (terms : List Term) (quads : List Statement) → terms ≡ sorted_set term_cmp (flat_map terms_of quads) → AllByRecursion (λ q. AllByRecursion (IsKnown terms) (terms_of q)) quads
all_known terms quads e = all_split terms quads (each_in (flat_map terms_of quads) terms
    (λ t h. ap (λ ts. is_known ts t) e ∙ has-sorted_set term_total term_exact (flat_map terms_of quads) t ∙ h))

-- ---- whether a quad is there

known_at : (terms : List Term) (i : ℕ) → i < length terms → is_known terms (term_at terms i) ≡ true
known_at terms i l = list_any_at (eq_by_cmp term_cmp (term_at terms i)) terms i (Iri []) l (ap is_eq (tied_itself term_total (term_at terms i)))

known_graph : (terms : List Term) (i : ℕ) → i ≤ length terms → AllByRecursion (IsKnown terms) (graph_terms (graph_at terms i))
known_graph terms zero l = tt
known_graph terms (suc i) l = (known_at terms i (omega arith), tt)

pub known_code : (terms : List Term) (k : Code) → IsCode terms k → AllByRecursion (IsKnown terms) (terms_of (decode terms k))
known_code terms k c = (known_at terms k.first c.subject, (known_at terms k.second c.predicate, (known_at terms k.third c.object, known_graph terms k.fourth c.graph)))

pub unknown : (terms : List Term) (codes : List Code) (q : Statement) → AllByRecursion (IsCode terms) codes → (AllByRecursion (IsKnown terms) (terms_of q) → ⊥) → is_in q (map (decode terms) codes) ≡ false
unknown terms [] q a h = refl
unknown terms (k ∷ ks) q a h = at (unknown terms ks q a.1 h) (quad_cmp q (decode terms k)) refl
  where
    at : is_in q (map (decode terms) ks) ≡ false → (r : Ordering) → quad_cmp q (decode terms k) ≡ r → (is_eq r || is_in q (map (decode terms) ks)) ≡ false
    at rest Less e = rest
    at rest Greater e = rest
    at rest Equal e = absurd (h (subst (λ (p : Statement). AllByRecursion (IsKnown terms) (terms_of p)) (sym (quad_exact q (decode terms k) e)) (known_code terms k a.0)))

pub is_in_codes : (terms : List Term) (codes : List Code) (k : Code) → IsStrictlySortedBy term_cmp terms → AllByRecursion (IsCode terms) codes → IsCode terms k
    → is_in (decode terms k) (map (decode terms) codes) ≡ list_any (eq_by_cmp code_cmp k) codes
is_in_codes terms [] k s a c = refl
is_in_codes terms (x ∷ xs) k s a c = λ i. is_eq (decode_cmp terms k x s c a.0 i) || is_in_codes terms xs k s a.1 c i

pub found_at : (codes : List Code) (k : Code) (i : ℕ) → i < length codes → ((d : Code) → code_cmp (get_or codes i d) k ≡ Equal) → list_any (eq_by_cmp code_cmp k) codes ≡ true
found_at codes k i l h = list_any_at (eq_by_cmp code_cmp k) codes i k l (ap is_eq (code_total.antisymm k (get_or codes i k) ∙ ap ordering_reverse (h k)))

-- ---- what a scan finds

any-filter : {X : Type 0} (f p : X → Bool) (xs : List X) → list_any f (filter p xs) ≡ list_any (λ x. p x && f x) xs
any-filter f p [] = refl
any-filter f p (x ∷ xs) = at (p x) (any-filter f p xs)
  where
    at : (b : Bool) → list_any f (filter p xs) ≡ list_any (λ x. p x && f x) xs → list_any f (cond b (x ∷ filter p xs) (filter p xs)) ≡ ((b && f x) || list_any (λ x. p x && f x) xs)
    at true e = ap (λ c. f x || c) e
    at false e = e

has_one : List Code → Bool
has_one [] = false
has_one (x ∷ xs) = true

any_is : (f : Code → Bool) (xs : List Code) → list_any f xs ≡ has_one (filter f xs)
unfolding has_one
any_is f [] = refl
any_is f (x ∷ xs) = at (f x) (any_is f xs)
  where
    at : (b : Bool) → list_any f xs ≡ has_one (filter f xs) → (b || list_any f xs) ≡ has_one (cond b (x ∷ filter f xs) (filter f xs))
    at true e = refl
    at false e = e

as_long : (xs ys : List Code) → length xs ≡ length ys → has_one xs ≡ has_one ys
unfolding has_one
as_long [] [] e = refl
as_long [] (y ∷ ys) e = absurd (omega arith)
as_long (x ∷ xs) [] e = absurd (omega arith)
as_long (x ∷ xs) (y ∷ ys) e = refl

any_same : (xs ys : List Code) → HasSame xs ys → (f : Code → Bool) → list_any f xs ≡ list_any f ys
any_same xs ys h f = any_is f xs ∙ as_long (filter f xs) (filter f ys) (length-filter f xs ∙ h.counts f ∙ sym (length-filter f ys)) ∙ sym (any_is f ys)

pub hits : (low high : Code) (codes others : List Code) → IsStrictlySortedBy code_cmp codes → HasSame codes others
    → sorted_set code_cmp (filter (is_within low high) others) ≡ filter (is_within low high) codes
hits low high codes others s h = sym (sorted_set-is code_total code_exact (filter (is_within low high) codes) (filter (is_within low high) others)
    (IsStrictlySortedBy-filter code_cmp (is_within low high) codes s)
    (λ q. any-filter (eq_by_cmp code_cmp q) (is_within low high) codes ∙ any_same codes others h (λ x. is_within low high x && eq_by_cmp code_cmp q x)
    ∙ sym (any-filter (eq_by_cmp code_cmp q) (is_within low high) others)))

pub all-filter : {X : Type 0} (P : X → Type 0) (p : X → Bool) (xs : List X) → AllByRecursion P xs → AllByRecursion P (filter p xs)
all-filter P p [] a = tt
all-filter P p (x ∷ xs) a = at (p x) (all-filter P p xs a.1)
  where
    at : (b : Bool) → AllByRecursion P (filter p xs) → AllByRecursion P (cond b (x ∷ filter p xs) (filter p xs))
    at true r = (a.0, r)
    at false r = r

pub decode-filter : (terms : List Term) (p : Code → Bool) (q : Statement → Bool) (codes : List Code) → AllByRecursion (IsCode terms) codes
    → ((k : Code) → IsCode terms k → p k ≡ q (decode terms k)) → map (decode terms) (filter p codes) ≡ filter q (map (decode terms) codes)
decode-filter terms p q [] a h = refl
decode-filter terms p q (k ∷ ks) a h = at (p k) (q (decode terms k)) (h k a.0) (decode-filter terms p q ks a.1 h)
  where
    at : (b c : Bool) → b ≡ c → map (decode terms) (filter p ks) ≡ filter q (map (decode terms) ks)
        → map (decode terms) (cond b (k ∷ filter p ks) (filter p ks)) ≡ cond c (decode terms k ∷ filter q (map (decode terms) ks)) (filter q (map (decode terms) ks))
    at true true e r = ap (λ qs. decode terms k ∷ qs) r
    at false false e r = r
    at true false e r = cc
    at false true e r = cc

pub none_match : (terms : List Term) (q : Statement → Bool) (codes : List Code) → AllByRecursion (IsCode terms) codes
    → ((k : Code) → IsCode terms k → q (decode terms k) ≡ false) → filter q (map (decode terms) codes) ≡ []
none_match terms q [] a h = refl
none_match terms q (k ∷ ks) a h = (λ i. cond (h k a.0 i) (decode terms k ∷ filter q (map (decode terms) ks)) (filter q (map (decode terms) ks))) ∙ none_match terms q ks a.1 h

-- ---- how many codes pass a test

-- as many codes pass as quads
counted : (terms : List Term) (p : Code → Bool) (q : Statement → Bool) (codes : List Code) → AllByRecursion (IsCode terms) codes
    → ((k : Code) → IsCode terms k → p k ≡ q (decode terms k)) → count_by p codes ≡ length (filter q (map (decode terms) codes))
counted terms p q codes a h = sym (length-filter p codes) ∙ sym (length-map (filter p codes) (decode terms)) ∙ ap length (decode-filter terms p q codes a h)

-- a part of a run that has all codes which can pass tells how many do
pub counted_near : (terms : List Term) (low high : Code) (p : Code → Bool) (q : Statement → Bool) (order : List Letter) (codes near : List Code) → AllByRecursion (IsCode terms) codes
    → ((k : Code) → IsCode terms k → p k ≡ q (decode terms k)) → ((k : Code) → p k ≡ true → is_within low high k ≡ true) → HasSameWithin low high codes (map (arrange_back order) near)
    → count_by (λ k. p (arrange_back order k)) near ≡ length (filter q (map (decode terms) codes))
counted_near terms low high p q order codes near a h w n =
    sym (count-map p (arrange_back order) near) ∙ sym (n.counts p w) ∙ counted terms p q codes a h

all_pass : (q : Statement → Bool) (xs : List Statement) → ((x : Statement) → q x ≡ true) → filter q xs ≡ xs
all_pass q [] h = refl
all_pass q (x ∷ xs) h = (λ i. cond (h x i) (x ∷ filter q xs) (filter q xs)) ∙ ap (λ ys. x ∷ ys) (all_pass q xs h)

pub counted_all : (terms : List Term) (q : Statement → Bool) (codes : List Code) → ((x : Statement) → q x ≡ true) → length codes ≡ length (filter q (map (decode terms) codes))
counted_all terms q codes h = sym (length-map codes (decode terms)) ∙ ap length (sym (all_pass q (map (decode terms) codes) h))

ranked : (terms : List Term) (k : Code) → IsCode terms k → is_ranked terms k ≡ true
ranked terms k c = λ i. lt-ltb k.first (length terms) c.subject i && lt-ltb k.second (length terms) c.predicate i && lt-ltb k.third (length terms) c.object i && le-leb k.fourth (length terms) c.graph i

-- the test of codes that lie within two bounds is that of quads that two patterns match
pub found_both : (terms : List Term) (p r : Code → Bool) (m n test : Statement → Bool) → ((k : Code) → IsCode terms k → p k ≡ m (decode terms k)) → ((k : Code) → IsCode terms k → r k ≡ n (decode terms k))
    → (k : Code) → IsCode terms k → (p k && (r k && passes_at test terms k)) ≡ (m (decode terms k) && (n (decode terms k) && test (decode terms k)))
found_both terms p r m n test f g k c = λ i. f k c i && (g k c i && (ranked terms k c i && test (decode terms k)))

pub first_of : (a b : Bool) → (a && b) ≡ true → a ≡ true
first_of true b h = refl
first_of false b h = cc

pub second_of : (a b c : Bool) → (a && (b && c)) ≡ true → b ≡ true
second_of true true c h = refl
second_of true false c h = cc
second_of false b c h = cc

pub never_first : (a b : Bool) → a ≡ false → (a && b) ≡ false
never_first true b h = cc
never_first false b h = refl

pub never_second : (a b c : Bool) → b ≡ false → (a && (b && c)) ≡ false
never_second true true c h = cc
never_second true false c h = refl
never_second false b c h = refl

-- ---- sets with one quad more or fewer

pub sorted_again : (quads : List Statement) → IsStrictlySortedBy quad_cmp quads → in_order quads ≡ quads
sorted_again quads s = sym (sorted_set-is quad_total quad_exact quads quads s (λ q. refl))

pub one_more : (quads : List Statement) (q : Statement) → IsStrictlySortedBy quad_cmp quads → in_order (quads ++ q ∷ []) ≡ insert_key quad_cmp quads q
one_more quads q s = fold-append (λ sorted x. insert_key quad_cmp sorted x) [] quads (q ∷ []) ∙ ap (λ qs. insert_key quad_cmp qs q) (sorted_again quads s)

pub code_added : (terms : List Term) (codes : List Code) (k : Code) (q : Statement) → IsStrictlySortedBy term_cmp terms → AllByRecursion (IsCode terms) codes → IsStrictlySortedBy code_cmp codes
    → IsCode terms k → decode terms k ≡ q → map (decode terms) (sorted_set code_cmp (codes ++ k ∷ [])) ≡ insert_key quad_cmp (map (decode terms) codes) q
code_added terms codes k q s a r c e =
    decode-sorted_set terms s (codes ++ k ∷ []) (all-append (IsCode terms) codes k a c)
    ∙ ap (sorted_set quad_cmp) (map-append (decode terms) codes (k ∷ []) ∙ ap (λ x. map (decode terms) codes ++ x ∷ []) e)
    ∙ one_more (map (decode terms) codes) q (decode-ascends terms s codes a r)

pub codes_added : (terms : List Term) (codes : List Code) (k : Code) → AllByRecursion (IsCode terms) codes → IsCode terms k → AllByRecursion (IsCode terms) (sorted_set code_cmp (codes ++ k ∷ []))
codes_added terms codes k a c = all-sorted_set (IsCode terms) (codes ++ k ∷ []) (all-append (IsCode terms) codes k a c)

pub code_dropped : (terms : List Term) (codes : List Code) (k : Code) (q : Statement) → IsStrictlySortedBy term_cmp terms → AllByRecursion (IsCode terms) codes → IsCode terms k → decode terms k ≡ q
    → map (decode terms) (filter (λ x. not (eq_by_cmp code_cmp x k)) codes) ≡ filter (λ x. not (eq_by_cmp quad_cmp x q)) (map (decode terms) codes)
code_dropped terms codes k q s a c e = decode-filter terms (λ x. not (eq_by_cmp code_cmp x k)) (λ x. not (eq_by_cmp quad_cmp x q)) codes a
    (λ x d. (λ i. not (is_eq (sym (decode_cmp terms x k s d c) i))) ∙ ap (λ p. not (eq_by_cmp quad_cmp (decode terms x) p)) e)

none_below : (k x : Statement) (ys : List Statement) → quad_cmp k x ≡ Less → AllByRecursion (λ y. quad_cmp x y ≡ Less) ys → is_in k ys ≡ false
none_below k x [] e a = refl
none_below k x (y ∷ ys) e a = λ i. is_eq (quad_total.trans k x y e a.0 i) || none_below k x ys e a.1 i

-- a quad that is there is not added again
pub insert_key-there : (xs : List Statement) (k : Statement) → IsStrictlySortedBy quad_cmp xs → is_in k xs ≡ true → insert_key quad_cmp xs k ≡ xs
unfolding IsStrictlySortedBy
insert_key-there [] k s h = cc
insert_key-there (x ∷ xs) k s h = at (insert_key-there xs k s.1) (quad_cmp k x) refl h
  where
    at : (is_in k xs ≡ true → insert_key quad_cmp xs k ≡ xs) → (r : Ordering) → quad_cmp k x ≡ r → (is_eq r || is_in k xs) ≡ true
        → match_ordering r (k ∷ x ∷ xs) (x ∷ xs) (x ∷ insert_key quad_cmp xs k) ≡ x ∷ xs
    at rest Less e h = let clash : false ≡ true = sym (none_below k x xs e s.0) ∙ h in cc
    at rest Equal e h = refl
    at rest Greater e h = ap (λ ys. x ∷ ys) (rest h)

quad_same : (x y : Statement) → is_eq (quad_cmp x y) ≡ is_eq (quad_cmp y x)
quad_same x y = ap is_eq (quad_total.antisymm x y) ∙ same (quad_cmp y x)
  where
    same : (r : Ordering) → is_eq (ordering_reverse r) ≡ is_eq r
    same Less = refl
    same Equal = refl
    same Greater = refl

-- a quad that is not there is not filtered out
pub filter_absent : (xs : List Statement) (k : Statement) → is_in k xs ≡ false → xs ≡ filter (λ q. not (eq_by_cmp quad_cmp q k)) xs
filter_absent [] k h = refl
filter_absent (x ∷ xs) k h = at (filter_absent xs k) (is_eq (quad_cmp k x)) refl h
  where
    at : (is_in k xs ≡ false → xs ≡ filter (λ q. not (eq_by_cmp quad_cmp q k)) xs) → (b : Bool) → is_eq (quad_cmp k x) ≡ b → (b || is_in k xs) ≡ false
        → x ∷ xs ≡ filter (λ q. not (eq_by_cmp quad_cmp q k)) (x ∷ xs)
    at rest true e h = cc
    at rest false e h = ap (λ ys. x ∷ ys) (rest h)
        ∙ (λ i. cond (not (sym (quad_same x k ∙ e) i)) (x ∷ filter (λ q. not (eq_by_cmp quad_cmp q k)) xs) (filter (λ q. not (eq_by_cmp quad_cmp q k)) xs))

-- ---- runs in the same orders

pub still_some : (runs given made : List Arranged) → map (λ (run : Arranged). run.order) made ≡ map (λ (run : Arranged). run.order) given → given ≡ runs → 0 < length runs → 0 < length made
still_some runs given made e f l =
    let lengths = ap length e in
    let same = ap length f in
    omega (arith, lengths, same, length-map given (λ (run : Arranged). run.order), length-map made (λ (run : Arranged). run.order))

-- ---- the order that is chosen

none_at : Arranged
none_at = record { order = []; codes = [] }

order_at : (runs : List Arranged) (k : ℕ) (none : Arranged) → k < length runs → slice_get (map (λ (s : Arranged). s.order) runs) k ≡ Some (get_or runs k none).order
order_at [] k none b = absurd (omega arith)
order_at (s ∷ ss) zero none b = refl
order_at (s ∷ ss) (suc k) none b = order_at ss k none (omega arith)

there : (runs : List Arranged) (k : ℕ) (order : List Letter) → slice_get (map (λ (s : Arranged). s.order) runs) k ≡ Some order → k < length runs
there [] k order e = cc
there (s ∷ ss) zero order e = omega arith
there (s ∷ ss) (suc k) order e = let l = there ss k order e in omega arith

same_some : (x y : List Letter) → Some x ≡ Some y → x ≡ y
same_some x y e = cc

pub chosen : (p : Pattern) (runs : List Arranged) (best : ℕ) (order : List Letter) → IsBest p runs best → ((none : Arranged) → order ≡ (get_or runs best none).order)
    → IsChosen p (map (λ (s : Arranged). s.order) runs) order
chosen p runs best order b e = record {
  place = best;
  found = order_at runs best none_at b.within ∙ ap Some (sym (e none_at));
  longest = λ other o f. let l = there runs other o f in
      let same : o ≡ (get_or runs other none_at).order = same_some _ _ (sym f ∙ order_at runs other none_at l) in
      subst (λ x. run p o ≤ run p x) (sym (e none_at)) (subst (λ x. run p x ≤ run p (get_or runs best none_at).order) (sym same) (b.longest other none_at l));
  earliest = λ other o before f. let l = there runs other o f in
      let same : o ≡ (get_or runs other none_at).order = same_some _ _ (sym f ∙ order_at runs other none_at l) in
      subst (λ x. run p o < run p x) (sym (e none_at)) (subst (λ x. run p x < run p (get_or runs best none_at).order) (sym same) (b.earliest other none_at before));
}
