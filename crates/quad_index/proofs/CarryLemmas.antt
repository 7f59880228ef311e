-- Quads of one dictionary in another one.
use Rattle.std.proofs.Common.{◌≡◌, ℕ, zero, suc, ◌+◌, ◌-◌, ◌^◌, ◌<◌, ◌≤◌, Bool, true, false, ◌||◌, cond, min, List, [], ◌∷◌, ◌++◌, length, get_or, map, take, add-one, refl, sym, ap, subst, ◌∙◌, arith}
use Rattle.std.specs.List.{AllByRecursion}
use Rattle.std.specs.List.Sorted.{IsStrictlySortedBy}
use Rattle.std.specs.Ordering.{eq_by_cmp, is_eq}
use Rattle.std.specs.declared.cmp.Ordering.{Ordering}
use Rattle.std.specs.declared.cmp.Ordering.TheVariants.{Less, Equal, Greater}
use Rattle.std.proofs.lemmas.Bool.{or_right}
use Rattle.std.proofs.lemmas.Cmp.{tied_itself}
use Rattle.std.proofs.lemmas.List.{take_more, map-append}
use Rattle.std.proofs.lemmas.List.Folds.{list_any-append}
use Rattle.rdf_term.specs.declared.term.Term.{Term}
use Rattle.rdf_term.specs.declared.graph.Graph.{Graph}
use Rattle.rdf_term.specs.declared.graph.Graph.TheVariants.{Named}
use Rattle.rdf_term.specs.Statement.{Statement, IsStatement}
use Rattle.rdf_term.specs.Order.{term_cmp, quad_cmp}
use Rattle.rdf_term.specs.OrderLaws.{term_total, term_exact, quad_exact}
use Rattle.rdf_term.specs.Sets.{sorted_set, in_order}
use Rattle.rdf_term.proofs.SetLemmas.{has-sorted_set}
use Rattle.quad_index.specs.declared.code.Code.{Code}
use Rattle.quad_index.specs.Codes.{code_cmp, code_total, decode, graph_at, graph_terms, IsCode, IsKnown, is_known, term_at, terms_of}
use Rattle.quad_index.specs.Contents.{is_in}
use Rattle.quad_index.specs.Carry.{AreCodesOf, AreMarked, AreRanks, IsMarked, IsRankOf, carry, carry_graph, graph_ranks, marked_terms, ranks_of}
use Rattle.quad_index.proofs.CodeLemmas.{code_exact, decode_cmp, decode-sorted_set}
use Rattle.quad_index.proofs.DictionaryLemmas.{all-append}
use Rattle.quad_index.proofs.IndexLemmas.{known_code}

-- ---- what is said of each item

pub each : {X : Type 0} (P Q : X → Type 0) (xs : List X) → ((x : X) → P x → Q x) → AllByRecursion P xs → AllByRecursion Q xs
each P Q [] h a = tt
each P Q (x ∷ xs) h a = (h x a.0, each P Q xs h a.1)

pub all_both : {X : Type 0} (P : X → Type 0) (xs ys : List X) → AllByRecursion P xs → AllByRecursion P ys → AllByRecursion P (xs ++ ys)
all_both P [] ys a b = b
all_both P (x ∷ xs) ys a b = (a.0, all_both P xs ys a.1 b)

-- ---- the codes of given quads

pub codes-sorted_set : (terms : List Term) (quads : List Statement) (codes : List Code) → AreCodesOf terms quads codes → AreCodesOf terms quads (sorted_set code_cmp codes)
codes-sorted_set terms quads codes h = record { same = λ k c. has-sorted_set code_total code_exact codes k ∙ h.same k c }

one_quad : (x : Statement) (quads : List Statement) (i : ℕ) (q : Statement) → i < length quads → q ≡ get_or quads i q
    → is_in x (take (i + 1) quads) ≡ (is_in x (take i quads) || (eq_by_cmp quad_cmp x q || false))
one_quad x quads i q l is = ap (is_in x) (take_more quads i q l ∙ ap (λ y. take i quads ++ y ∷ []) (sym is)) ∙ list_any-append (eq_by_cmp quad_cmp x) (take i quads) (q ∷ [])

pub known_more : (terms : List Term) (quads : List Statement) (i : ℕ) (q : Statement) (codes : List Code) (k : Code) → IsStrictlySortedBy term_cmp terms → i < length quads → q ≡ get_or quads i q
    → IsCode terms k → decode terms k ≡ q → AreCodesOf terms (take i quads) codes → AreCodesOf terms (take (i + 1) quads) (codes ++ k ∷ [])
known_more terms quads i q codes k s l is c e h = record {
  same = λ x d.
      list_any-append (eq_by_cmp code_cmp x) codes (k ∷ [])
      ∙ (λ j. h.same x d j || (is_eq (sym (decode_cmp terms x k s d c) j) || false))
      ∙ ap (λ p. is_in (decode terms x) (take i quads) || (eq_by_cmp quad_cmp (decode terms x) p || false)) e
      ∙ sym (one_quad (decode terms x) quads i q l is);
}

or_no : (a : Bool) → a ≡ (a || (false || false))
or_no true = refl
or_no false = refl

pub unknown_more : (terms : List Term) (quads : List Statement) (i : ℕ) (q : Statement) (codes : List Code) → i < length quads → q ≡ get_or quads i q
    → (AllByRecursion (IsKnown terms) (terms_of q) → ⊥) → AreCodesOf terms (take i quads) codes → AreCodesOf terms (take (i + 1) quads) codes
unknown_more terms quads i q codes l is unknown h = record {
  same = λ x d.
      h.same x d ∙ or_no (is_in (decode terms x) (take i quads))
      ∙ ap (λ b. is_in (decode terms x) (take i quads) || (b || false)) (sym (other x d (quad_cmp (decode terms x) q) refl))
      ∙ sym (one_quad (decode terms x) quads i q l is);
}
  where
    other : (x : Code) → IsCode terms x → (r : Ordering) → quad_cmp (decode terms x) q ≡ r → is_eq r ≡ false
    other x d Less e = refl
    other x d Greater e = refl
    other x d Equal e = absurd (unknown (subst (λ (p : Statement). AllByRecursion (IsKnown terms) (terms_of p)) (quad_exact (decode terms x) q e) (known_code terms x d)))

-- ---- the terms of given codes

pub marks_more : (marks new : List Bool) (codes : List Code) (i : ℕ) (d : Code) → i < length codes → ((rank : ℕ) → IsMarked marks rank → IsMarked new rank)
    → AreMarked new (get_or codes i d) → AllByRecursion (AreMarked marks) (take i codes) → AllByRecursion (AreMarked new) (take (i + 1) codes)
marks_more marks new codes i d l keeps m a = subst (AllByRecursion (AreMarked new)) (sym (take_more codes i d l))
    (all-append (AreMarked new) (take i codes) (get_or codes i d) (each (AreMarked marks) (AreMarked new) (take i codes) (λ x b. each (IsMarked marks) (IsMarked new) (ranks_of x) keeps b) a) m)

marked_next : (terms : List Term) (marks : List Bool) (i : ℕ) (t : Term) → length marks ≡ length terms → i < length terms → t ≡ get_or terms i t
    → marked_terms (take (suc i) terms) (take (suc i) marks) ≡ marked_terms (take i terms) (take i marks) ++ cond (get_or marks i false) (t ∷ []) []
marked_next [] marks i t e l is = absurd (omega arith)
marked_next (x ∷ xs) [] i t e l is = absurd (omega arith)
marked_next (x ∷ xs) (c ∷ cs) zero t e l is = sym (λ j. cond c (is j ∷ []) [])
marked_next (x ∷ xs) (c ∷ cs) (suc i) t e l is = at c (marked_next xs cs i t (omega arith) (omega arith) is)
  where
    at : (c : Bool) → marked_terms (take (suc i) xs) (take (suc i) cs) ≡ marked_terms (take i xs) (take i cs) ++ cond (get_or cs i false) (t ∷ []) []
        → cond c (x ∷ marked_terms (take (suc i) xs) (take (suc i) cs)) (marked_terms (take (suc i) xs) (take (suc i) cs))
        ≡ cond c (x ∷ marked_terms (take i xs) (take i cs)) (marked_terms (take i xs) (take i cs)) ++ cond (get_or cs i false) (t ∷ []) []
    at true h = ap (λ ts. x ∷ ts) h
    at false h = h

pub marked_more : (terms : List Term) (marks : List Bool) (i : ℕ) (t : Term) → length marks ≡ length terms → i < length terms → t ≡ get_or terms i t
    → marked_terms (take (i + 1) terms) (take (i + 1) marks) ≡ marked_terms (take i terms) (take i marks) ++ cond (get_or marks i false) (t ∷ []) []
marked_more terms marks i t e l is = ap (λ n. marked_terms (take n terms) (take n marks)) (add-one i) ∙ marked_next terms marks i t e l is

known_marked : (terms : List Term) (marks : List Bool) (rank : ℕ) → rank < length terms → IsMarked marks rank → is_known (marked_terms terms marks) (term_at terms rank) ≡ true
known_marked [] marks rank l m = absurd (omega arith)
known_marked (t ∷ ts) [] rank l m = cc
known_marked (t ∷ ts) (b ∷ bs) zero l m = ap (λ c. is_known (cond c (t ∷ marked_terms ts bs) (marked_terms ts bs)) t) m ∙ (λ i. is_eq (tied_itself term_total t i) || is_known (marked_terms ts bs) t)
known_marked (t ∷ ts) (b ∷ bs) (suc rank) l m = at b (known_marked ts bs rank (omega arith) m)
  where
    at : (b : Bool) → is_known (marked_terms ts bs) (term_at ts rank) ≡ true → is_known (cond b (t ∷ marked_terms ts bs) (marked_terms ts bs)) (term_at ts rank) ≡ true
    at true h = or_right (eq_by_cmp term_cmp (term_at ts rank) t) (is_known (marked_terms ts bs) (term_at ts rank)) h
    at false h = h

known_marked_graph : (terms : List Term) (marks : List Bool) (number : ℕ) → number ≤ length terms → AllByRecursion (IsMarked marks) (graph_ranks number)
    → AllByRecursion (IsKnown (marked_terms terms marks)) (graph_terms (graph_at terms number))
known_marked_graph terms marks zero l m = tt
known_marked_graph terms marks (suc rank) l m = (known_marked terms marks rank (omega arith) m.0, tt)

known_marked_code : (terms : List Term) (marks : List Bool) (k : Code) → IsCode terms k → AreMarked marks k → AllByRecursion (IsKnown (marked_terms terms marks)) (terms_of (decode terms k))
known_marked_code terms marks k c m = (
  known_marked terms marks k.first c.subject m.0,
  (
    known_marked terms marks k.second c.predicate m.1.0,
    (known_marked terms marks k.third c.object m.1.1.0, known_marked_graph terms marks k.fourth c.graph m.1.1.1),
  ),
)

pub all_used : (terms : List Term) (marks : List Bool) (codes : List Code) → AllByRecursion (IsCode terms) codes → AllByRecursion (AreMarked marks) codes
    → AllByRecursion (λ k. AllByRecursion (IsKnown (marked_terms terms marks)) (terms_of (decode terms k))) codes
all_used terms marks [] c m = tt
all_used terms marks (k ∷ ks) c m = (known_marked_code terms marks k c.0 m.0, all_used terms marks ks c.1 m.1)

-- ---- ranks in another dictionary

ranks_push : (terms others : List Term) (ranks : List ℕ) (t : Term) (rank : ℕ) → AreRanks terms others ranks → IsRankOf terms t rank → AreRanks terms (others ++ t ∷ []) (ranks ++ rank ∷ [])
ranks_push terms [] [] t rank a r = (r, tt)
ranks_push terms [] (x ∷ xs) t rank a r = absurd a
ranks_push terms (o ∷ os) [] t rank a r = absurd a
ranks_push terms (o ∷ os) (x ∷ xs) t rank a r = (a.0, ranks_push terms os xs t rank a.1 r)

pub ranks_more : (terms others : List Term) (ranks : List ℕ) (i : ℕ) (t : Term) (rank : ℕ) → i < length others → t ≡ get_or others i t
    → AreRanks terms (take i others) ranks → IsRankOf terms t rank → AreRanks terms (take (i + 1) others) (ranks ++ rank ∷ [])
ranks_more terms others ranks i t rank l is a r = subst (λ ts. AreRanks terms ts (ranks ++ rank ∷ [])) (sym (take_more others i t l ∙ ap (λ y. take i others ++ y ∷ []) (sym is)))
    (ranks_push terms (take i others) ranks t rank a r)

pub as_many_ranks : (terms others : List Term) (ranks : List ℕ) → AreRanks terms others ranks → length ranks ≡ length others
as_many_ranks terms [] [] a = refl
as_many_ranks terms [] (x ∷ xs) a = absurd a
as_many_ranks terms (o ∷ os) [] a = absurd a
as_many_ranks terms (o ∷ os) (x ∷ xs) a = ap suc (as_many_ranks terms os xs a.1)

rank_at : (terms others : List Term) (ranks : List ℕ) (i : ℕ) → AreRanks terms others ranks → i < length others → IsKnown terms (term_at others i)
    → (get_or ranks i 0 < length terms) × (term_at terms (get_or ranks i 0) ≡ term_at others i)
rank_at terms [] ranks i a l k = absurd (omega arith)
rank_at terms (o ∷ os) [] i a l k = absurd a
rank_at terms (o ∷ os) (x ∷ xs) zero a l k = a.0 k
rank_at terms (o ∷ os) (x ∷ xs) (suc i) a l k = rank_at terms os xs i a.1 (omega arith) k

graph_ranks_within : (n number : ℕ) → number ≤ n → AllByRecursion (λ rank. rank < n) (graph_ranks number)
graph_ranks_within n zero l = tt
graph_ranks_within n (suc rank) l = (omega arith, tt)

ranks_within : (terms : List Term) (k : Code) → IsCode terms k → AllByRecursion (λ rank. rank < length terms) (ranks_of k)
ranks_within terms k c = (c.subject, (c.predicate, (c.object, graph_ranks_within (length terms) k.fourth c.graph)))

-- the ranks in a code of the one dictionary have their places in the list
pub carry_within : (terms others : List Term) (ranks : List ℕ) (k : Code) → AreRanks terms others ranks → IsCode others k → AllByRecursion (λ rank. rank < length ranks) (ranks_of k)
carry_within terms others ranks k a c = subst (λ n. AllByRecursion (λ rank. rank < n) (ranks_of k)) (sym (as_many_ranks terms others ranks a)) (ranks_within others k c)

within_few : (n r : ℕ) → n < 2 ^ 32 - 1 → r < n → min (r + 1) (2 ^ 32 - 1) ≡ suc r
within_few n r f l = omega arith

carry_graph_at : (terms others : List Term) (ranks : List ℕ) (number : ℕ) → length terms < 2 ^ 32 - 1 → AreRanks terms others ranks → number ≤ length others
    → AllByRecursion (IsKnown terms) (graph_terms (graph_at others number))
    → (carry_graph ranks number ≤ length terms) × (graph_at terms (carry_graph ranks number) ≡ graph_at others number)
carry_graph_at terms others ranks zero f a l k = (omega arith, refl)
carry_graph_at terms others ranks (suc rank) f a l k =
    let at : (get_or ranks rank 0 < length terms) × (term_at terms (get_or ranks rank 0) ≡ term_at others rank) = rank_at terms others ranks rank a (omega arith) k.0 in
    let is : carry_graph ranks (suc rank) ≡ suc (get_or ranks rank 0) = within_few (length terms) (get_or ranks rank 0) f at.0 in
    (subst (λ n. n ≤ length terms) (sym is) (omega (arith, at.0)), ap (graph_at terms) is ∙ ap Named at.1)

carry_is : (terms others : List Term) (ranks : List ℕ) (k : Code) → length terms < 2 ^ 32 - 1 → AreRanks terms others ranks → IsCode others k
    → AllByRecursion (IsKnown terms) (terms_of (decode others k)) → IsCode terms (carry ranks k) × (decode terms (carry ranks k) ≡ decode others k)
carry_is terms others ranks k f a c known =
    let s = rank_at terms others ranks k.first a c.subject known.0 in
    let p = rank_at terms others ranks k.second a c.predicate known.1.0 in
    let o = rank_at terms others ranks k.third a c.object known.1.1.0 in
    let g = carry_graph_at terms others ranks k.fourth f a c.graph known.1.1.1 in (
      record {
        subject = s.0;
        predicate = p.0;
        object = o.0;
        graph = g.0;
        statement = subst (λ (x : Term). IsStatement x (term_at terms (get_or ranks k.second 0)) (graph_at terms (carry_graph ranks k.fourth))) (sym s.1)
            (subst (λ (x : Term). IsStatement (term_at others k.first) x (graph_at terms (carry_graph ranks k.fourth))) (sym p.1)
            (subst (λ (x : Graph). IsStatement (term_at others k.first) (term_at others k.second) x) (sym g.1) c.statement));
      },
      λ i. record { s = s.1 i; p = p.1 i; o = o.1 i; c = g.1 i },
    )

pub carried_codes : (terms others : List Term) (ranks : List ℕ) (codes : List Code) → length terms < 2 ^ 32 - 1 → AreRanks terms others ranks → AllByRecursion (IsCode others) codes
    → AllByRecursion (λ k. AllByRecursion (IsKnown terms) (terms_of (decode others k))) codes → AllByRecursion (IsCode terms) (map (carry ranks) codes)
carried_codes terms others ranks [] f a c known = tt
carried_codes terms others ranks (k ∷ ks) f a c known = ((carry_is terms others ranks k f a c.0 known.0).0, carried_codes terms others ranks ks f a c.1 known.1)

pub carried_quads : (terms others : List Term) (ranks : List ℕ) (codes : List Code) → length terms < 2 ^ 32 - 1 → AreRanks terms others ranks → AllByRecursion (IsCode others) codes
    → AllByRecursion (λ k. AllByRecursion (IsKnown terms) (terms_of (decode others k))) codes → map (decode terms) (map (carry ranks) codes) ≡ map (decode others) codes
carried_quads terms others ranks [] f a c known = refl
carried_quads terms others ranks (k ∷ ks) f a c known = λ i. (carry_is terms others ranks k f a c.0 known.0).1 i ∷ carried_quads terms others ranks ks f a c.1 known.1 i

-- ---- two dictionaries in one

known_left : (used more : List Term) (t : Term) → IsKnown used t → IsKnown (sorted_set term_cmp (used ++ more)) t
known_left used more t k = has-sorted_set term_total term_exact (used ++ more) t ∙ list_any-append (eq_by_cmp term_cmp t) used more ∙ ap (λ b. b || is_known more t) k

known_right : (used more : List Term) (t : Term) → IsKnown more t → IsKnown (sorted_set term_cmp (used ++ more)) t
known_right used more t k = has-sorted_set term_total term_exact (used ++ more) t ∙ list_any-append (eq_by_cmp term_cmp t) used more ∙ or_right (is_known used t) (is_known more t) k

pub still_used : (terms others used more : List Term) (codes : List Code) → terms ≡ sorted_set term_cmp (used ++ more)
    → AllByRecursion (λ k. AllByRecursion (IsKnown used) (terms_of (decode others k))) codes → AllByRecursion (λ k. AllByRecursion (IsKnown terms) (terms_of (decode others k))) codes
still_used terms others used more codes e a = each (λ k. AllByRecursion (IsKnown used) (terms_of (decode others k))) (λ k. AllByRecursion (IsKnown terms) (terms_of (decode others k))) codes
    (λ k. each (IsKnown used) (IsKnown terms) (terms_of (decode others k)) (λ t known. subst (λ ts. IsKnown ts t) (sym e) (known_left used more t known))) a

pub all_added : (terms used more : List Term) (quads : List Statement) → terms ≡ sorted_set term_cmp (used ++ more)
    → AllByRecursion (λ q. AllByRecursion (IsKnown more) (terms_of q)) quads → AllByRecursion (λ q. AllByRecursion (IsKnown terms) (terms_of q)) quads
all_added terms used more quads e a = each (λ q. AllByRecursion (IsKnown more) (terms_of q)) (λ q. AllByRecursion (IsKnown terms) (terms_of q)) quads
    (λ q. each (IsKnown more) (IsKnown terms) (terms_of q) (λ t known. subst (λ ts. IsKnown ts t) (sym e) (known_right used more t known))) a

-- the set of both codes is the set of both quads
pub joined_quads : (terms : List Term) (codes more : List Code) (kept added : List Statement) → IsStrictlySortedBy term_cmp terms → AllByRecursion (IsCode terms) codes → AllByRecursion (IsCode terms) more
    → map (decode terms) codes ≡ kept → map (decode terms) more ≡ added → map (decode terms) (sorted_set code_cmp (codes ++ more)) ≡ in_order (kept ++ added)
joined_quads terms codes more kept added s a b e f =
    decode-sorted_set terms s (codes ++ more) (all_both (IsCode terms) codes more a b)
    ∙ ap in_order (map-append (decode terms) codes more ∙ (λ i. e i ++ f i))
