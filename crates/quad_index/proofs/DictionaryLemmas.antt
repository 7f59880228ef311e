-- Terms and their ranks.
use Rattle.std.proofs.Common.{◌≡◌, ℕ, suc, ◌+◌, ◌<◌, ◌≤◌, Bool, true, false, ◌||◌, ◌&&◌, cond, leb, List, [], ◌∷◌, ◌++◌, length, get_or, map, take, drop, add-one, drop-cons, fold, refl, sym, ap, ◌∙◌, ◌⊎◌, inl, inr, arith}
use Rattle.std.specs.List.{list_any, flat_map, AllByRecursion}
use Rattle.std.specs.List.Sorted.{IsStrictlySortedBy}
use Rattle.std.specs.Ordering.{eq_by_cmp, is_eq, nat_cmp}
use Rattle.std.specs.BTreeSet.{insert_key}
use Rattle.std.specs.declared.cmp.Ordering.{Ordering}
use Rattle.std.specs.declared.cmp.Ordering.TheVariants.{Less, Equal, Greater}
use Rattle.std.proofs.lemmas.Bool.{cases_order, le-leb, lt-leb, and_left, and_right}
use Rattle.std.proofs.lemmas.List.{take_more, map-append}
use Rattle.std.proofs.lemmas.List.Sums.{fold-append}
use Rattle.std.proofs.lemmas.List.Folds.{list_any-append}
use Rattle.rdf_term.specs.declared.term.Term.{Term}
use Rattle.rdf_term.specs.declared.graph.Graph.{Graph}
use Rattle.rdf_term.specs.Statement.{Statement}
use Rattle.rdf_term.specs.Order.{term_cmp, graph_cmp}
use Rattle.rdf_term.specs.OrderLaws.{term_total, term_exact, graph_exact}
use Rattle.rdf_term.specs.Sets.{sorted_set}
use Rattle.rdf_term.proofs.SetLemmas.{sorted_set-same}
use Rattle.quad_index.specs.declared.code.Code.{Code}
use Rattle.quad_index.specs.Codes.{term_at, graph_at, decode, is_between, graph_terms, terms_of, unless_same, unless_same_graph, new_terms}
use Rattle.quad_index.proofs.CodeLemmas.{rank_cmp, number_cmp, cmp_below, cmp_above, cmp_same}

-- ---- the terms of quads

-- the terms of quads behind another one, each quad without what it shares with the one before it
abbrev pub noted_after : Statement → List Statement → List Term
noted_after b [] = []
noted_after b (q ∷ qs) = new_terms b q ++ noted_after q qs

-- a part of a chain of tests may be left out where the same test stands before it
spared : (b c d e x y o z x' y' z' rest : Bool) → (b ≡ false → x' ≡ x) → (c ≡ false → y' ≡ y) → (e ≡ false → z' ≡ z)
    → (b || (c || (d || (e || (x' || (y' || (o || (z' || rest)))))))) ≡ (b || (c || (d || (e || (x || (y || (o || (z || rest))))))))
spared true c d e x y o z x' y' z' rest f g h = refl
spared false true d e x y o z x' y' z' rest f g h = refl
spared false false true e x y o z x' y' z' rest f g h = refl
spared false false false true x y o z x' y' z' rest f g h = refl
spared false false false false x y o z x' y' z' rest f g h = λ i. f refl i || (g refl i || (o || (h refl i || rest)))

or_none : (a : Bool) → (a || false) ≡ a
or_none true = refl
or_none false = refl

spared_term : (b q t : Term) → eq_by_cmp term_cmp t b ≡ false → list_any (eq_by_cmp term_cmp t) (unless_same b q) ≡ eq_by_cmp term_cmp t q
spared_term b q t e = at (term_cmp q b) refl
  where
    at : (r : Ordering) → term_cmp q b ≡ r → list_any (eq_by_cmp term_cmp t) (cond (is_eq r) [] (q ∷ [])) ≡ eq_by_cmp term_cmp t q
    at Less h = or_none (eq_by_cmp term_cmp t q)
    at Equal h = sym (ap (eq_by_cmp term_cmp t) (term_exact q b h) ∙ e)
    at Greater h = or_none (eq_by_cmp term_cmp t q)

spared_graph : (b q : Graph) (t : Term) → list_any (eq_by_cmp term_cmp t) (graph_terms b) ≡ false
    → list_any (eq_by_cmp term_cmp t) (unless_same_graph b q) ≡ list_any (eq_by_cmp term_cmp t) (graph_terms q)
spared_graph b q t e = at (graph_cmp q b) refl
  where
    at : (r : Ordering) → graph_cmp q b ≡ r → list_any (eq_by_cmp term_cmp t) (cond (is_eq r) [] (graph_terms q)) ≡ list_any (eq_by_cmp term_cmp t) (graph_terms q)
    at Less h = refl
    at Equal h = sym (ap (λ g. list_any (eq_by_cmp term_cmp t) (graph_terms g)) (graph_exact q b h) ∙ e)
    at Greater h = refl

-- whether a term is among a quad's, and among others
with_quad : (t : Term) (q : Statement) (others : List Term)
    → list_any (eq_by_cmp term_cmp t) (terms_of q ++ others) ≡ (eq_by_cmp term_cmp t q.s || (eq_by_cmp term_cmp t q.p || (eq_by_cmp term_cmp t q.o
    || (list_any (eq_by_cmp term_cmp t) (graph_terms q.c) || list_any (eq_by_cmp term_cmp t) others))))
with_quad t q others = ap (λ b. eq_by_cmp term_cmp t q.s || (eq_by_cmp term_cmp t q.p || (eq_by_cmp term_cmp t q.o || b)))
    (list_any-append (eq_by_cmp term_cmp t) (graph_terms q.c) others)

with_new : (t : Term) (b q : Statement) (others : List Term)
    → list_any (eq_by_cmp term_cmp t) (new_terms b q ++ others) ≡ (list_any (eq_by_cmp term_cmp t) (unless_same b.s q.s) || (list_any (eq_by_cmp term_cmp t) (unless_same b.p q.p) || (eq_by_cmp term_cmp t q.o
    || (list_any (eq_by_cmp term_cmp t) (unless_same_graph b.c q.c) || list_any (eq_by_cmp term_cmp t) others))))
with_new t b q others =
    list_any-append (eq_by_cmp term_cmp t) (new_terms b q) others
    ∙ (λ i. list_any-append (eq_by_cmp term_cmp t) (unless_same b.s q.s ++ unless_same b.p q.p) (q.o ∷ unless_same_graph b.c q.c) i || list_any (eq_by_cmp term_cmp t) others)
    ∙ (λ i. (list_any-append (eq_by_cmp term_cmp t) (unless_same b.s q.s) (unless_same b.p q.p) i || list_any (eq_by_cmp term_cmp t) (q.o ∷ unless_same_graph b.c q.c)) || list_any (eq_by_cmp term_cmp t) others)
    ∙ regroup (list_any (eq_by_cmp term_cmp t) (unless_same b.s q.s)) (list_any (eq_by_cmp term_cmp t) (unless_same b.p q.p)) (eq_by_cmp term_cmp t q.o)
    (list_any (eq_by_cmp term_cmp t) (unless_same_graph b.c q.c)) (list_any (eq_by_cmp term_cmp t) others)
  where
    regroup : (v w x y z : Bool) → (((v || w) || (x || y)) || z) ≡ (v || (w || (x || (y || z))))
    regroup true w x y z = refl
    regroup false true x y z = refl
    regroup false false true y z = refl
    regroup false false false y z = refl

-- what is left out is there already
noted_same : (t : Term) (b : Statement) (qs : List Statement)
    → list_any (eq_by_cmp term_cmp t) (terms_of b ++ noted_after b qs) ≡ list_any (eq_by_cmp term_cmp t) (terms_of b ++ flat_map terms_of qs)
noted_same t b [] = refl
noted_same t b (q ∷ qs) =
    with_quad t b (noted_after b (q ∷ qs))
    ∙ (λ i. eq_by_cmp term_cmp t b.s || (eq_by_cmp term_cmp t b.p || (eq_by_cmp term_cmp t b.o || (list_any (eq_by_cmp term_cmp t) (graph_terms b.c) || with_new t b q (noted_after q qs) i))))
    ∙ spared (eq_by_cmp term_cmp t b.s) (eq_by_cmp term_cmp t b.p) (eq_by_cmp term_cmp t b.o) (list_any (eq_by_cmp term_cmp t) (graph_terms b.c))
    (eq_by_cmp term_cmp t q.s) (eq_by_cmp term_cmp t q.p) (eq_by_cmp term_cmp t q.o) (list_any (eq_by_cmp term_cmp t) (graph_terms q.c))
    (list_any (eq_by_cmp term_cmp t) (unless_same b.s q.s)) (list_any (eq_by_cmp term_cmp t) (unless_same b.p q.p)) (list_any (eq_by_cmp term_cmp t) (unless_same_graph b.c q.c))
    (list_any (eq_by_cmp term_cmp t) (noted_after q qs))
    (spared_term b.s q.s t) (spared_term b.p q.p t) (spared_graph b.c q.c t)
    ∙ (λ i. eq_by_cmp term_cmp t b.s || (eq_by_cmp term_cmp t b.p || (eq_by_cmp term_cmp t b.o || (list_any (eq_by_cmp term_cmp t) (graph_terms b.c) || (sym (with_quad t q (noted_after q qs)) ∙ noted_same t q qs) i))))
    ∙ sym (with_quad t b (flat_map terms_of (q ∷ qs)))

-- so the terms noted are those of the quads
pub noted_is : (quads : List Statement) (q : Statement) (rest : List Statement) → quads ≡ q ∷ rest
    → sorted_set term_cmp (terms_of q ++ noted_after q rest) ≡ sorted_set term_cmp (flat_map terms_of quads)
noted_is quads q rest e = sorted_set-same term_total term_exact (terms_of q ++ noted_after q rest) (terms_of q ++ flat_map terms_of rest) (λ t. noted_same t q rest) ∙ ap (λ qs. sorted_set term_cmp (flat_map terms_of qs)) (sym e)

-- ---- a quad more

pub noted_first : (seen : List Term) (q : Statement) (rest : List Statement) → seen ≡ fold (insert_key term_cmp) [] (terms_of q)
    → fold (insert_key term_cmp) seen (noted_after q rest) ≡ sorted_set term_cmp (terms_of q ++ noted_after q rest)
noted_first seen q rest e = ap (λ start. fold (insert_key term_cmp) start (noted_after q rest)) e
    ∙ sym (fold-append (insert_key term_cmp) [] (terms_of q) (noted_after q rest))

pub noted_more : (b q : Statement) (rest : List Statement) (i : ℕ) (seen next all : List Term) → i < length rest → q ≡ get_or rest i q
    → next ≡ fold (insert_key term_cmp) seen (new_terms b q) → fold (insert_key term_cmp) seen (noted_after b (drop i rest)) ≡ all
    → fold (insert_key term_cmp) next (noted_after q (drop (i + 1) rest)) ≡ all
noted_more b q rest i seen next all l is e f =
    ap (λ start. fold (insert_key term_cmp) start (noted_after q (drop (i + 1) rest))) e
    ∙ sym (fold-append (insert_key term_cmp) seen (new_terms b q) (noted_after q (drop (i + 1) rest)))
    ∙ ap (λ qs. fold (insert_key term_cmp) seen (noted_after b qs)) (sym (split i rest l is))
    ∙ f
  where
    split : (i : ℕ) (rest : List Statement) → i < length rest → q ≡ get_or rest i q → drop i rest ≡ q ∷ drop (i + 1) rest
    split i rest l is = rw (add-one, drop-cons rest i q) (ap (λ x. x ∷ drop (suc i) rest) (sym is))

-- ---- what a part of a pattern picks

between_same : (r i : ℕ) → is_between r r i ≡ is_eq (nat_cmp r i)
between_same r i = at (cases_order r i)
  where
    at : (r ≡ i) ⊎ ((r < i) ⊎ (i < r)) → is_between r r i ≡ is_eq (nat_cmp r i)
    at (inl e) = (λ k. le-leb r i (omega arith) k && le-leb i r (omega arith) k) ∙ sym (ap is_eq (cmp_same r i e))
    at (inr (inl l)) = and_right (leb r i) (leb i r) (lt-leb i r l) ∙ sym (ap is_eq (cmp_below r i l))
    at (inr (inr l)) = and_left (leb r i) (leb i r) (lt-leb r i l) ∙ sym (ap is_eq (cmp_above r i l))

pub span_is : (terms : List Term) (rank : ℕ) (t : Term) → IsStrictlySortedBy term_cmp terms → rank < length terms → term_at terms rank ≡ t
    → (i : ℕ) → i < length terms → is_between rank rank i ≡ eq_by_cmp term_cmp t (term_at terms i)
span_is terms rank t s l e i b = between_same rank i ∙ ap is_eq (sym (rank_cmp terms rank i s l b)) ∙ ap (λ u. eq_by_cmp term_cmp u (term_at terms i)) e

pub graph_span_is : (terms : List Term) (number : ℕ) (g : Graph) → IsStrictlySortedBy term_cmp terms → number ≤ length terms → graph_at terms number ≡ g
    → (i : ℕ) → i ≤ length terms → is_between number number i ≡ eq_by_cmp graph_cmp g (graph_at terms i)
graph_span_is terms number g s l e i b = between_same number i ∙ ap is_eq (sym (number_cmp terms number i s l b)) ∙ ap (λ h. eq_by_cmp graph_cmp h (graph_at terms i)) e

-- ---- codes one by one

pub all-append : {X : Type 0} (P : X → Type 0) (xs : List X) (x : X) → AllByRecursion P xs → P x → AllByRecursion P (xs ++ x ∷ [])
all-append P [] x a p = (p, tt)
all-append P (y ∷ ys) x a p = (a.0, all-append P ys x a.1 p)

pub decoded_more : (terms : List Term) (codes : List Code) (k : Code) (quads : List Statement) (i : ℕ) (q : Statement) → i < length quads → q ≡ get_or quads i q
    → map (decode terms) codes ≡ take i quads → decode terms k ≡ q → map (decode terms) (codes ++ k ∷ []) ≡ take (i + 1) quads
decoded_more terms codes k quads i q l is e f =
    map-append (decode terms) codes (k ∷ []) ∙ (λ j. e j ++ (f ∙ is) j ∷ []) ∙ sym (take_more quads i q l)
