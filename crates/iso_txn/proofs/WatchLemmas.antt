-- How what is kept for SERIALIZABLE transactions grows by one entry, and what it says of a Commit.
use Rattle.std.proofs.Common.{◌≡◌, ℕ, ◌+◌, ◌<◌, ◌≤◌, min, Bool, true, false, not, ◌&&◌, ◌||◌, cond, List, [], ◌∷◌, ◌++◌, filter, Some, None, refl, sym, ap, subst, ◌∙◌, arith, append-nil, nat_eq, nat_lt, eqb-true, true≢false}
use Rattle.std.specs.Prelude.{Option, nat_le, slice_get}
use Rattle.std.specs.Option.{IsSome}
use Rattle.std.specs.List.{flat_map}
use Rattle.std.specs.Map.{set_value}
use Rattle.std.specs.BTreeMap.{insert_entry, is_at}
use Rattle.std.specs.Ordering.{eq_by_cmp, is_eq, match_ordering, nat_cmp}
use Rattle.std.specs.Cmp.{nat_eq_equiv, unsigned_tied}
use Rattle.std.specs.declared.cmp.Ordering.{Ordering}
use Rattle.std.specs.declared.cmp.Ordering.TheVariants.{Less, Equal, Greater}
use Rattle.std.proofs.lemmas.Bool.Decides.{nat_tests}
use Rattle.std.proofs.lemmas.List.Concat.{flat_map-append}
use Rattle.std.proofs.lemmas.List.Elements.{filter-append}
use Rattle.std.proofs.lemmas.List.Folds.{list_any-append}
use Rattle.std.proofs.lemmas.Map.Entries.{lookup-filter-keys}
use Rattle.rdf_term.specs.declared.pattern.Pattern.{Pattern}
use Rattle.rdf_term.specs.Statement.{Statement}
use Rattle.rdf_term.specs.Order.{quad_cmp}
use Rattle.rdf_term.specs.OrderLaws.{quad_total, quad_exact}
use Rattle.rdf_term.specs.Sets.{in_order}
use Rattle.rdf_term.proofs.SetLemmas.{has, has-sorted_set, sorted_set-is, sorted_set-same}
use Rattle.change_set.proofs.Contents.{has-filter, sorted-none}
use Rattle.iso_txn.specs.Watch.{AllBefore, Changed, changed_above, least_place, observed_in, oldest_or, quads_changed, without_reader}
use Rattle.iso_txn.proofs.WatchParts.{found_head}
use Rattle.journal.specs.Conflicts.{differing, is_in, least}

-- Sets of quads

same_has : (A B : List Statement) → in_order A ≡ in_order B → (q : Statement) → has quad_cmp A q ≡ has quad_cmp B q
same_has A B same q = sym (has-sorted_set quad_total quad_exact A q) ∙ (ap (λ quads. has quad_cmp quads q) same ∙ has-sorted_set quad_total quad_exact B q)

-- joined lists, of which the parts have the same quads
pub both_same : (A B D Q : List Statement) → in_order A ≡ in_order B → in_order D ≡ Q → in_order (A ++ D) ≡ in_order (B ++ Q)
both_same A B D Q same is =
    sorted_set-same quad_total quad_exact (A ++ D) (B ++ Q)
    (λ q. list_any-append (eq_by_cmp quad_cmp q) A D
    ∙ ((λ i. same_has A B same q i || (sym (has-sorted_set quad_total quad_exact D q) ∙ ap (λ quads. has quad_cmp quads q) is) i)
    ∙ sym (list_any-append (eq_by_cmp quad_cmp q) B Q)))

-- the least that passes a test
pub least_same : (test : Statement → Bool) (A B : List Statement) → in_order A ≡ in_order B → least (filter test A) ≡ least (filter test B)
least_same test A B same =
    ap (λ quads. slice_get quads 0)
    (sorted_set-same quad_total quad_exact (filter test A) (filter test B)
    (λ q. has-filter test A q ∙ ((λ i. same_has A B same q i && test q) ∙ sym (has-filter test B q))))

-- a content doesn't differ from itself
pub nothing_changed : (content : List Statement) → quads_changed content content ≡ []
nothing_changed content = sym (sorted_set-is quad_total quad_exact [] (differing content content) sorted-none none)
  where
    outside : List Statement
    outside = filter (λ q. not (is_in content q)) content

    never : (b : Bool) → false ≡ ((b && not b) || (b && not b))
    never true = refl
    never false = refl

    none : (q : Statement) → has quad_cmp [] q ≡ has quad_cmp (differing content content) q
    none q =
        never (has quad_cmp content q)
        ∙ sym (list_any-append (eq_by_cmp quad_cmp q) outside outside
        ∙ (λ i. has-filter (λ q. not (is_in content q)) content q i || has-filter (λ q. not (is_in content q)) content q i))

-- What entries changed

pub more_before : (m n : ℕ) → m ≤ n → (cs : List Changed) → AllBefore m cs → AllBefore n cs
more_before m n le [] h = tt
more_before m n le (c ∷ cs) h = (omega (arith, h.0), more_before m n le cs h.1)

pub before_more : (m n : ℕ) → m ≤ n → (cs : List Changed) (c : Changed) → AllBefore m cs → c.place < n → AllBefore n (cs ++ c ∷ [])
before_more m n le [] c h lt = (lt, tt)
before_more m n le (b ∷ cs) c h lt = (omega (arith, h.0), before_more m n le cs c h.1 lt)

pub before_filter : (n : ℕ) (test : Changed → Bool) (cs : List Changed) → AllBefore n cs → AllBefore n (filter test cs)
before_filter n test [] h = tt
before_filter n test (c ∷ cs) h = go (test c) (before_filter n test cs h.1)
  where
    go : (b : Bool) → AllBefore n (filter test cs) → AllBefore n (cond b (c ∷ filter test cs) (filter test cs))
    go true ih = (h.0, ih)
    go false ih = ih

-- none of them is above the last place
pub none_above : (n : ℕ) (cs : List Changed) → AllBefore (n + 1) cs → changed_above n cs ≡ []
none_above n [] h = refl
none_above n (c ∷ cs) h =
    let off : nat_lt n c.place ≡ false = (let lt = h.0 in grind (arith, nat_tests)) in
    ap (λ b. flat_map (λ (it : Changed). it.quads) (cond b (c ∷ filter (λ (it : Changed). nat_lt n it.place) cs) (filter (λ (it : Changed). nat_lt n it.place) cs))) off
    ∙ none_above n cs h.1

pub above_more : (n : ℕ) (cs : List Changed) (c : Changed) → n < c.place → changed_above n (cs ++ c ∷ []) ≡ changed_above n cs ++ c.quads
above_more n cs c lt =
    let on : nat_lt n c.place ≡ true = grind (arith, nat_tests) in
    let kept : Changed → Bool = λ it. nat_lt n it.place in
    let quads : Changed → List Statement = λ it. it.quads in
    ap (flat_map quads) (filter-append kept cs (c ∷ []) ∙ ap (λ b. filter kept cs ++ cond b (c ∷ []) []) on)
    ∙ (flat_map-append quads (filter kept cs) (c ∷ []) ∙ ap (λ r. changed_above n cs ++ r) (append-nil c.quads))

-- what is trimmed isn't above
pub above_trimmed : (n before : ℕ) → before ≤ n + 1 → (cs : List Changed) → changed_above n (filter (λ (it : Changed). nat_le before it.place) cs) ≡ changed_above n cs
above_trimmed n before le [] = refl
above_trimmed n before le (c ∷ cs) = go (nat_lt n c.place) (nat_le before c.place) refl refl (above_trimmed n before le cs)
  where
    kept : List Changed → List Changed
    kept xs = filter (λ (it : Changed). nat_lt n it.place) xs

    left : List Changed
    left = filter (λ (it : Changed). nat_le before it.place) cs

    join : List Changed → List Statement
    join xs = flat_map (λ (it : Changed). it.quads) xs

    go : (a b : Bool) → nat_lt n c.place ≡ a → nat_le before c.place ≡ b → join (kept left) ≡ join (kept cs)
        → join (kept (cond b (c ∷ left) left)) ≡ join (cond a (c ∷ kept cs) (kept cs))
    go true true above from ih = ap (λ b. join (cond b (c ∷ kept left) (kept left))) above ∙ ap (λ r. c.quads ++ r) ih
    go true false above from ih = absurd (true≢false (sym (let le = le in grind (arith, nat_tests, above)) ∙ from))
    go false true above from ih = ap (λ b. join (cond b (c ∷ kept left) (kept left))) above ∙ ih
    go false false above from ih = ih

-- Readers

equal : (a b : ℕ) → is_eq (nat_cmp a b) ≡ true → a ≡ b
equal a b is = eqb-true a b (sym (unsigned_tied a b) ∙ is)

apart : (n k m : ℕ) → is_eq (nat_cmp k m) ≡ false → nat_eq n k ≡ true → is_eq (nat_cmp n m) ≡ true → ⊥
apart n k m not_one is is_too = true≢false (sym is_too ∙ (ap (λ x. is_eq (nat_cmp x m)) (eqb-true n k is) ∙ not_one))

-- the look-up of a key at the head of a list, where the head has that key and where it has another one
same_head : {X : Type 0} (n k m : ℕ) (A B Z : Option X) → k ≡ m → cond (is_eq (nat_cmp n m)) B Z ≡ cond (nat_eq n k) B (cond (is_eq (nat_cmp n m)) A Z)
same_head n k m A B Z same = go (is_eq (nat_cmp n m)) ∙ ap (λ b. cond b B (cond (is_eq (nat_cmp n m)) A Z)) (unsigned_tied n m ∙ ap (nat_eq n) (sym same))
  where
    go : (b : Bool) → cond b B Z ≡ cond b B (cond b A Z)
    go true = refl
    go false = refl

other_head : {X : Type 0} (n k m : ℕ) (A B Z : Option X) → is_eq (nat_cmp k m) ≡ false → cond (is_eq (nat_cmp n m)) A (cond (nat_eq n k) B Z) ≡ cond (nat_eq n k) B (cond (is_eq (nat_cmp n m)) A Z)
other_head n k m A B Z not_one = go (is_eq (nat_cmp n m)) (nat_eq n k) refl refl
  where
    go : (a b : Bool) → is_eq (nat_cmp n m) ≡ a → nat_eq n k ≡ b → cond a A (cond b B Z) ≡ cond b B (cond a A Z)
    go true true there is = absurd (apart n k m not_one is there)
    go true false there is = refl
    go false b there is = refl

-- a new reader
pub found_inserted : (k : ℕ) (v : List Pattern) (es : List (ℕ × List Pattern)) (n : ℕ) → observed_in n (insert_entry nat_cmp es k v) ≡ cond (nat_eq n k) (Some v) (observed_in n es)
found_inserted k v [] n = ap (λ b. cond b (Some v) None) (unsigned_tied n k)
found_inserted k v (e ∷ es) n = go (nat_cmp k e.0) refl (found_inserted k v es n)
  where
    go : (o : Ordering) → nat_cmp k e.0 ≡ o → observed_in n (insert_entry nat_cmp es k v) ≡ cond (nat_eq n k) (Some v) (observed_in n es)
        → observed_in n (match_ordering o ((k, v) ∷ e ∷ es) ((e.0, v) ∷ es) (e ∷ insert_entry nat_cmp es k v)) ≡ cond (nat_eq n k) (Some v) (cond (is_eq (nat_cmp n e.0)) (Some e.1) (observed_in n es))
    go Less is ih = ap (λ b. cond b (Some v) (cond (is_eq (nat_cmp n e.0)) (Some e.1) (observed_in n es))) (unsigned_tied n k)
    go Equal is ih = same_head n k e.0 (Some e.1) (Some v) (observed_in n es) (equal k e.0 (ap is_eq is))
    go Greater is ih = ap (cond (is_eq (nat_cmp n e.0)) (Some e.1)) ih ∙ other_head n k e.0 (Some e.1) (Some v) (observed_in n es) (ap is_eq is)

-- a reader with other patterns
pub found_set : (k : ℕ) (v before : List Pattern) (es : List (ℕ × List Pattern)) (n : ℕ) → observed_in k es ≡ Some before
    → observed_in n (set_value (is_at (nat_cmp k)) es v) ≡ cond (nat_eq n k) (Some v) (observed_in n es)
found_set k v before [] n there = cc
found_set k v before (e ∷ es) n there = go (is_eq (nat_cmp k e.0)) refl (λ found. found_set k v before es n found) there
  where
    go : (b : Bool) → is_eq (nat_cmp k e.0) ≡ b → (observed_in k es ≡ Some before → observed_in n (set_value (is_at (nat_cmp k)) es v) ≡ cond (nat_eq n k) (Some v) (observed_in n es))
        → cond b (Some e.1) (observed_in k es) ≡ Some before → observed_in n (cond b ((e.0, v) ∷ es) (e ∷ set_value (is_at (nat_cmp k)) es v)) ≡ cond (nat_eq n k) (Some v) (cond (is_eq (nat_cmp n e.0)) (Some e.1) (observed_in n es))
    go true is rest there = same_head n k e.0 (Some e.1) (Some v) (observed_in n es) (equal k e.0 is)
    go false is rest there = ap (cond (is_eq (nat_cmp n e.0)) (Some e.1)) (rest there) ∙ other_head n k e.0 (Some e.1) (Some v) (observed_in n es) is

-- the readers without one
pub found_without : (k : ℕ) (es : List (ℕ × List Pattern)) (n : ℕ) → observed_in n (without_reader k es) ≡ cond (not (nat_eq n k)) (observed_in n es) None
found_without k es n =
    lookup-filter-keys (is_at (nat_cmp n)) (λ m. not (eq_by_cmp nat_cmp k m)) (not (nat_eq n k))
    (λ m is. ap not (unsigned_tied k m ∙ (ap (nat_eq k) (sym (equal n m is)) ∙ nat_eq_equiv.symm k n))) es

-- The oldest reader

least_le : (k : ℕ) (es : List (ℕ × List Pattern)) → least_place k es ≤ k
least_le k [] = omega arith
least_le k (e ∷ es) = let ih = least_le (min k e.0) es in omega (arith, ih)

found_at : (n : ℕ) (e : ℕ × List Pattern) (es : List (ℕ × List Pattern)) (m : ℕ) → m ≤ e.0 → (IsSome (observed_in n es) → m ≤ n) → IsSome (observed_in n (e ∷ es)) → m ≤ n
found_at n e es m le rest = go (is_eq (nat_cmp n e.0)) refl
  where
    go : (b : Bool) → is_eq (nat_cmp n e.0) ≡ b → IsSome (cond b (Some e.1) (observed_in n es)) → m ≤ n
    go true is there = subst (λ x. m ≤ x) (sym (equal n e.0 is)) le
    go false is there = rest there

least_found : (k n : ℕ) (es : List (ℕ × List Pattern)) → IsSome (observed_in n es) → least_place k es ≤ n
least_found k n [] there = absurd (true≢false (sym there))
least_found k n (e ∷ es) there =
    found_at n e es (least_place (min k e.0) es) (let le = least_le (min k e.0) es in omega (arith, le)) (least_found (min k e.0) n es) there

-- it is at most each reader's place
pub oldest_le : (place n : ℕ) (es : List (ℕ × List Pattern)) → IsSome (observed_in n es) → oldest_or place es ≤ n
oldest_le place n [] there = absurd (true≢false (sym there))
oldest_le place n (e ∷ es) there = found_at n e es (least_place e.0 es) (least_le e.0 es) (least_found e.0 n es) there

pub oldest_below : (m : ℕ) (es : List (ℕ × List Pattern)) → ((n : ℕ) → IsSome (observed_in n es) → n < m) → oldest_or m es ≤ m
oldest_below m [] h = omega arith
oldest_below m (e ∷ es) h = let le = least_le e.0 es in let lt = h e.0 (found_head e es) in omega (arith, le, lt)
