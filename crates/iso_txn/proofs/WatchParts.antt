-- What is kept for SERIALIZABLE transactions, in the words of the map and the log that hold it.
use Rattle.std.proofs.Common.{◌≡◌, ℕ, ◌+◌, ◌≤◌, min, max, Bool, true, false, not, cond, List, [], ◌∷◌, ◌++◌, map, filter, Some, None, refl, sym, ap, ◌∙◌, arith, is_gt}
use Rattle.std.specs.Prelude.{Option, Result, Ok, Err, OnErr, nat_le, nat_lt, slice_get}
use Rattle.std.specs.Option.{IsSome, is_some}
use Rattle.std.specs.List.{AllByRecursion, flat_map}
use Rattle.std.specs.List.Sorted.{IsStrictlySortedBy}
use Rattle.std.specs.Map.{keys_of, remove_entry}
use Rattle.std.specs.BTreeMap.{is_at}
use Rattle.std.specs.Ordering.{eq_by_cmp, is_eq, nat_cmp}
use Rattle.std.specs.Cmp.{nat_cmp_total, tied_itself}
use Rattle.std.specs.declared.cmp.Ordering.{Ordering}
use Rattle.std.specs.declared.cmp.Ordering.TheVariants.{Less, Equal, Greater}
use Rattle.std.proofs.lemmas.Map.Keys.{sorted_head, sorted_tail, le_from_not_gt}
use Rattle.std.proofs.lemmas.Map.Lookups.{exact_unsigned}
use Rattle.rdf_term.specs.declared.pattern.Pattern.{Pattern}
use Rattle.rdf_term.specs.Statement.{Statement}
use Rattle.change_set.specs.Content.{named_quads}
use Rattle.journal.specs.declared.txn.Txn.{Txn}
use Rattle.conflict.specs.Logs.{AllBelow, LoggedDelta}
use Rattle.conflict.specs.Clashes as logged
use Rattle.journal.specs.Conflicts as journaled
use Rattle.iso_txn.specs.Watch.{AllBefore, Changed, Watch, changed_above, clash_among, is_serializable, least_place, observed_in, oldest_or, trimmed_to, watch_ended, watched_clash, without_reader}

-- what is true anyway is so where there is an error
pub anyway : {T E : Type 0} (r : Result T E) (P : Type 0) → P → OnErr r P
anyway (Ok x) P p = tt
anyway (Err e) P p = p

-- a kept delta, as it is seen here
abbrev pub changed_by : LoggedDelta → Changed
changed_by delta = record { place = delta.place; quads = named_quads delta.changes }

-- places that are above all kept ones
pub all_below : (place : ℕ) (kept : List LoggedDelta) → AllBefore place (map changed_by kept) → AllBelow place kept
all_below place [] h = tt
all_below place (delta ∷ kept) h = (h.0, all_below place kept h.1)

-- the kept deltas from a place on
pub kept_from : (before : ℕ) (kept : List LoggedDelta)
    → map changed_by (filter (λ (it : LoggedDelta). nat_le before it.place) kept) ≡ filter (λ (it : Changed). nat_le before it.place) (map changed_by kept)
kept_from before [] = refl
kept_from before (delta ∷ kept) = go (nat_le before delta.place) (kept_from before kept)
  where
    go : (b : Bool) → map changed_by (filter (λ (it : LoggedDelta). nat_le before it.place) kept) ≡ filter (λ (it : Changed). nat_le before it.place) (map changed_by kept)
        → map changed_by (cond b (delta ∷ filter (λ (it : LoggedDelta). nat_le before it.place) kept) (filter (λ (it : LoggedDelta). nat_le before it.place) kept))
        ≡ cond b (changed_by delta ∷ filter (λ (it : Changed). nat_le before it.place) (map changed_by kept)) (filter (λ (it : Changed). nat_le before it.place) (map changed_by kept))
    go true ih = ap (λ r. changed_by delta ∷ r) ih
    go false ih = ih

-- the quads that they name above a place
pub quads_above_is : (from : ℕ) (kept : List LoggedDelta) → logged.quads_above from kept ≡ changed_above from (map changed_by kept)
quads_above_is from [] = refl
quads_above_is from (delta ∷ kept) = go (nat_lt from delta.place) (quads_above_is from kept)
  where
    rest : List LoggedDelta
    rest = filter (λ (it : LoggedDelta). nat_lt from it.place) kept

    go : (b : Bool) → logged.quads_above from kept ≡ changed_above from (map changed_by kept)
        → flat_map (λ (it : LoggedDelta). named_quads it.changes) (cond b (delta ∷ rest) rest)
        ≡ flat_map (λ (it : Changed). it.quads) (cond b (changed_by delta ∷ filter (λ (it : Changed). nat_lt from it.place) (map changed_by kept)) (filter (λ (it : Changed). nat_lt from it.place) (map changed_by kept)))
    go true ih = ap (λ r. named_quads delta.changes ++ r) ih
    go false ih = ih

-- the two words for a quad with its pattern say the same
same_pattern : (patterns : List Pattern) (found : Option Statement) → logged.with_pattern patterns found ≡ journaled.with_pattern patterns found
same_pattern patterns None = refl
same_pattern patterns (Some q) = refl

-- the clash of a watched transaction
pub clash_is : (w : Watch) (t : Txn) (kept : List LoggedDelta) (patterns : List Pattern) → is_serializable t ≡ true → observed_in t.place w.readers ≡ Some patterns → map changed_by kept ≡ w.changed
    → logged.clash_above t.place kept patterns ≡ watched_clash w t
clash_is w t kept patterns level observes is =
    same_pattern patterns (logged.least_observed patterns (logged.quads_above t.place kept))
    ∙ (ap (λ quads. clash_among (Some patterns) quads) (quads_above_is t.place kept ∙ ap (changed_above t.place) is)
    ∙ (ap (λ o. clash_among o (changed_above t.place w.changed)) (sym observes)
    ∙ ap (λ b. cond b (clash_among (observed_in t.place w.readers) (changed_above t.place w.changed)) None) (sym level)))

-- a transaction that isn't watched has none
pub no_clash : (w : Watch) (t : Txn) → observed_in t.place w.readers ≡ None → None ≡ watched_clash w t
no_clash w t absent = go (is_serializable t) ∙ ap (λ o. cond (is_serializable t) (clash_among o (changed_above t.place w.changed)) None) (sym absent)
  where
    go : (b : Bool) → None ≡ cond b (clash_among None (changed_above t.place w.changed)) None
    go true = refl
    go false = refl

-- The oldest Begin

min_is : (a b : ℕ) → a ≤ b → min a b ≡ a
min_is a b le = omega (arith, le)

abbrev IsLeast : ℕ → List (ℕ × List Pattern) → Type 0
IsLeast k es = (q : ℕ) → IsSome (observed_in q es) → is_gt (nat_cmp k q) ≡ false

pub found_head : (e : ℕ × List Pattern) (es : List (ℕ × List Pattern)) → IsSome (observed_in e.0 (e ∷ es))
found_head e es = ap (λ b. is_some (cond b (Some e.1) (observed_in e.0 es))) (ap is_eq (tied_itself nat_cmp_total e.0))

found_tail : (e : ℕ × List Pattern) (es : List (ℕ × List Pattern)) (q : ℕ) → IsSome (observed_in q es) → IsSome (observed_in q (e ∷ es))
found_tail e es q there = go (is_eq (nat_cmp q e.0))
  where
    go : (b : Bool) → IsSome (cond b (Some e.1) (observed_in q es))
    go true = refl
    go false = there

least_is : (k : ℕ) (es : List (ℕ × List Pattern)) → IsLeast k es → least_place k es ≡ k
least_is k [] h = refl
least_is k (e ∷ es) h =
    ap (λ m. least_place m es) (min_is k e.0 (le_from_not_gt k e.0 (h e.0 (found_head e es))))
    ∙ least_is k es (λ q there. h q (found_tail e es q there))

pub oldest_is : (place : ℕ) (es : List (ℕ × List Pattern)) (k : ℕ) (v : List Pattern) → slice_get es 0 ≡ Some (k, v) → IsLeast k es → k ≡ oldest_or place es
oldest_is place [] k v first h = cc
oldest_is place (e ∷ es) k v first h =
    let same : e ≡ (k, v) = cc in
    sym (ap (λ (p : ℕ × List Pattern). least_place p.0 es) same ∙ least_is k es (λ q there. h q (found_tail e es q there)))

pub oldest_none : (place : ℕ) (es : List (ℕ × List Pattern)) → es ≡ [] → place ≡ oldest_or place es
oldest_none place es none = sym (ap (oldest_or place) none)

-- The end of a transaction

none_later : (a k : ℕ) (es : List (ℕ × List Pattern)) → a ≡ k → AllByRecursion (λ y. nat_cmp k y ≡ Less) (keys_of es) → es ≡ without_reader a es
none_later a k [] same h = refl
none_later a k (e ∷ es) same h =
    let apart : eq_by_cmp nat_cmp a e.0 ≡ false = ap (λ x. is_eq (nat_cmp x e.0)) same ∙ ap is_eq h.0 in
    ap (λ r. e ∷ r) (none_later a k es same h.1) ∙ ap (λ b. cond (not b) (e ∷ without_reader a es) (without_reader a es)) (sym apart)

equal : (o : Ordering) → is_eq o ≡ true → o ≡ Equal
equal Less is = cc
equal Equal is = refl
equal Greater is = cc

removed_is : (a : ℕ) (es : List (ℕ × List Pattern)) → IsStrictlySortedBy nat_cmp (keys_of es) → remove_entry (is_at (nat_cmp a)) es ≡ without_reader a es
removed_is a [] s = refl
removed_is a (e ∷ es) s = go (eq_by_cmp nat_cmp a e.0) refl (removed_is a es (sorted_tail nat_cmp e.0 (keys_of es) s))
  where
    go : (b : Bool) → eq_by_cmp nat_cmp a e.0 ≡ b → remove_entry (is_at (nat_cmp a)) es ≡ without_reader a es
        → cond b es (e ∷ remove_entry (is_at (nat_cmp a)) es) ≡ cond (not b) (e ∷ without_reader a es) (without_reader a es)
    go true is ih = none_later a e.0 es (exact_unsigned a e.0 (equal (nat_cmp a e.0) is)) (sorted_head nat_cmp e.0 (keys_of es) s)
    go false is ih = ap (λ r. e ∷ r) ih

pub ended_is : (place : ℕ) (t : Txn) (rs rs' : List (ℕ × List Pattern)) (kept kept' : List LoggedDelta) (trimmed trimmed' before : ℕ) → is_serializable t ≡ true
    → IsStrictlySortedBy nat_cmp (keys_of rs) → rs' ≡ remove_entry (is_at (nat_cmp t.place)) rs → before ≡ oldest_or (place + 1) rs'
    → kept' ≡ filter (λ (it : LoggedDelta). nat_le before it.place) kept → trimmed' ≡ max trimmed before
    → (let left : Watch = record { readers = rs'; changed = map changed_by kept'; trimmed = trimmed' } in left)
    ≡ watch_ended place t (record { readers = rs; changed = map changed_by kept; trimmed = trimmed })
ended_is place t rs rs' kept kept' trimmed trimmed' before level s removed oldest keeps most =
    let w : Watch = record { readers = rs; changed = map changed_by kept; trimmed = trimmed } in
    let without : rs' ≡ without_reader t.place rs = removed ∙ removed_is t.place rs s in
    let from : before ≡ oldest_or (place + 1) (without_reader t.place rs) = oldest ∙ ap (oldest_or (place + 1)) without in
    (λ i. record { readers = without i; changed = (ap (map changed_by) keeps ∙ kept_from before kept) i; trimmed = most i })
    ∙ (ap (λ b. trimmed_to b (record w { readers = without_reader t.place rs })) from
    ∙ ap (λ b. cond b (trimmed_to (oldest_or (place + 1) (without_reader t.place rs)) (record w { readers = without_reader t.place rs })) w) (sym level))
