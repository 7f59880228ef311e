-- Where a Commit has no clash, no delta since the Begin has a quad that was observed.
use Rattle.std.proofs.Common.{◌≡◌, ℕ, Bool, true, false, ◌&&◌, ◌||◌, List, [], ◌∷◌, ◌++◌, filter, refl, sym, ◌∙◌, ap, true≢false, cond}
use Rattle.std.specs.Prelude.{Some, None, find, slice_get}
use Rattle.std.specs.Option.{option_map}
use Rattle.std.specs.Ordering.{is_eq}
use Rattle.std.proofs.lemmas.Cmp.{tied_itself}
use Rattle.std.proofs.lemmas.List.Folds.{list_any-append}
use Rattle.rdf_term.specs.declared.pattern.Pattern.{Pattern}
use Rattle.rdf_term.specs.Statement.{Statement}
use Rattle.rdf_term.specs.Matching.{matches}
use Rattle.rdf_term.specs.Order.{quad_cmp}
use Rattle.rdf_term.specs.OrderLaws.{quad_total, quad_exact}
use Rattle.rdf_term.specs.Sets.{in_order}
use Rattle.rdf_term.proofs.SetLemmas.{has, has-sorted_set}
use Rattle.change_set.proofs.Contents.{has-filter}
use Rattle.journal.specs.declared.level.Level.TheVariants.{Serializable}
use Rattle.journal.specs.declared.txn.Txn.{Txn}
use Rattle.journal.specs.declared.ask.Ask.{Ask}
use Rattle.journal.specs.declared.op.Op.TheVariants.{Read}
use Rattle.journal.specs.declared.limits.Limits.{Limits}
use Rattle.journal.specs.LevelLaws.{txn_itself}
use Rattle.journal.specs.Past.{Judged, joined, joined_from}
use Rattle.journal.specs.Found.{one_matches, patterns_of}
use Rattle.journal.specs.Conflicts.{clash_at, clash_by_level, deltas_since, least, observed, observed_by, with_pattern}
use Rattle.journal.specs.Journal.{entry_of}
use Rattle.journal.proofs.Growth.{joined_from-append}

none_found : {B : Type 0} (g : Pattern → B) (ps : List Pattern) (q : Statement) → option_map g (find (λ p. matches p q) ps) ≡ None → one_matches ps q ≡ false
none_found g [] q e = refl
none_found g (p ∷ ps) q e = go (matches p q) (none_found g ps q) e
  where
    go : (b : Bool) → (option_map g (find (λ p. matches p q) ps) ≡ None → one_matches ps q ≡ false) → option_map g (cond b (Some p) (find (λ p. matches p q) ps)) ≡ None → (b || one_matches ps q) ≡ false
    go true ih e = cc
    go false ih e = ih e

second : (a b : Bool) → (a && b) ≡ true → b ≡ true
second true b e = e
second false b e = absurd (true≢false (sym e))

-- the first of a set is one of it
none_least : (ps : List Pattern) (D : List Statement) → with_pattern ps (least (filter (one_matches ps) D)) ≡ None → (q : Statement) → has quad_cmp (filter (one_matches ps) D) q ≡ false
none_least ps D e q = sym (has-sorted_set quad_total quad_exact F q) ∙ go (in_order F) refl e
  where
    F : List Statement
    F = filter (one_matches ps) D

    go : (L : List Statement) → in_order F ≡ L → with_pattern ps (slice_get L 0) ≡ None → has quad_cmp L q ≡ false
    go [] is e = refl
    go (y ∷ ys) is e =
        let self : is_eq (quad_cmp y y) ≡ true = ap is_eq (tied_itself quad_total y) in
        let there : has quad_cmp F y ≡ true = sym (has-sorted_set quad_total quad_exact F y) ∙ (ap (λ L. has quad_cmp L y) is ∙ ap (λ b. b || has quad_cmp ys y) self) in
        let pass : (has quad_cmp D y && one_matches ps y) ≡ true = sym (has-filter (one_matches ps) D y) ∙ there in
        absurd (true≢false (sym (second (has quad_cmp D y) (one_matches ps y) pass) ∙ none_found _ ps y e))

first : (a b : Bool) → b ≡ true → (a && b) ≡ false → a ≡ false
first true b e f = absurd (true≢false (sym e ∙ f))
first false b e f = refl

-- an observed quad is in no delta
pub no_clash : (limits : Limits) (p : List Judged) (t : Txn) → t.level ≡ Serializable → clash_at limits p t ≡ None → (q : Statement) → one_matches (observed limits p t) q ≡ true
    → has quad_cmp (deltas_since limits p t) q ≡ false
unfolding clash_at
no_clash limits p t level none q m =
    let D : List Statement = deltas_since limits p t in
    let ps : List Pattern = observed limits p t in
    first (has quad_cmp D q) (one_matches ps q) m
    (sym (has-filter (one_matches ps) D q) ∙ none_least ps D (sym (ap (λ l. clash_by_level l limits p t) level) ∙ none) q)

or_true : (b : Bool) → (b || true) ≡ true
or_true true = refl
or_true false = refl

-- the patterns of an accepted Read are observed from then on
pub read_observed : (limits : Limits) (before later : List Judged) (seat : ℕ) (t : Txn) (a : Ask) (q : Statement) → one_matches (patterns_of a) q ≡ true
    → one_matches (observed limits (before ++ record { entry = entry_of seat (Read (Some t) a); accepted = true } ∷ later) t) q ≡ true
unfolding observed
read_observed limits before later seat t a q m =
    let e : Judged = record { entry = entry_of seat (Read (Some t) a); accepted = true } in
    let f : List Judged → Judged → List Pattern = λ b e. cond e.accepted (observed_by limits b t e.entry.op) [] in
    let rest : List Pattern = joined_from (before ++ e ∷ []) f later in
    let here : f before e ≡ patterns_of a = ap (λ b. cond b (patterns_of a) []) (txn_itself t) in
    ap (λ ps. one_matches ps q) (joined_from-append [] f before (e ∷ later))
    ∙ (list_any-append (λ p. matches p q) (joined f before) (f before e ++ rest)
    ∙ (ap (λ b. one_matches (joined f before) q || b) (list_any-append (λ p. matches p q) (f before e) rest ∙ ap (λ b. b || one_matches rest q) (ap (λ ps. one_matches ps q) here ∙ m))
    ∙ or_true (one_matches (joined f before) q)))
