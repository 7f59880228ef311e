-- Journals that grow by the entries at marks alone.
use Rattle.std.proofs.Common.{◌≡◌, ℕ, zero, suc, ◌+◌, ◌<◌, ◌==◌, Bool, true, false, true≢false, ◌&&◌, IsTrue, if◌then◌else◌, List, [], ◌∷◌, ◌++◌, length, map, Some, slice_get, refl, sym, ◌∙◌, ap, subst, append_assoc, append-nil, length-append, arith}
use Rattle.std.specs.List.{list_all}
use Rattle.std.proofs.lemmas.Bool.{eqb-true, eq-eqb}
use Rattle.std.proofs.lemmas.List.Folds.{list_all-append}
use Rattle.std.proofs.lemmas.Option.{same_Some}
use Rattle.journal.specs.declared.entry.Entry.{Entry}
use Rattle.journal.specs.declared.entry.Mark.{Mark}
use Rattle.repo_store.specs.Stores.{is_of_one_seat}
use Rattle.session.specs.Marks.{Journals, AllGrowBy, Goes, GrowsBy, Moves, mark_at, places_from, places_in, places_of}
use Rattle.session.specs.Turns.{StandAt}
use Rattle.session.proofs.MarkLemmas.{places_in_more}

-- Entries of one seat

pub first_true : (a b : Bool) → (a && b) ≡ true → a ≡ true
first_true true b e = refl
first_true false b e = e

pub second_true : (a b : Bool) → (a && b) ≡ true → b ≡ true
second_true true b e = e
second_true false b e = absurd (true≢false (sym e))

places_of_all : (at : ℕ) (es : List Entry) → IsTrue (is_of_one_seat 0 es) → places_of 0 at es ≡ places_from at (length es)
places_of_all at [] h = refl
places_of_all at (e ∷ es) h =
    go (e.seat == 0) (first_true (e.seat == 0) (is_of_one_seat 0 es) h) (places_of_all (suc at) es (second_true (e.seat == 0) (is_of_one_seat 0 es) h)) where
      go : (b : Bool) → b ≡ true → places_of 0 (suc at) es ≡ places_from (suc at) (length es)
          → (if b then at ∷ places_of 0 (suc at) es else places_of 0 (suc at) es) ≡ at ∷ places_from (suc at) (length es)
      go true t behind = ap (λ (z : List ℕ). at ∷ z) behind
      go false t behind = absurd (true≢false (sym t))

-- where all entries are of the seat 0, the journals grow by those at the marks alone
pub grow_alone : (old new : Journals) (marks : List Mark) → Moves (λ (repo : ℕ). 0) old new marks → ((repo : ℕ) → IsTrue (is_of_one_seat 0 (new repo)))
    → AllGrowBy old new marks
grow_alone old new marks moves own = λ repo. one repo (moves repo) (own repo) where
  one : (repo : ℕ) → Goes 0 (old repo) (new repo) (places_in repo marks) → IsTrue (is_of_one_seat 0 (new repo)) → GrowsBy (old repo) (new repo) (places_in repo marks)
  one repo g h =
      let all : IsTrue (is_of_one_seat 0 (old repo ++ g.more)) = subst (λ (z : List Entry). IsTrue (is_of_one_seat 0 z)) g.begins h in
      let both = sym (list_all-append (λ (e : Entry). e.seat == 0) (old repo) g.more) ∙ all in
      let mine = second_true (is_of_one_seat 0 (old repo)) (is_of_one_seat 0 g.more) both in
      record { more = g.more; begins = g.begins; all = sym g.own ∙ places_of_all (length (old repo)) g.more mine }

-- Places, one after another

no_place : (k : ℕ) (ks : List ℕ) → k ∷ ks ≡ [] → ⊥
no_place k ks e = cc

pub last_below : (at n : ℕ) (before : List ℕ) (last : ℕ) → places_from at n ≡ before ++ last ∷ [] → last < at + n
last_below at zero [] last e = absurd (no_place last [] (sym e))
last_below at zero (k ∷ before) last e = absurd (no_place k (before ++ last ∷ []) (sym e))
last_below at (suc n) [] last e =
    let all : at ∷ places_from (suc at) n ≡ last ∷ [] = e in
    let same : at ≡ last = cc in
    omega (arith, same)
last_below at (suc n) (k ∷ before) last e =
    let all : at ∷ places_from (suc at) n ≡ k ∷ (before ++ last ∷ []) = e in
    let behind : places_from (suc at) n ≡ before ++ last ∷ [] = cc in
    let low = last_below (suc at) n before last behind in
    omega (arith, low)

none_from : (at n : ℕ) → [] ≡ places_from at n → n ≡ 0
none_from at zero e = refl
none_from at (suc n) e = absurd (no_place at (places_from (suc at) n) (sym e))

-- a journal that grew by no entry is the old one
pub grew_by_none : (old new : List Entry) → GrowsBy old new [] → new ≡ old
grew_by_none old new g = g.begins ∙ go g.more (none_from (length old) (length g.more) g.all) where
  go : (more : List Entry) → length more ≡ 0 → old ++ more ≡ old
  go [] e = append-nil old
  go (x ∷ more) e = let some : suc (length more) ≡ 0 = e in absurd (omega (arith, some))

middle : (xs : List Entry) (x : Entry) (ys : List Entry) → slice_get (xs ++ x ∷ ys) (length xs) ≡ Some x
middle [] x ys = refl
middle (y ∷ xs) x ys = middle xs x ys

-- the first of the entries that a journal grew by
pub grew_first : (old new : List Entry) (places later : List ℕ) (es : List Entry) → GrowsBy old new (places ++ later) → StandAt new places es
    → (places ≡ places_from (length old) (length es)) × GrowsBy (old ++ es) new later
grew_first old new [] later [] g s = (refl, subst (λ (z : List Entry). GrowsBy z new later) (sym (append-nil old)) g)
grew_first old new [] later (e ∷ es) g s = absurd s
grew_first old new (k ∷ ks) later [] g s = absurd s
grew_first old new (k ∷ ks) later (e ∷ es) g s =
    go g.more g.begins g.all (λ rest. grew_first (old ++ e ∷ []) new ks later es rest s.1) where
      go : (more : List Entry) → new ≡ old ++ more → k ∷ (ks ++ later) ≡ places_from (length old) (length more)
          → (GrowsBy (old ++ e ∷ []) new (ks ++ later) → (ks ≡ places_from (length (old ++ e ∷ [])) (length es)) × GrowsBy ((old ++ e ∷ []) ++ es) new later)
          → (k ∷ ks ≡ length old ∷ places_from (suc (length old)) (length es)) × GrowsBy (old ++ e ∷ es) new later
      go [] begins all next = absurd (no_place k (ks ++ later) all)
      go (x ∷ more) begins all next =
          let places : k ∷ (ks ++ later) ≡ length old ∷ places_from (suc (length old)) (length more) = all in
          let here : k ≡ length old = cc in
          let behind : ks ++ later ≡ places_from (suc (length old)) (length more) = cc in
          let there : Some x ≡ Some e = sym (middle old x more) ∙ ap (λ (z : List Entry). slice_get z (length old)) (sym begins)
          ∙ ap (λ (n : ℕ). slice_get new n) (sym here) ∙ s.0 in
          let same : x ≡ e = same_Some x e there in
          let long : length (old ++ e ∷ []) ≡ suc (length old) = omega (arith, length-append old (e ∷ [])) in
          let it = next (record {
            more = more;
            begins = begins ∙ ap (λ (z : Entry). old ++ z ∷ more) same ∙ sym (append_assoc old (e ∷ []) more);
            all = behind ∙ ap (λ (n : ℕ). places_from n (length more)) (sym long);
          }) in
          let after : ks ≡ places_from (suc (length old)) (length es) = it.0 ∙ ap (λ (n : ℕ). places_from n (length es)) long in (
            ap (λ (z : List ℕ). k ∷ z) after ∙ ap (λ (n : ℕ). n ∷ places_from (suc (length old)) (length es)) here,
            subst (λ (z : List Entry). GrowsBy z new later) (append_assoc old (e ∷ []) es) it.1,
          )

-- Several journals

-- the journals with these entries more in this repository
abbrev pub grown : Journals → ℕ → List Entry → Journals
grown old repo es j = if repo == j then old j ++ es else old j

in_marks : (repo j : ℕ) (places : List ℕ) → places_in j (map (mark_at repo) places) ≡ (if repo == j then places else [])
in_marks repo j [] = none (repo == j) where
  none : (b : Bool) → ◌≡◌ {A = List ℕ} [] (if b then [] else [])
  none true = refl
  none false = refl
in_marks repo j (k ∷ ks) = more (repo == j) (places_in j (map (mark_at repo) ks)) (in_marks repo j ks) where
  more : (b : Bool) (r : List ℕ) → r ≡ (if b then ks else []) → (if b then k ∷ r else r) ≡ (if b then k ∷ ks else [])
  more true r e = ap (λ (z : List ℕ). k ∷ z) e
  more false r e = e

here_marks : (repo j : ℕ) (places : List ℕ) (later : List Mark) (b : Bool) → (repo == j) ≡ b
    → places_in j (map (mark_at repo) places ++ later) ≡ (if b then places else []) ++ places_in j later
here_marks repo j places later b e =
    places_in_more j (map (mark_at repo) places) later
    ∙ ap (λ (z : List ℕ). z ++ places_in j later) (in_marks repo j places ∙ ap (λ (z : Bool). if z then places else []) e)

-- the first of the entries that several journals grew by, all in this repository
pub all_grew_first : (old new : Journals) (repo : ℕ) (places : List ℕ) (es : List Entry) (later : List Mark) → AllGrowBy old new (map (mark_at repo) places ++ later)
    → StandAt (new repo) places es
    → (places ≡ places_from (length (old repo)) (length es)) × GrowsBy (old repo ++ es) (new repo) (places_in repo later) × AllGrowBy (grown old repo es) new later
all_grew_first old new repo places es later g s =
    let first = grew_first (old repo) (new repo) places (places_in repo later) es
    (subst (λ (z : List ℕ). GrowsBy (old repo) (new repo) z) (here_marks repo repo places later true (eq-eqb repo repo refl)) (g repo)) s in
    (first.0, first.1, λ j. go first.1 j (repo == j) refl) where
      go : GrowsBy (old repo ++ es) (new repo) (places_in repo later) → (j : ℕ) (b : Bool) → (repo == j) ≡ b
          → GrowsBy (if b then old j ++ es else old j) (new j) (places_in j later)
      go here j true e =
          let same : repo ≡ j = eqb-true repo j e in
          subst (λ (k : ℕ). GrowsBy (old k ++ es) (new k) (places_in k later)) same here
      go here j false e = subst (λ (z : List ℕ). GrowsBy (old j) (new j) z) (here_marks repo j places later false e) (g j)
