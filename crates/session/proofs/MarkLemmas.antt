-- Journals that go on, and marks.
use Rattle.std.proofs.Common.{◌≡◌, ℕ, zero, suc, subst, ◌+◌, ◌≤◌, ◌<◌, ◌==◌, Bool, true, false, if◌then◌else◌, List, [], ◌∷◌, ◌++◌, length, Some, slice_get, refl, sym, ◌∙◌, ap, append_assoc, append-nil, length-append, arith}
use Rattle.journal.specs.declared.entry.Entry.{Entry}
use Rattle.journal.specs.declared.entry.Mark.{Mark}
use Rattle.session.specs.Marks.{Journals, Begins, AllBegin, Below, places_of, places_in, Goes, Moves}

if_more : (b : Bool) (k : ℕ) (a p q : List ℕ) → a ≡ p ++ q → (if b then k ∷ a else a) ≡ (if b then k ∷ p else p) ++ q
if_more true k a p q e = ap (λ (z : List ℕ). k ∷ z) e
if_more false k a p q e = e

pub places_of_more : (seat at n : ℕ) (xs ys : List Entry) → n ≡ at + length xs → places_of seat at (xs ++ ys) ≡ places_of seat at xs ++ places_of seat n ys
places_of_more seat at n [] ys e = let same : at ≡ n = omega (arith, e) in ap (λ (k : ℕ). places_of seat k ys) same
places_of_more seat at n (x ∷ xs) ys e =
    if_more (x.seat == seat) at (places_of seat (suc at) (xs ++ ys)) (places_of seat (suc at) xs) (places_of seat n ys)
    (places_of_more seat (suc at) n xs ys (omega (arith, e)))

pub places_in_more : (repo : ℕ) (xs ys : List Mark) → places_in repo (xs ++ ys) ≡ places_in repo xs ++ places_in repo ys
places_in_more repo [] ys = refl
places_in_more repo (x ∷ xs) ys = if_more (x.repo == repo) x.place (places_in repo (xs ++ ys)) (places_in repo xs) (places_in repo ys) (places_in_more repo xs ys)

pub moves_none : (seats : ℕ → ℕ) (a : Journals) → Moves seats a a []
moves_none seats a = λ repo. record { more = []; begins = sym (append-nil (a repo)); own = refl }

pub goes_more : (seat : ℕ) (a b c : List Entry) (ps qs : List ℕ) → Goes seat a b ps → Goes seat b c qs → Goes seat a c (ps ++ qs)
goes_more seat a b c ps qs x y = record {
  more = x.more ++ y.more;
  begins = y.begins ∙ ap (λ (z : List Entry). z ++ y.more) x.begins ∙ append_assoc a x.more y.more;
  own =
      let n : length b ≡ length a + length x.more = omega (arith, ap length x.begins, length-append a x.more) in
      places_of_more seat (length a) (length b) x.more y.more n ∙ ap (λ (z : List ℕ). z ++ places_of seat (length b) y.more) x.own ∙ ap (λ (z : List ℕ). ps ++ z) y.own;
}

pub moves_more : (seats : ℕ → ℕ) (a b c : Journals) (xs ys : List Mark) → Moves seats a b xs → Moves seats b c ys → Moves seats a c (xs ++ ys)
moves_more seats a b c xs ys x y = λ repo.
    subst (λ (z : List ℕ). Goes (seats repo) (a repo) (c repo) z) (sym (places_in_more repo xs ys))
    (goes_more (seats repo) (a repo) (b repo) (c repo) (places_in repo xs) (places_in repo ys) (x repo) (y repo))

pub all_begin : (seats : ℕ → ℕ) (a b : Journals) (xs : List Mark) → Moves seats a b xs → AllBegin a b
all_begin seats a b xs m = λ repo. ((m repo).more, (m repo).begins)

pub begins_longer : (a b : List Entry) → Begins a b → length a ≤ length b
begins_longer a b h = omega (arith, ap length h.1, length-append a h.0)

pub get_later : (a b : List Entry) (k : ℕ) (e : Entry) → Begins a b → slice_get a k ≡ Some e → slice_get b k ≡ Some e
get_later a b k e h s = ap (λ (z : List Entry). slice_get z k) h.1 ∙ get_left a h.0 k e s where
  get_left : (xs ys : List Entry) (n : ℕ) (d : Entry) → slice_get xs n ≡ Some d → slice_get (xs ++ ys) n ≡ Some d
  get_left [] ys n d p = cc
  get_left (x ∷ xs) ys zero d p = p
  get_left (x ∷ xs) ys (suc n) d p = get_left xs ys n d p

-- the first of the places of a seat's entries is none of those before
first_above : (seat at : ℕ) (es : List Entry) (k : ℕ) (ks : List ℕ) → places_of seat at es ≡ k ∷ ks → at ≤ k
first_above seat at [] k ks e = cc
first_above seat at (x ∷ es) k ks e = go (x.seat == seat) (λ p. first_above seat (suc at) es k ks p) e where
  go : (b : Bool) → (places_of seat (suc at) es ≡ k ∷ ks → suc at ≤ k) → (if b then at ∷ places_of seat (suc at) es else places_of seat (suc at) es) ≡ k ∷ ks → at ≤ k
  go true rest p = let same : at ≡ k = cc in omega (arith, same)
  go false rest p = let later = rest p in omega (arith, later)

-- the first of the places that marks name in a repository is below what all are below
first_below : (most repo : ℕ) (ms : List Mark) (k : ℕ) (ks : List ℕ) → Below most ms → places_in repo ms ≡ k ∷ ks → k < most
first_below most repo [] k ks h e = cc
first_below most repo (m ∷ ms) k ks h e = go (m.repo == repo) (λ p. first_below most repo ms k ks h.1 p) e where
  go : (b : Bool) → (places_in repo ms ≡ k ∷ ks → k < most) → (if b then m.place ∷ places_in repo ms else places_in repo ms) ≡ k ∷ ks → k < most
  go true rest p = let same : m.place ≡ k = cc in let low = h.0 in omega (arith, same, low)
  go false rest p = rest p

-- in a full journal no entry is made
pub full_stays : (most seat repo : ℕ) (old new : List Entry) (ms : List Mark) → most ≤ length old → Goes seat old new (places_in repo ms) → Below most ms
    → places_in repo ms ≡ []
full_stays most seat repo old new ms full goes below = go (places_in repo ms) refl where
  go : (ks : List ℕ) → places_in repo ms ≡ ks → places_in repo ms ≡ []
  go [] e = e
  go (k ∷ ks) e =
      let low = first_below most repo ms k ks below e in
      let high = first_above seat (length old) goes.more k ks (goes.own ∙ e) in
      absurd (omega (arith, full, low, high))

pub below_more : (most : ℕ) (xs ys : List Mark) → Below most xs → Below most ys → Below most (xs ++ ys)
below_more most [] ys x y = y
below_more most (m ∷ ms) ys x y = (x.0, below_more most ms ys x.1 y)
