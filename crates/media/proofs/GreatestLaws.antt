-- The first element of the greatest key, by what stands around it.
use Rattle.std.proofs.Common.{◌≡◌, refl, ap, sym, ◌∙◌, subst, ℕ, ◌<◌, ◌≤◌, Bool, true, false, ◌&&◌, cond, List, [], ◌∷◌, ◌++◌, Option, Some, None, inl, inr, append_assoc, length, take, get_or, ◌+◌, ◌↔◌, arith, nat_lt, nat_le}
use Rattle.std.specs.List.{All, find, list_all}
use Rattle.std.specs.Option.{option_or, IsNone}
use Rattle.std.proofs.lemmas.Bool.{cases_lt}
use Rattle.std.proofs.lemmas.Bool.Decides.{nat_tests}
use Rattle.std.proofs.lemmas.List.{take_more, take_all}
use Rattle.std.proofs.lemmas.List.Elements.{All-nil, All-cons, All-head, All-tail, All-same, All-append, All-push, All-weaker}
use Rattle.std.proofs.lemmas.List.Folds.{find-append, list_all-append}
use Rattle.std.proofs.lemmas.List.Sums.{list_all-from_AllPass}
use Rattle.media.specs.Greatest.{is_greatest, first_greatest, IsFirstGreatest}

abbrev pub key_of : {A : Type 0} → (A → ℕ) → Option A → ℕ
key_of key None = 0
key_of key (Some x) = key x

-- x is the first of the greatest key above 0, and without one each key is 0
abbrev pub Gives : {A : Type 0} → (A → ℕ) → List A → Option A → Type 0
Gives key xs None = All (λ y. key y ≡ 0) xs
Gives key xs (Some x) = IsFirstGreatest key xs x

pub none_greater : {A : Type 0} (key : A → ℕ) (xs : List A) (o : Option A) → Gives key xs o → All (λ y. key y ≤ key_of key o) xs
none_greater key xs None g = All-weaker (λ y. key y ≡ 0) (λ y. key y ≤ 0) (λ y e. omega arith) xs g
none_greater key xs (Some x) g =
    All-same (λ y. key y ≤ key x) xs (g.before ++ x ∷ g.behind) g.place
    (All-append (λ y. key y ≤ key x) g.before (x ∷ g.behind)
    (All-weaker (λ y. key y < key x) (λ y. key y ≤ key x) (λ y e. omega arith) g.before g.smaller)
    (All-cons (λ y. key y ≤ key x) x g.behind (omega arith) g.no_greater))

-- one more element that is greater than all before it
pub push_greater : {A : Type 0} (key : A → ℕ) (xs : List A) (o : Option A) (x : A) → Gives key xs o → key_of key o < key x → Gives key (xs ++ x ∷ []) (Some x)
push_greater key xs o x g h = record {
  before = xs;
  behind = [];
  place = refl;
  above_zero = omega arith;
  smaller = All-weaker (λ y. key y ≤ key_of key o) (λ y. key y < key x) (λ y e. omega arith) xs (none_greater key xs o g);
  no_greater = All-nil (λ y. key y ≤ key x);
}

-- one more element that isn't
pub push_other : {A : Type 0} (key : A → ℕ) (xs : List A) (o : Option A) (x : A) → Gives key xs o → key x ≤ key_of key o → Gives key (xs ++ x ∷ []) o
push_other key xs None x g h = All-push (λ y. key y ≡ 0) xs x g (omega arith)
push_other key xs (Some z) x g h = record {
  before = g.before;
  behind = g.behind ++ x ∷ [];
  place = ap (λ l. l ++ x ∷ []) g.place ∙ append_assoc g.before (z ∷ g.behind) (x ∷ []);
  above_zero = g.above_zero;
  smaller = g.smaller;
  no_greater = All-push (λ y. key y ≤ key z) g.behind x g.no_greater h;
}

at_middle : {A : Type 0} (P : A → Type 0) (before behind : List A) (x : A) → All P (before ++ x ∷ behind) → P x
at_middle P [] behind x h = All-head P x behind h
at_middle P (y ∷ ys) behind x h = at_middle P ys behind x (All-tail P y (ys ++ x ∷ behind) h)

find_none : {A : Type 0} (p : A → Bool) (xs : List A) → All (λ x. p x ≡ false) xs → find p xs ≡ None
find_none p [] h = refl
find_none p (x ∷ xs) h =
    let head = All-head (λ x. p x ≡ false) x xs h in
    ap (λ b. cond b (Some x) (find p xs)) head ∙ find_none p xs (All-tail (λ x. p x ≡ false) x xs h)

no_zero : {A : Type 0} (key : A → ℕ) (xs : List A) (y : A) → key y ≡ 0 → is_greatest key xs y ≡ false
no_zero key xs y e = ap (λ k. nat_lt 0 k && list_all (λ z. nat_le (key z) (key y)) xs) e

fails : (a b c : Bool) → b ≡ false → (a && (b && c)) ≡ false
fails true b c e = cc
fails false b c e = refl

either : (a b : Bool) → b ≡ false → (a && b) ≡ false
either true b e = e
either false b e = refl

both : (a b : Bool) → a ≡ true → b ≡ true → (a && b) ≡ true
both true b d e = e
both false b d e = cc

above : (m n : ℕ) → m < n → nat_le n m ≡ false
above m n h = grind (arith, nat_tests)

within : (m n : ℕ) → m ≤ n → nat_le m n ≡ true
within m n h = grind (arith, nat_tests)

less : (m n : ℕ) → m < n → nat_lt m n ≡ true
less m n h = grind (arith, nat_tests)

-- what is smaller than another element isn't the greatest
not_smaller : {A : Type 0} (key : A → ℕ) (xs before behind : List A) (x y : A) → xs ≡ before ++ x ∷ behind → key y < key x → is_greatest key xs y ≡ false
not_smaller {A} key xs before behind x y e h =
    let p = λ (z : A). nat_le (key z) (key y) in
    either (nat_lt 0 (key y)) (list_all p xs)
    (ap (list_all p) e ∙ list_all-append p before (x ∷ behind) ∙ fails (list_all p before) (p x) (list_all p behind) (above (key y) (key x) h))

is_it : {A : Type 0} (key : A → ℕ) (xs : List A) (x : A) → 0 < key x → All (λ y. key y ≤ key x) xs → is_greatest key xs x ≡ true
is_it {A} key xs x h all =
    let p = λ (z : A). nat_le (key z) (key x) in
    both (nat_lt 0 (key x)) (list_all p xs) (less 0 (key x) h)
    (list_all-from_AllPass p xs (All-weaker (λ y. key y ≤ key x) (λ y. p y ≡ true) (λ y e. within (key y) (key x) e) xs all))

-- the definition computes it
pub computes : {A : Type 0} (key : A → ℕ) (xs : List A) (o : Option A) → Gives key xs o → first_greatest key xs ≡ o
unfolding first_greatest
computes key xs None g = find_none (is_greatest key xs) xs (All-weaker (λ y. key y ≡ 0) (λ y. is_greatest key xs y ≡ false) (no_zero key xs) xs g)
computes key xs (Some x) g =
    let p = is_greatest key xs in
    let front = find_none p g.before (All-weaker (λ y. key y < key x) (λ y. p y ≡ false) (λ y h. not_smaller key xs g.before g.behind x y g.place h) g.before g.smaller) in
    let here = is_it key xs x g.above_zero (none_greater key xs (Some x) g) in
    ap (find p) g.place ∙ find-append p g.before (x ∷ g.behind) ∙ ap (λ o. option_or o (find p (x ∷ g.behind))) front
    ∙ ap (λ b. cond b (Some x) (find p g.behind)) here

some_first : {A : Type 0} (key : A → ℕ) (x : A) (xs : List A) (o : Option A) → Gives key xs o → (o' : Option A) × Gives key (x ∷ xs) o'
some_first key x xs None g =
    elim (cases_lt 0 (key x)) [
      | inl h ↦ (
        Some x,
        record {
          before = [];
          behind = xs;
          place = refl;
          above_zero = h;
          smaller = All-nil (λ y. key y < key x);
          no_greater = All-weaker (λ y. key y ≡ 0) (λ y. key y ≤ key x) (λ y e. omega arith) xs g;
        },
      )
      | inr h ↦ (None, All-cons (λ y. key y ≡ 0) x xs (omega arith) g)
    ]
some_first key x xs (Some z) g =
    elim (cases_lt (key x) (key z)) [
      | inl h ↦ (
        Some z,
        record {
          before = x ∷ g.before;
          behind = g.behind;
          place = ap (λ l. x ∷ l) g.place;
          above_zero = g.above_zero;
          smaller = All-cons (λ y. key y < key z) x g.before h g.smaller;
          no_greater = g.no_greater;
        },
      )
      | inr h ↦ (
        Some x,
        record {
          before = [];
          behind = xs;
          place = refl;
          above_zero = omega (arith, g.above_zero);
          smaller = All-nil (λ y. key y < key x);
          no_greater = All-weaker (λ y. key y ≤ key z) (λ y. key y ≤ key x) (λ y e. omega arith) xs (none_greater key xs (Some z) g);
        },
      )
    ]

some_greatest : {A : Type 0} (key : A → ℕ) (xs : List A) → (o : Option A) × Gives key xs o
some_greatest key [] = (None, All-nil (λ y. key y ≡ 0))
some_greatest key (x ∷ xs) = let w = some_greatest key xs in some_first key x xs w.0 w.1

-- and what it computes is the first of the greatest key
pub is_first : {A : Type 0} (key : A → ℕ) (xs : List A) → Gives key xs (first_greatest key xs)
is_first {A} key xs = let w = some_greatest key xs in let P : Option A → Type 0 = λ o. Gives key xs o in subst P (sym (computes key xs w.0 w.1)) w.1

-- an element of a key above 0 stands in no list where each key is 0
pub not_all_zero : {A : Type 0} (key : A → ℕ) (xs : List A) (x : A) → IsFirstGreatest key xs x → All (λ y. key y ≡ 0) xs → ⊥
not_all_zero {A} key xs x g all =
    let P : List A → Type 0 = λ l. All (λ y. key y ≡ 0) l in
    let parts : All (λ y. key y ≡ 0) (g.before ++ x ∷ g.behind) = subst P g.place all in
    let zero : key x ≡ 0 = at_middle (λ y. key y ≡ 0) g.before g.behind x parts in
    omega (arith, g.above_zero)

-- the next element of a list, which is greater than each before it
pub next_greater : {A : Type 0} (key : A → ℕ) (xs : List A) (i : ℕ) (d : A) (o best : Option A) → i < length xs → Gives key (take i xs) o
    → key_of key o < key (get_or xs i d) → best ≡ Some (get_or xs i d) → Gives key (take (i + 1) xs) best
next_greater {A} key xs i d o best h g more e =
    let x = get_or xs i d in
    subst (λ (l : List A). Gives key l best) (sym (take_more xs i d h))
    (subst (λ (b : Option A). Gives key (take i xs ++ x ∷ []) b) (sym e) (push_greater key (take i xs) o x g more))

-- one that isn't
pub next_other : {A : Type 0} (key : A → ℕ) (xs : List A) (i : ℕ) (d : A) (o best : Option A) → i < length xs → Gives key (take i xs) o
    → key (get_or xs i d) ≤ key_of key o → best ≡ o → Gives key (take (i + 1) xs) best
next_other {A} key xs i d o best h g less e =
    let x = get_or xs i d in
    subst (λ (l : List A). Gives key l best) (sym (take_more xs i d h))
    (subst (λ (b : Option A). Gives key (take i xs ++ x ∷ []) b) (sym e) (push_other key (take i xs) o x g less))

-- the whole list
pub whole : {A : Type 0} (key : A → ℕ) (xs : List A) (i : ℕ) (o : Option A) → length xs ≤ i → Gives key (take i xs) o → Gives key xs o
whole {A} key xs i o h g = subst (λ (l : List A). Gives key l o) (take_all i xs h) g

pub none_exactly : {A : Type 0} (key : A → ℕ) (xs : List A) (o : Option A) → Gives key xs o → IsNone o ↔ All (λ y. key y ≡ 0) xs
none_exactly key xs None g = (λ _. g, λ _. refl)
none_exactly key xs (Some x) g = (λ h. absurd (cc), λ all. absurd (not_all_zero key xs x g all))
