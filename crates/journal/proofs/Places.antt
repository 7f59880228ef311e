-- What stands at a place of a journal, and how it was judged there.
use Rattle.std.proofs.Common.{◌≡◌, ℕ, zero, suc, ◌<◌, List, [], ◌∷◌, ◌++◌, length, take, Some, refl, sym, ◌∙◌, ap, arith, append_assoc, take_all}
use Rattle.std.specs.Prelude.{slice_get}
use Rattle.std.specs.Option.{option_map}
use Rattle.std.proofs.lemmas.List.{take-append-le}
use Rattle.std.proofs.lemmas.Option.{slice_get_within}
use Rattle.journal.specs.declared.entry.Entry.{Entry}
use Rattle.journal.specs.declared.limits.Limits.{Limits}
use Rattle.journal.specs.Past.{Judged}
use Rattle.journal.specs.Replies.{reply_to, is_accepted}
use Rattle.journal.specs.Journal.{judged, judged_behind, judged_entry, reply_at, reply_next}
use Rattle.journal.proofs.Growth.{begins_with, judged_behind-append, length-judged, slice_get-append_at}

pub some_same : {A : Type 0} (x y : A) → Some x ≡ Some y → x ≡ y
some_same x y e = cc

-- below its length a list has an item
pub item_at : {A : Type 0} (xs : List A) (k : ℕ) → k < length xs → (x : A) × (slice_get xs k ≡ Some x)
item_at [] k lt = absurd (omega arith)
item_at (x ∷ xs) zero lt = (x, refl)
item_at (x ∷ xs) (suc k) lt = item_at xs k (omega arith)

-- a list around one of its items
pub split_at : {A : Type 0} (xs : List A) (k : ℕ) (x : A) → slice_get xs k ≡ Some x → (rest : List A) × (xs ≡ take k xs ++ x ∷ rest) × (length (take k xs) ≡ k)
split_at [] k x e = cc
split_at (y ∷ ys) zero x e = let same : y ≡ x = cc in (ys, ap (λ z. z ∷ ys) same, refl)
split_at (y ∷ ys) (suc k) x e =
    let more = split_at ys k x e in
    let long = more.2 in
    (more.0, ap (λ r. y ∷ r) more.1, omega arith)

-- what is taken past an item has the item in it
pub take_past : {A : Type 0} (q : List A) (x : A) (r : List A) (k : ℕ) → length q < k → (rest : List A) × (take k (q ++ x ∷ r) ≡ q ++ x ∷ rest)
take_past [] x r zero lt = absurd (omega arith)
take_past [] x r (suc k) lt = (take k r, refl)
take_past (y ∷ q) x r zero lt = absurd (omega arith)
take_past (y ∷ q) x r (suc k) lt =
    let more = take_past q x r k (omega arith) in
    (more.0, ap (λ z. y ∷ z) more.1)

-- what is taken up to the seam is the front
pub take_front : {A : Type 0} (q r : List A) (k : ℕ) → length q ≡ k → take k (q ++ r) ≡ q
take_front q r k e = take-append-le k q r (omega arith) ∙ take_all k q (omega arith)

-- the judged entries around one of them
judged_split : (l : Limits) (J K : List Entry) (x : Entry) → (rest : List Judged) × (judged l (J ++ x ∷ K) ≡ judged l J ++ judged_entry l (judged l J) x ∷ rest)
unfolding judged
judged_split l J K x =
    let p : List Judged = judged_behind l [] J in
    let more = begins_with l (p ++ judged_entry l p x ∷ []) K in
    (more.0, judged_behind-append l [] J (x ∷ K) ∙ (more.1 ∙ append_assoc p (judged_entry l p x ∷ []) more.0))

-- an entry is judged by the entries before it
pub judged_at : (l : Limits) (J : List Entry) (k : ℕ) (j : Judged) → slice_get (judged l J) k ≡ Some j
    → (take k (judged l J) ≡ judged l (take k J)) × (slice_get J k ≡ Some j.entry) × (j.accepted ≡ is_accepted l (take k (judged l J)) j.entry)
judged_at l J k j got =
    let within : k < length (judged l J) = slice_get_within (judged l J) k j got in
    let long = length-judged l J in
    let there = item_at J k (omega arith) in
    let x : Entry = there.0 in
    let s = split_at J k x there.1 in
    let p : List Judged = judged l (take k J) in
    let m = judged_split l (take k J) s.0 x in
    let whole : judged l J ≡ p ++ judged_entry l p x ∷ m.0 = ap (judged l) s.1 ∙ m.1 in
    let seam : length p ≡ k = length-judged l (take k J) ∙ s.2 in
    let front : take k (judged l J) ≡ p = ap (take k) whole ∙ take_front p (judged_entry l p x ∷ m.0) k seam in
    let here : slice_get (judged l J) k ≡ Some (judged_entry l p x) =
    ap (λ L. slice_get L k) whole ∙ (ap (λ n. slice_get (p ++ judged_entry l p x ∷ m.0) n) (sym seam) ∙ slice_get-append_at p (judged_entry l p x) m.0) in
    let same : judged_entry l p x ≡ j = some_same (judged_entry l p x) j (sym here ∙ got) in
    let entry : x ≡ j.entry = ap (λ (i : Judged). i.entry) same in (
      front,
      there.1 ∙ ap Some entry,
      ap (λ (i : Judged). i.accepted) (sym same) ∙ (ap (is_accepted l p) entry ∙ ap (λ q. is_accepted l q j.entry) (sym front)),
    )

-- the reply at a place is that to its entry behind those before it
pub reply_there : (l : Limits) (J : List Entry) (k : ℕ) (j : Judged) → slice_get (judged l J) k ≡ Some j → reply_at l J k ≡ Some (reply_to l (take k (judged l J)) j.entry)
unfolding reply_at reply_next
reply_there l J k j got =
    let at = judged_at l J k j got in
    ap (λ o. option_map (λ e. reply_to l (judged l (take k J)) e) o) at.1 ∙ ap (λ p. Some (reply_to l p j.entry)) (sym at.0)
