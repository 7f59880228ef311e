-- White space around pieces, and where texts are cut.
use Rattle.std.proofs.Common.{◌≡◌, ◌≢◌, refl, ap, sym, ◌∙◌, subst, ℕ, suc, ◌+◌, ◌<◌, Bool, true, false, not, ◌&&◌, ◌==◌, cond, List, [], ◌∷◌, ◌++◌, length, take, drop, reverse, append_assoc, append-nil, arith}
use Rattle.std.specs.List.{All, AllZip, after_first, before_first, join_with_byte, list_all, onto_first, position_or_len, slice_split}
use Rattle.std.proofs.Common.{map}
use Rattle.std.proofs.lemmas.Bool.Decides.{nat_tests}
use Rattle.std.proofs.lemmas.List.{reverse-append, reverse-reverse}
use Rattle.std.proofs.lemmas.List.Elements.{All-nil, All-cons, All-head, All-tail, All-weaker}
use Rattle.std.proofs.lemmas.List.Folds.{list_all-append}
use Rattle.std.proofs.lemmas.List.Sums.{AllPass-from_list_all}
use Rattle.std.proofs.lemmas.List.Splits.{slice_split_none, slice_split_at}
use Rattle.media.specs.Pieces.{is_semicolon, is_slash, is_space, is_tchar, is_token, skip_spaces, trimmed}
use Rattle.media.specs.Grammar.{AreSpaces, IsPadded, NoSemicolon, begins_with_space}

pub both : (a b : Bool) → (a && b) ≡ true → (a ≡ true) × (b ≡ true)
both true b e = (refl, e)
both false b e = cc

pub all_of : (a b : Bool) → a ≡ true → b ≡ true → (a && b) ≡ true
all_of true b d e = e
all_of false b d e = cc

-- a text begins with white space, which can be skipped
pub record Skips (text : List ℕ) : Type 0 where
  pub before : List ℕ
  pub spaces : AreSpaces before
  pub whole : text ≡ before ++ skip_spaces text
  pub begins : begins_with_space (skip_spaces text) ≡ false

skips_more : (b : ℕ) (bs : List ℕ) (s : Bool) → is_space b ≡ s → Skips bs → Skips (b ∷ bs)
skips_more b bs true e w = record {
  before = b ∷ w.before;
  spaces = all_of (is_space b) (list_all is_space w.before) e w.spaces;
  whole = ap (λ l. b ∷ l) w.whole ∙ ap (λ t. b ∷ (w.before ++ cond t (skip_spaces bs) (b ∷ bs))) (sym e);
  begins = ap (λ t. begins_with_space (cond t (skip_spaces bs) (b ∷ bs))) e ∙ w.begins;
}
skips_more b bs false e w = record {
  before = [];
  spaces = refl;
  whole = ap (λ t. cond t (skip_spaces bs) (b ∷ bs)) (sym e);
  begins = ap (λ t. begins_with_space (cond t (skip_spaces bs) (b ∷ bs))) e ∙ e;
}

pub skips : (text : List ℕ) → Skips text
skips [] = record { before = []; spaces = refl; whole = refl; begins = refl }
skips (b ∷ bs) = skips_more b bs (is_space b) refl (skips bs)

skip_none : (text : List ℕ) → begins_with_space text ≡ false → skip_spaces text ≡ text
skip_none [] e = refl
skip_none (b ∷ bs) e = ap (λ t. cond t (skip_spaces bs) (b ∷ bs)) e

skip_spaces-append : (before rest : List ℕ) → AreSpaces before → skip_spaces (before ++ rest) ≡ skip_spaces rest
skip_spaces-append [] rest h = refl
skip_spaces-append (b ∷ bs) rest h =
    let w = both (is_space b) (list_all is_space bs) h in
    ap (λ t. cond t (skip_spaces (bs ++ rest)) (b ∷ (bs ++ rest))) w.0 ∙ skip_spaces-append bs rest w.1

reverse_spaces : (text : List ℕ) → AreSpaces text → AreSpaces (reverse text)
reverse_spaces [] h = refl
reverse_spaces (b ∷ bs) h =
    let w = both (is_space b) (list_all is_space bs) h in
    ap (list_all is_space) (reverse-append (b ∷ []) bs) ∙ list_all-append is_space (reverse bs) (b ∷ [])
    ∙ all_of (list_all is_space (reverse bs)) (list_all is_space (b ∷ [])) (reverse_spaces bs w.1) (all_of (is_space b) true w.0 refl)

front_begins : (front behind : List ℕ) → begins_with_space (front ++ behind) ≡ false → begins_with_space front ≡ false
front_begins [] behind e = refl
front_begins (b ∷ bs) behind e = e

-- a piece is what stands between white space
pub trimmed_padded : (text : List ℕ) → IsPadded text (trimmed text)
unfolding trimmed
trimmed_padded text =
    let w = skips text in
    let t = skip_spaces text in
    let v = skips (reverse t) in
    let u = skip_spaces (reverse t) in
    let back : t ≡ reverse u ++ reverse v.before = sym (reverse-reverse t) ∙ ap reverse v.whole ∙ reverse-append v.before u in
    record {
      before = w.before;
      behind = reverse v.before;
      whole = w.whole ∙ ap (λ l. w.before ++ l) back ∙ sym (append_assoc w.before (reverse u) (reverse v.before));
      spaces_before = w.spaces;
      spaces_behind = reverse_spaces v.before v.spaces;
      begins = front_begins (reverse u) (reverse v.before) (ap begins_with_space (sym back) ∙ w.begins);
      ends = ap begins_with_space (reverse-reverse u) ∙ v.begins;
    }

-- what stands behind a piece, where there is one
abbrev if_any : List ℕ → List ℕ → List ℕ
if_any [] behind = []
if_any (b ∷ bs) behind = b ∷ bs ++ behind

skip_front : (before piece behind : List ℕ) → AreSpaces before → AreSpaces behind → begins_with_space piece ≡ false
    → skip_spaces (before ++ piece ++ behind) ≡ if_any piece behind
skip_front before [] behind h k e =
    ap skip_spaces (append_assoc before [] behind) ∙ skip_spaces-append before behind h ∙ ap skip_spaces (sym (append-nil behind)) ∙ skip_spaces-append behind [] k
skip_front before (b ∷ bs) behind h k e =
    ap skip_spaces (append_assoc before (b ∷ bs) behind) ∙ skip_spaces-append before (b ∷ bs ++ behind) h ∙ skip_none (b ∷ bs ++ behind) e

skip_back : (piece behind : List ℕ) → AreSpaces behind → begins_with_space (reverse piece) ≡ false → reverse (skip_spaces (reverse (piece ++ behind))) ≡ piece
skip_back piece behind k e =
    ap (λ l. reverse (skip_spaces l)) (reverse-append piece behind)
    ∙ ap reverse (skip_spaces-append (reverse behind) (reverse piece) (reverse_spaces behind k) ∙ skip_none (reverse piece) e)
    ∙ reverse-reverse piece

skip_both : (piece behind : List ℕ) → AreSpaces behind → begins_with_space (reverse piece) ≡ false
    → reverse (skip_spaces (reverse (if_any piece behind))) ≡ piece
skip_both [] behind k e = refl
skip_both (b ∷ bs) behind k e = skip_back (b ∷ bs) behind k e

pub padded_trimmed : (text piece : List ℕ) → IsPadded text piece → trimmed text ≡ piece
unfolding trimmed
padded_trimmed text piece w =
    ap (λ l. reverse (skip_spaces (reverse (skip_spaces l)))) w.whole
    ∙ ap (λ l. reverse (skip_spaces (reverse l))) (skip_front w.before piece w.behind w.spaces_before w.spaces_behind w.begins)
    ∙ skip_both piece w.behind w.spaces_behind w.ends

-- each of some parts without the white space around it
pub all_trimmed : (parts : List (List ℕ)) → AllZip IsPadded parts (map trimmed parts)
all_trimmed [] = tt
all_trimmed (part ∷ parts) = (trimmed_padded part, all_trimmed parts)

pub all_padded : (parts pieces : List (List ℕ)) → AllZip IsPadded parts pieces → map trimmed parts ≡ pieces
all_padded [] [] h = refl
all_padded [] (piece ∷ pieces) h = absurd h
all_padded (part ∷ parts) [] h = absurd h
all_padded (part ∷ parts) (piece ∷ pieces) h = ap (λ p. p ∷ map trimmed parts) (padded_trimmed part piece h.0) ∙ ap (λ l. piece ∷ l) (all_padded parts pieces h.1)

one_more : (n : ℕ) → 1 + n ≡ suc n
one_more n = omega arith

one_between : (n : ℕ) → 1 + n + 1 ≡ suc (n + 1)
one_between n = omega arith

-- the front and the rest of a text at its first byte of a kind
before_yes : (p : ℕ → Bool) (x : ℕ) (xs : List ℕ) → p x ≡ true → before_first p (x ∷ xs) ≡ []
before_yes p x xs e = ap (λ b. take (cond (not b) (1 + position_or_len p xs) 0) (x ∷ xs)) e

after_yes : (p : ℕ → Bool) (x : ℕ) (xs : List ℕ) → p x ≡ true → after_first p (x ∷ xs) ≡ xs
after_yes p x xs e = ap (λ b. drop (cond (not b) (1 + position_or_len p xs) 0 + 1) (x ∷ xs)) e

before_no : (p : ℕ → Bool) (x : ℕ) (xs : List ℕ) → p x ≡ false → before_first p (x ∷ xs) ≡ x ∷ before_first p xs
before_no p x xs e =
    ap (λ b. take (cond (not b) (1 + position_or_len p xs) 0) (x ∷ xs)) e ∙ ap (λ n. take n (x ∷ xs)) (one_more (position_or_len p xs))

after_no : (p : ℕ → Bool) (x : ℕ) (xs : List ℕ) → p x ≡ false → after_first p (x ∷ xs) ≡ after_first p xs
after_no p x xs e =
    ap (λ b. drop (cond (not b) (1 + position_or_len p xs) 0 + 1) (x ∷ xs)) e ∙ ap (λ n. drop n (x ∷ xs)) (one_between (position_or_len p xs))

pub before-append : (p : ℕ → Bool) (front : List ℕ) (x : ℕ) (rest : List ℕ) → All (λ b. p b ≡ false) front → p x ≡ true → before_first p (front ++ x ∷ rest) ≡ front
before-append p [] x rest h e = before_yes p x rest e
before-append p (b ∷ bs) x rest h e =
    before_no p b (bs ++ x ∷ rest) (All-head (λ b. p b ≡ false) b bs h)
    ∙ ap (λ l. b ∷ l) (before-append p bs x rest (All-tail (λ b. p b ≡ false) b bs h) e)

pub after-append : (p : ℕ → Bool) (front : List ℕ) (x : ℕ) (rest : List ℕ) → All (λ b. p b ≡ false) front → p x ≡ true → after_first p (front ++ x ∷ rest) ≡ rest
after-append p [] x rest h e = after_yes p x rest e
after-append p (b ∷ bs) x rest h e =
    after_no p b (bs ++ x ∷ rest) (All-head (λ b. p b ≡ false) b bs h) ∙ after-append p bs x rest (All-tail (λ b. p b ≡ false) b bs h) e

cut_more : (c x : ℕ) (xs : List ℕ) (t : Bool) → (x == c) ≡ t → (0 < length (after_first (λ b. b == c) xs) → xs ≡ before_first (λ b. b == c) xs ++ c ∷ after_first (λ b. b == c) xs)
    → 0 < length (after_first (λ b. b == c) (x ∷ xs)) → x ∷ xs ≡ before_first (λ b. b == c) (x ∷ xs) ++ c ∷ after_first (λ b. b == c) (x ∷ xs)
cut_more c x xs true e f h =
    let p : ℕ → Bool = λ b. b == c in
    let same : x ≡ c = grind (arith, nat_tests) in
    ap (λ b. b ∷ xs) same ∙ sym (ap (λ l. l ++ c ∷ after_first p (x ∷ xs)) (before_yes p x xs e) ∙ ap (λ l. c ∷ l) (after_yes p x xs e))
cut_more c x xs false e f h =
    let p : ℕ → Bool = λ b. b == c in
    let a = after_no p x xs e in
    let more : 0 < length (after_first p xs) = subst (λ (l : List ℕ). 0 < length l) a h in
    ap (λ l. x ∷ l) (f more) ∙ sym (ap (λ l. l ++ c ∷ after_first p (x ∷ xs)) (before_no p x xs e) ∙ ap (λ l. x ∷ (before_first p xs ++ c ∷ l)) a)

-- where something stands behind the first of these bytes, it is there
pub cut_at : (c : ℕ) (text : List ℕ) → 0 < length (after_first (λ b. b == c) text) → text ≡ before_first (λ b. b == c) text ++ c ∷ after_first (λ b. b == c) text
cut_at c [] h = absurd (omega arith)
cut_at c (x ∷ xs) h = cut_more c x xs (x == c) refl (cut_at c xs) h

-- parts between semicolons
no_semicolon : (text : List ℕ) → NoSemicolon text → All (λ b. is_semicolon b ≡ false) text
no_semicolon text h = All-weaker (λ b. b ≢ 59) (λ b. is_semicolon b ≡ false) (λ b e. grind (arith, nat_tests, e)) text h

pub split_join : (first : List ℕ) (others : List (List ℕ)) → All NoSemicolon (first ∷ others) → slice_split is_semicolon (join_with_byte 59 (first ∷ others)) ≡ first ∷ others
split_join first [] h = slice_split_none is_semicolon first (no_semicolon first (All-head NoSemicolon first [] h))
split_join first (next ∷ others) h =
    slice_split_at is_semicolon first 59 (join_with_byte 59 (next ∷ others)) (no_semicolon first (All-head NoSemicolon first (next ∷ others) h)) refl
    ∙ ap (λ l. first ∷ l) (split_join next others (All-tail NoSemicolon first (next ∷ others) h))

onto_apart : (x : ℕ) (parts : List (List ℕ)) → x ≢ 59 → All NoSemicolon parts → All NoSemicolon (onto_first x parts)
onto_apart x [] n h = All-cons NoSemicolon (x ∷ []) [] (All-cons (λ b. b ≢ 59) x [] n (All-nil (λ b. b ≢ 59))) h
onto_apart x (part ∷ parts) n h =
    All-cons NoSemicolon (x ∷ part) parts (All-cons (λ b. b ≢ 59) x part n (All-head NoSemicolon part parts h)) (All-tail NoSemicolon part parts h)

split_more : (x : ℕ) (parts : List (List ℕ)) (t : Bool) → is_semicolon x ≡ t → All NoSemicolon parts → All NoSemicolon (cond t ([] ∷ parts) (onto_first x parts))
split_more x parts true e h = All-cons NoSemicolon [] parts (All-nil (λ b. b ≢ 59)) h
split_more x parts false e h = let n : x ≢ 59 = λ same. grind (arith, nat_tests, same) in onto_apart x parts n h

pub split_apart : (text : List ℕ) → All NoSemicolon (slice_split is_semicolon text)
split_apart [] = All-cons NoSemicolon [] [] (All-nil (λ b. b ≢ 59)) (All-nil NoSemicolon)
split_apart (x ∷ xs) = split_more x (slice_split is_semicolon xs) (is_semicolon x) refl (split_apart xs)

onto_head : (x : ℕ) (parts : List (List ℕ)) (front : List ℕ) → parts ≡ front ∷ drop 1 parts → onto_first x parts ≡ (x ∷ front) ∷ drop 1 (onto_first x parts)
onto_head x [] front e = cc
onto_head x (part ∷ parts) front e = ap (λ l. (x ∷ l) ∷ parts) (cc)

head_more : (p : ℕ → Bool) (x : ℕ) (xs : List ℕ) (t : Bool) → p x ≡ t → slice_split p xs ≡ before_first p xs ∷ drop 1 (slice_split p xs)
    → cond t ([] ∷ slice_split p xs) (onto_first x (slice_split p xs)) ≡ before_first p (x ∷ xs) ∷ drop 1 (cond t ([] ∷ slice_split p xs) (onto_first x (slice_split p xs)))
head_more p x xs true e h = ap (λ l. l ∷ slice_split p xs) (sym (before_yes p x xs e))
head_more p x xs false e h =
    onto_head x (slice_split p xs) (before_first p xs) h ∙ ap (λ l. l ∷ drop 1 (onto_first x (slice_split p xs))) (sym (before_no p x xs e))

-- the first part is what stands before the first byte at which a text is cut
pub split_head : (p : ℕ → Bool) (text : List ℕ) → slice_split p text ≡ before_first p text ∷ drop 1 (slice_split p text)
split_head p [] = refl
split_head p (x ∷ xs) = head_more p x xs (p x) refl (split_head p xs)

-- a token has no `/`
slash_or : (b : ℕ) (t : Bool) → is_slash b ≡ t → is_tchar b ≡ true → t ≡ false
slash_or b true e h = let same : b ≡ 47 = grind (arith, nat_tests) in let k : is_tchar 47 ≡ true = ap is_tchar (sym same) ∙ h in cc k
slash_or b false e h = refl

no_slash : (b : ℕ) → is_tchar b ≡ true → is_slash b ≡ false
no_slash b h = slash_or b (is_slash b) refl h

pub token_slash : (text : List ℕ) → is_token text ≡ true → All (λ b. is_slash b ≡ false) text
token_slash text h =
    let w = both (not (length text == 0)) (list_all is_tchar text) h in
    All-weaker (λ b. is_tchar b ≡ true) (λ b. is_slash b ≡ false) no_slash text (AllPass-from_list_all is_tchar text w.1)

pub token_some : (text : List ℕ) → is_token text ≡ true → 0 < length text
token_some [] h = cc
token_some (b ∷ bs) h = omega arith
