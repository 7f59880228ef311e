-- The words of the program.
use Rattle.std.proofs.Common.{◌≡◌, ℕ, zero, suc, ◌≤◌, ◌<◌, ◌-◌, Bor, if◌then◌else◌, append_assoc, append-nil, Bool, true, false, ◌&&◌, ◌||◌, ◌⊎◌, true≢false, List, [], ◌∷◌, ◌++◌, IsTrue, length, map, codes, encode_utf8_all, Option, Some, None, IfSome, IfNone, Contains, sym, ap, subst, ◌∙◌, refl, arith, inl, inr}
use Rattle.std.specs.Str.{IsUtf8, bytes_eq}
use Rattle.std.proofs.lemmas.Slice.Eq.{bytes_eq-Decides}
use Rattle.std.proofs.lemmas.List.{get_or_default}
use Rattle.std.specs.List.{list_all, list_any}
use Rattle.std.specs.Bool.{Decides}
use Rattle.std.specs.Ordering.{eq_by_cmp}
use Rattle.rdf_term.specs.TextOrder.{text_cmp, text_total}
use Rattle.rdf_term.specs.OrderLaws.{text_exact}
use Rattle.rdf_term.proofs.Same.{same_by_cmp}
use Rattle.rdf_term.specs.EachOnce.{EachOnce}
use Rattle.rdf_term.proofs.TextLemmas.{chars_of}
use Rattle.quad_index.specs.declared.letter.Letter.{Letter}
use Rattle.quad_index.specs.declared.letter.Letter.TheVariants.{S, P, O, C}
use Rattle.quad_index.specs.Letters.{IsArrangement, letter_byte, standard_orders}
use Rattle.api_replies.specs.Ids.{is_id}
use Rattle.session.specs.Houses.{AreNames}
use Rattle.rdf_server.specs.Words.{AreIds, AreOptions, IsStdio, kept_orders}

-- A word in UTF-8 and an ASCII text

pub word_is : (word s text : List ℕ) → IsUtf8 s → s ≡ encode_utf8_all word → encode_utf8_all text ≡ text → s ≡ text → word ≡ text
word_is word s text utf8 e plain same = sym (chars_of word s utf8 e) ∙ chars_of text s utf8 (same ∙ sym plain)

pub is_word : (word s text : List ℕ) → s ≡ encode_utf8_all word → encode_utf8_all text ≡ text → word ≡ text → s ≡ text
is_word word s text e plain same = e ∙ ap encode_utf8_all same ∙ plain

pub word_told : (r : Bool) (word s text : List ℕ) → IsUtf8 s → s ≡ encode_utf8_all word → encode_utf8_all text ≡ text → r ≡ bytes_eq s text
    → (IsTrue r → word ≡ text) × (word ≡ text → IsTrue r)
word_told r word s text utf8 e plain told =
    let decides = bytes_eq-Decides s text in
    (λ t. word_is word s text utf8 e plain (decides.0 (sym told ∙ t)), λ same. told ∙ decides.1 (is_word word s text e plain same))

pub plain_order : (order : List Letter) → encode_utf8_all (map letter_byte order) ≡ map letter_byte order
unfolding lib.Utf8.encode
plain_order [] = refl
plain_order (S ∷ order) = ap (λ cs. 115 ∷ cs) (plain_order order)
plain_order (P ∷ order) = ap (λ cs. 112 ∷ cs) (plain_order order)
plain_order (O ∷ order) = ap (λ cs. 111 ∷ cs) (plain_order order)
plain_order (C ∷ order) = ap (λ cs. 99 ∷ cs) (plain_order order)

pub some_order : (word s : List ℕ) (r : Option (List Letter)) → IsUtf8 s → s ≡ encode_utf8_all word
    → IfSome r (λ order. IsArrangement order × (s ≡ map letter_byte order)) → IfSome r (λ order. IsArrangement order × (word ≡ map letter_byte order))
some_order word s None utf8 e h = h
some_order word s (Some order) utf8 e h = (h.0, word_is word s (map letter_byte order) utf8 e (plain_order order) h.1)

pub no_order : (word s : List ℕ) (r : Option (List Letter)) → s ≡ encode_utf8_all word
    → IfNone r ((order : List Letter) → IsArrangement order → s ≡ map letter_byte order → ⊥)
    → IfNone r ((order : List Letter) → IsArrangement order → word ≡ map letter_byte order → ⊥)
no_order word s None e h = λ order is same. h order is (is_word word s (map letter_byte order) e (plain_order order) same)
no_order word s (Some order) e h = h

-- an order is told by its letters

same_letters : (a b : Letter) → letter_byte a ≡ letter_byte b → a ≡ b
same_letters S S e = refl
same_letters S P e = absurd (omega (arith, e))
same_letters S O e = absurd (omega (arith, e))
same_letters S C e = absurd (omega (arith, e))
same_letters P S e = absurd (omega (arith, e))
same_letters P P e = refl
same_letters P O e = absurd (omega (arith, e))
same_letters P C e = absurd (omega (arith, e))
same_letters O S e = absurd (omega (arith, e))
same_letters O P e = absurd (omega (arith, e))
same_letters O O e = refl
same_letters O C e = absurd (omega (arith, e))
same_letters C S e = absurd (omega (arith, e))
same_letters C P e = absurd (omega (arith, e))
same_letters C O e = absurd (omega (arith, e))
same_letters C C e = refl

pub head_same : {X : Type 0} (x y : X) (xs ys : List X) → x ∷ xs ≡ y ∷ ys → x ≡ y
head_same x y xs ys e = cc

pub tail_same : {X : Type 0} (x y : X) (xs ys : List X) → x ∷ xs ≡ y ∷ ys → xs ≡ ys
tail_same x y xs ys e = cc

pub same_order : (a b : List Letter) → map letter_byte a ≡ map letter_byte b → a ≡ b
same_order [] [] e = refl
same_order [] (y ∷ ys) e = cc
same_order (x ∷ xs) [] e = cc
same_order (x ∷ xs) (y ∷ ys) e =
    let first = same_letters x y (head_same _ _ _ _ e) in
    let rest = same_order xs ys (tail_same _ _ _ _ e) in
    λ i. first i ∷ rest i

-- Distinct IDs

pub contains_front : {X : Type 0} (x : X) (xs : List X) → Contains (x ∷ xs) x
contains_front x xs = (0, omega arith, refl)

pub contains_later : {X : Type 0} (x y : X) (xs : List X) → Contains xs y → Contains (x ∷ xs) y
contains_later x y xs h = (suc h.0, omega (arith, h.1), h.2)

pub no_ids : {X : Type 0} → EachOnce {X = X} []
no_ids i j d less within e = absurd (omega (arith, within))

pub once_more : {X : Type 0} (x : X) (xs : List X) → (Contains xs x → ⊥) → EachOnce xs → EachOnce (x ∷ xs)
once_more x xs new once i zero d less within e = absurd (omega (arith, less))
once_more x xs new once zero (suc j) d less within e =
    let inside : j < length xs = omega (arith, within) in
    new (j, inside, get_or_default xs j x d inside ∙ sym e)
once_more x xs new once (suc i) (suc j) d less within e = once i j d (omega (arith, less)) (omega (arith, within)) e

text_same : (x y : List ℕ) → Decides (eq_by_cmp text_cmp x y) (x ≡ y)
text_same x y = same_by_cmp text_total text_exact x y (eq_by_cmp text_cmp x y) refl

pub and_left : (a b : Bool) → IsTrue (a && b) → IsTrue a
and_left true b h = refl
and_left false b h = h

and_right : (a b : Bool) → IsTrue (a && b) → IsTrue b
and_right true b h = h
and_right false b h = cc

-- Contains of a list, by its front

pub contains_cases : {X : Type 0} (x y : X) (xs : List X) → Contains (x ∷ xs) y → (x ≡ y) ⊎ Contains xs y
contains_cases x y xs (zero, within, e) = inl e
contains_cases x y xs (suc k, within, e) = inr (k, omega (arith, within), e)

pub contains_none : {X : Type 0} (y : X) → Contains [] y → ⊥
contains_none y h = absurd (omega (arith, h.1))

among_more : (word x : List ℕ) (xs : List (List ℕ)) (same : Bool) → Decides same (x ≡ word) → {any : Bool} → Decides any (Contains xs word)
    → Decides (same || any) (Contains (x ∷ xs) word)
among_more word x xs true is any = (λ e. (0, omega arith, is.0 refl), λ h. refl)
among_more word x xs false is any = (
  λ e. contains_later x word xs (any.0 e),
  λ h. elim (contains_cases x word xs h) [
    | inl same ↦ absurd (true≢false (sym (is.1 same)))
    | inr later ↦ any.1 later
  ],
)

-- the test of a slice tells whether a word is among some

pub among : (word : List ℕ) (words : List (List ℕ)) → Decides (list_any (λ (y : List ℕ). eq_by_cmp text_cmp y word) words) (Contains words word)
among word [] = (λ e. cc, λ h. absurd (contains_none word h))
among word (x ∷ xs) = among_more word x xs (eq_by_cmp text_cmp x word) (text_same x word) (among word xs)

pub once_less : {X : Type 0} (x : X) (xs : List X) → EachOnce (x ∷ xs) → (Contains xs x → ⊥) × EachOnce xs
once_less x xs once =
    (λ h. once 0 (suc h.0) x (omega arith) (omega (arith, h.1)) (sym h.2), λ i j d less within. once (suc i) (suc j) d (omega (arith, less)) (omega (arith, within)))

pub ids_same : (names : List (List ℕ)) → (AreIds names → IsTrue (list_all is_id names) × EachOnce names) × (IsTrue (list_all is_id names) × EachOnce names → AreIds names)
ids_same [] = (λ t. (refl, no_ids), λ h. tt)
ids_same (x ∷ xs) =
    let rest = ids_same xs in (
      λ a. let tail = rest.0 a.2 in ((λ i. a.0 i && tail.0 i), once_more x xs a.1 tail.1),
      λ h. let once = once_less x xs h.1 in (and_left (is_id x) (list_all is_id xs) h.0, once.0, rest.1 (and_right (is_id x) (list_all is_id xs) h.0, once.1)),
    )

pub ids_repeated : (words left behind : List (List ℕ)) (word : List ℕ) (r : Bool) → (AreIds words → AreIds left) → left ≡ word ∷ behind
    → r ≡ list_any (λ (y : List ℕ). eq_by_cmp text_cmp y word) behind → r ≡ true → (IsTrue false → AreIds words) × (AreIds words → IsTrue false)
ids_repeated words left behind word r back e told holds = (
  λ t. absurd (true≢false (sym t)),
  λ a. absurd ((subst AreIds e (back a)).1 ((among word behind).0 (sym told ∙ holds))),
)

pub ids_step : (words left behind : List (List ℕ)) (word : List ℕ) (r : Bool) → (AreIds left → AreIds words) × (AreIds words → AreIds left) → left ≡ word ∷ behind → is_id word ≡ true
    → r ≡ list_any (λ (y : List ℕ). eq_by_cmp text_cmp y word) behind → r ≡ false → (AreIds behind → AreIds words) × (AreIds words → AreIds behind)
ids_step words left behind word r inv e is told fails = (
  λ a. inv.0 (subst AreIds (sym e) (is, λ h. true≢false (sym ((among word behind).1 h) ∙ sym told ∙ fails), a)),
  λ a. (subst AreIds e (inv.1 a)).2,
)

pub names_told : (words : List (List ℕ)) (r : Bool) → 1 ≤ length words → length words ≤ 16 → (IsTrue r → AreIds words) × (AreIds words → IsTrue r)
    → (IsTrue r → AreNames words) × (AreNames words → IsTrue r)
names_told words r some few told =
    let same = ids_same words in (
      λ t. let ids = same.0 (told.0 t) in record { some = some; few = few; ids = ids.0; once = ids.1 },
      λ names. told.1 (same.1 (names.ids, names.once)),
    )

-- Options

-- IDs don't begin with the key of an option
no_key : (ids rest : List (List ℕ)) → AreNames ids → ids ≡ codes "--order" ∷ rest → ⊥
no_key ids rest names e =
    let first : IsTrue (is_id (codes "--order")) = and_left (is_id (codes "--order")) (list_all is_id rest) (subst (λ (it : List (List ℕ)). IsTrue (list_all is_id it)) e names.ids) in
    true≢false (sym first)

-- where no option is at the front, there is none
pub option_none : (words : List (List ℕ)) (orders : List (List Letter)) (ids : List (List ℕ)) → AreOptions words orders ids
    → ((order : List Letter) (rest : List (List ℕ)) → IsArrangement order → words ≡ codes "--order" ∷ (map letter_byte order ∷ rest) → ⊥)
    → (orders ≡ []) × (words ≡ ids)
option_none words [] ids o none = (refl, o)
option_none words (order ∷ orders) ids o none = absurd (none order o.0 o.2 o.1)

-- the orders behind the option at the front
pub record Behind (orders : List (List Letter)) (ids : List (List ℕ)) (order : List Letter) (behind : List (List ℕ)) : Type 0 where
  pub later : List (List Letter)
  pub orders_are : orders ≡ order ∷ later
  pub new : Contains later order → ⊥
  pub options : AreOptions behind later ids

pub option_some : (words : List (List ℕ)) (orders : List (List Letter)) (ids : List (List ℕ)) (order : List Letter) (behind : List (List ℕ))
    → AreOptions words orders ids → AreNames ids → words ≡ codes "--order" ∷ (map letter_byte order ∷ behind) → Behind orders ids order behind
option_some words [] ids order behind o names e = absurd (no_key ids _ names (sym o ∙ e))
option_some words (first ∷ orders) ids order behind o names e =
    let cut = tail_same _ _ _ _ (sym o.1 ∙ e) in
    let same = same_order first order (head_same _ _ _ _ cut) in
    let rest = tail_same _ _ _ _ cut in
    record {
      later = orders;
      orders_are = ap (λ x. x ∷ orders) same;
      new = subst (λ (x : List Letter). Contains orders x → ⊥) same o.3;
      options = subst (λ (x : List (List ℕ)). AreOptions x orders ids) rest o.4;
    }

-- an order is named at the front, or behind it
pub named_none : (words : List (List ℕ)) (order : List Letter)
    → ((order : List Letter) (rest : List (List ℕ)) → IsArrangement order → words ≡ codes "--order" ∷ (map letter_byte order ∷ rest) → ⊥)
    → (orders : List (List Letter)) (ids : List (List ℕ)) → AreOptions words orders ids → AreNames ids → (IsTrue false → Contains orders order) × (Contains orders order → IsTrue false)
named_none words order none orders ids o names =
    let it = option_none words orders ids o none in
    (λ t. absurd (true≢false (sym t)), λ h. absurd (contains_none order (subst (λ (x : List (List Letter)). Contains x order) it.0 h)))

pub named_front : (words : List (List ℕ)) (order other : List Letter) (behind : List (List ℕ)) (r : Bool) → r ≡ true → words ≡ codes "--order" ∷ (map letter_byte other ∷ behind) → other ≡ order
    → (orders : List (List Letter)) (ids : List (List ℕ)) → AreOptions words orders ids → AreNames ids → (IsTrue r → Contains orders order) × (Contains orders order → IsTrue r)
named_front words order other behind r is e same orders ids o names =
    let it = option_some words orders ids other behind o names e in
    (λ t. subst (λ (x : List (List Letter)). Contains x order) (sym it.orders_are) (0, omega arith, same), λ h. is)

pub named_behind : (words : List (List ℕ)) (order other : List Letter) (behind : List (List ℕ)) (r : Bool) → words ≡ codes "--order" ∷ (map letter_byte other ∷ behind) → (other ≡ order → ⊥)
    → ((orders : List (List Letter)) (ids : List (List ℕ)) → AreOptions behind orders ids → AreNames ids → (IsTrue r → Contains orders order) × (Contains orders order → IsTrue r))
    → (orders : List (List Letter)) (ids : List (List ℕ)) → AreOptions words orders ids → AreNames ids → (IsTrue r → Contains orders order) × (Contains orders order → IsTrue r)
named_behind words order other behind r e differs told orders ids o names =
    let it = option_some words orders ids other behind o names e in
    let rest = told it.later ids it.options names in (
      λ t. subst (λ (x : List (List Letter)). Contains x order) (sym it.orders_are) (contains_later other order it.later (rest.0 t)),
      λ h. elim (contains_cases other order it.later (subst (λ (x : List (List Letter)). Contains x order) it.orders_are h)) [
        | inl same ↦ absurd (differs same)
        | inr later ↦ rest.1 later
      ],
    )

-- no order is named twice
pub named_once : (words : List (List ℕ)) (before : List (List Letter)) (order : List Letter) (later : List (List Letter)) (ids : List (List ℕ))
    → AreOptions words (before ++ order ∷ later) ids → Contains before order → ⊥
named_once words [] order later ids o h = contains_none order h
named_once words (x ∷ before) order later ids o h =
    elim (contains_cases x order before h) [
      | inl same ↦ o.3 (subst (λ (y : List Letter). Contains (before ++ order ∷ later) y) (sym same) (contains_among before order later))
      | inr behind ↦ named_once o.0 before order later ids o.4 behind
    ]
  where
    contains_among : (xs : List (List Letter)) (y : List Letter) (ys : List (List Letter)) → Contains (xs ++ y ∷ ys) y
    contains_among [] y ys = (0, omega arith, refl)
    contains_among (x ∷ xs) y ys = contains_later x y (xs ++ y ∷ ys) (contains_among xs y ys)

-- one order more
pub orders_step : (words left behind : List (List ℕ)) (out out' : List (List Letter)) (order : List Letter) (added : Bool)
    → (IsTrue added → Contains out order → ⊥) × ((Contains out order → ⊥) → IsTrue added) → out' ≡ (if added then out ++ order ∷ [] else out)
    → left ≡ codes "--order" ∷ (map letter_byte order ∷ behind)
    → (orders : List (List Letter)) (ids : List (List ℕ)) → AreOptions words orders ids → AreNames ids
    → (later : List (List Letter)) × AreOptions left later ids × (orders ≡ out ++ later) → (later : List (List Letter)) × AreOptions behind later ids × (orders ≡ out' ++ later)
orders_step words left behind out out' order added new grown e orders ids o names inv =
    let it = option_some left inv.0 ids order behind inv.1 names e in
    let whole : orders ≡ out ++ order ∷ it.later = inv.2 ∙ ap (λ (x : List (List Letter)). out ++ x) it.orders_are in
    let holds : added ≡ true = new.1 (named_once words out order it.later ids (subst (λ (x : List (List Letter)). AreOptions words x ids) whole o)) in
    let longer : out' ≡ out ++ order ∷ [] = grown ∙ ap (λ (b : Bool). if b then out ++ order ∷ [] else out) holds in
    (it.later, it.options, whole ∙ sym (append_assoc out (order ∷ []) it.later) ∙ ap (λ (x : List (List Letter)). x ++ it.later) (sym longer))

pub orders_all : (words left : List (List ℕ)) (out : List (List Letter))
    → ((order : List Letter) (rest : List (List ℕ)) → IsArrangement order → left ≡ codes "--order" ∷ (map letter_byte order ∷ rest) → ⊥)
    → (orders : List (List Letter)) (ids : List (List ℕ)) → (later : List (List Letter)) × AreOptions left later ids × (orders ≡ out ++ later) → out ≡ orders
orders_all words left out none orders ids inv =
    sym (inv.2 ∙ ap (λ (x : List (List Letter)). out ++ x) (option_none left inv.0 ids inv.1 none).0 ∙ append-nil out)

-- The IDs behind the options

pub no_more : (words : List (List ℕ)) (most : ℕ) (r : Bool) → (IsTrue r → AreNames words) × (AreNames words → IsTrue r) → r ≡ false
    → ((order : List Letter) (rest : List (List ℕ)) → IsArrangement order → words ≡ codes "--order" ∷ (map letter_byte order ∷ rest) → ⊥)
    → (orders : List (List Letter)) (ids : List (List ℕ)) → AreOptions words orders ids → length orders ≤ most → AreNames ids → ⊥
no_more words most r told fails none orders ids o few names =
    let it = option_none words orders ids o none in
    true≢false (sym (told.1 (subst AreNames (sym it.1) names)) ∙ fails)

pub too_many : (words behind : List (List ℕ)) (order : List Letter) (most : ℕ) → words ≡ codes "--order" ∷ (map letter_byte order ∷ behind) → most ≡ 0
    → (orders : List (List Letter)) (ids : List (List ℕ)) → AreOptions words orders ids → length orders ≤ most → AreNames ids → ⊥
too_many words behind order most e none orders ids o few names =
    let it = option_some words orders ids order behind o names e in
    let n : length orders ≡ suc (length it.later) = ap length it.orders_are in
    absurd (omega (arith, n, few, none))

pub named_twice : (words behind : List (List ℕ)) (order : List Letter) (most : ℕ) (r : Bool) → words ≡ codes "--order" ∷ (map letter_byte order ∷ behind)
    → ((orders : List (List Letter)) (ids : List (List ℕ)) → AreOptions behind orders ids → AreNames ids → (IsTrue r → Contains orders order) × (Contains orders order → IsTrue r))
    → r ≡ true → (orders : List (List Letter)) (ids : List (List ℕ)) → AreOptions words orders ids → length orders ≤ most → AreNames ids → ⊥
named_twice words behind order most r e told holds orders ids o few names =
    let it = option_some words orders ids order behind o names e in
    it.new ((told it.later ids it.options names).0 holds)

pub more_orders : (words behind : List (List ℕ)) (order : List Letter) (most : ℕ) (r : Bool) (result : Option (Bor (List (List ℕ)))) → IsArrangement order
    → words ≡ codes "--order" ∷ (map letter_byte order ∷ behind) → 0 < most
    → ((orders : List (List Letter)) (ids : List (List ℕ)) → AreOptions behind orders ids → AreNames ids → (IsTrue r → Contains orders order) × (Contains orders order → IsTrue r))
    → r ≡ false
    → IfSome result (λ ids. AreNames ids.now × ((orders : List (List Letter)) × AreOptions behind orders ids.now × (length orders ≤ most - 1)))
    → IfSome result (λ ids. AreNames ids.now × ((orders : List (List Letter)) × AreOptions words orders ids.now × (length orders ≤ most)))
more_orders words behind order most r None is e some told fails h = h
more_orders words behind order most r (Some ids) is e some told fails h =
    let orders = h.1.0 in
    let least : length orders ≤ most - 1 = h.1.2 in
    (h.0, (order ∷ orders, (behind, e, is, (λ c. true≢false (sym ((told orders ids.now h.1.1 h.0).1 c) ∙ fails)), h.1.1), omega (arith, least, some)))

pub no_later : (words behind : List (List ℕ)) (order : List Letter) (most : ℕ) (result : Option (Bor (List (List ℕ)))) → words ≡ codes "--order" ∷ (map letter_byte order ∷ behind) → 0 < most
    → IfNone result ((orders : List (List Letter)) (ids : List (List ℕ)) → AreOptions behind orders ids → length orders ≤ most - 1 → AreNames ids → ⊥)
    → IfNone result ((orders : List (List Letter)) (ids : List (List ℕ)) → AreOptions words orders ids → length orders ≤ most → AreNames ids → ⊥)
no_later words behind order most (Some it) e some h = h
no_later words behind order most None e some h = λ orders ids o few names.
    let it = option_some words orders ids order behind o names e in
    let n : length orders ≡ suc (length it.later) = ap length it.orders_are in
    h it.later ids it.options (omega (arith, n, few, some)) names

-- The words as a whole

pub no_words : (words : List (List ℕ)) → length words ≡ 0 → (orders : List (List Letter)) (ids : List (List ℕ)) → IsStdio words orders ids → ⊥
no_words words none orders ids it =
    let n : length words ≡ suc (length it.behind) = ap length it.words_are in
    absurd (omega (arith, n, none))

pub other_command : (words behind : List (List ℕ)) (command : List ℕ) → words ≡ command ∷ behind → (command ≡ codes "stdio" → ⊥)
    → (orders : List (List Letter)) (ids : List (List ℕ)) → IsStdio words orders ids → ⊥
other_command words behind command e differs orders ids it = differs (head_same _ _ _ _ (sym e ∙ it.words_are))

pub other_words : (words behind : List (List ℕ)) (command : List ℕ) → words ≡ command ∷ behind
    → ((orders : List (List Letter)) (ids : List (List ℕ)) → AreOptions behind orders ids → length orders ≤ 6 → AreNames ids → ⊥)
    → (orders : List (List Letter)) (ids : List (List ℕ)) → IsStdio words orders ids → ⊥
other_words words behind command e none orders ids it =
    none orders ids (subst (λ (x : List (List ℕ)). AreOptions x orders ids) (tail_same _ _ _ _ (sym it.words_are ∙ e)) it.options) it.few it.names

-- the orders and the IDs of words are one

pub same_parts : (words : List (List ℕ)) (orders orders' : List (List Letter)) (ids ids' : List (List ℕ)) → AreOptions words orders ids → AreNames ids
    → AreOptions words orders' ids' → AreNames ids' → (orders ≡ orders') × (ids ≡ ids')
same_parts words [] [] ids ids' o names o' names' = (refl, sym o ∙ o')
same_parts words [] (order ∷ orders') ids ids' o names o' names' = absurd (no_key ids _ names (sym o ∙ o'.1))
same_parts words (order ∷ orders) [] ids ids' o names o' names' = absurd (no_key ids' _ names' (sym o' ∙ o.1))
same_parts words (order ∷ orders) (order' ∷ orders') ids ids' o names o' names' =
    let it = option_some words (order' ∷ orders') ids' order o.0 o' names' o.1 in
    let first : order' ≡ order = head_same _ _ _ _ it.orders_are in
    let behind : orders' ≡ it.later = tail_same _ _ _ _ it.orders_are in
    let rest = same_parts o.0 orders it.later ids ids' o.4 names it.options names' in
    ((λ i. sym first i ∷ (rest.0 ∙ sym behind) i), rest.1)

pub kept : (orders orders' kept : List (List Letter)) → orders ≡ orders' → (length orders ≡ 0 → kept ≡ standard_orders) → (0 < length orders → kept ≡ orders) → kept ≡ kept_orders orders'
kept [] orders' k same none some = none refl ∙ ap kept_orders same
kept (x ∷ xs) orders' k same none some = some (omega arith) ∙ ap kept_orders same

-- the same of equal lists

abbrev pub Told : List (List ℕ) → List Letter → Bool → Type 0
Told behind order r = (orders : List (List Letter)) (ids : List (List ℕ)) → AreOptions behind orders ids → AreNames ids → (IsTrue r → Contains orders order) × (Contains orders order → IsTrue r)

pub told_behind : (behind behind' : List (List ℕ)) (order : List Letter) (r : Bool) → behind ≡ behind' → Told behind order r → Told behind' order r
told_behind behind behind' order r e told = subst (λ (x : List (List ℕ)). Told x order r) e told
