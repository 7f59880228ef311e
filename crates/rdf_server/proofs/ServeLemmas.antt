-- The words of `serve`.
use Rattle.std.proofs.Common.{◌≡◌, ℕ, zero, suc, ◌≤◌, ◌<◌, ◌+◌, ◌^◌, Bool, true, false, true≢false, All, List, [], ◌∷◌, ◌++◌, IsTrue, length, decimal, encode_utf8_all, Some, None, Contains, sym, ap, subst, ◌∙◌, refl, arith, inl, inr}
use Rattle.std.specs.List.{list_all}
use Rattle.std.specs.Str.{IsUtf8, bytes_eq}
use Rattle.std.proofs.lemmas.Fmt.{IsAscii-decimal, decimal_injective}
use Rattle.std.proofs.lemmas.Bool.Decides.{not_from_Decides}
use Rattle.std.proofs.lemmas.Slice.Eq.{bytes_eq-Decides}
use Rattle.std.proofs.lemmas.Str.{encodes_same, encodes-IsAscii}
use Rattle.quad_index.specs.declared.letter.Letter.{Letter}
use Rattle.api_replies.specs.Ids.{is_id}
use Rattle.session.specs.Houses.{AreNames}
use Rattle.rdf_server.specs.declared.plan.Named.{Named}
use Rattle.rdf_server.specs.declared.serve_option.OptionKind.{OptionKind}
use Rattle.rdf_server.specs.declared.serve_option.OptionKind.TheVariants as kind
use Rattle.rdf_server.specs.declared.serve_option.ServeOption.{ServeOption}
use Rattle.rdf_server.specs.declared.serve_option.ServeOption.TheVariants.{Order, Port, Workers, Connections}
use Rattle.rdf_server.specs.Readings.{AreNamed, AreOnce, AreRead}
use Rattle.rdf_server.specs.ServeWords.{IsOption, connections_in, kind_of, kind_word, listed, option_words, orders_in, ports_in, value_word, workers_in}
use Rattle.rdf_server.proofs.WordLemmas.{and_left, contains_cases, contains_later, contains_none, head_same, no_ids, once_less, once_more, same_order, tail_same, word_told}

-- A word in UTF-8 and a number

pub number_is : (word s : List ℕ) (n : ℕ) → s ≡ encode_utf8_all word → n < 2 ^ 64 → s ≡ decimal n → word ≡ decimal n
number_is word s n e small same = encodes_same word (decimal n) (sym e ∙ same ∙ sym (encodes-IsAscii (decimal n) (IsAscii-decimal n small)))

pub is_number : (word s : List ℕ) (n : ℕ) → s ≡ encode_utf8_all word → n < 2 ^ 64 → word ≡ decimal n → s ≡ decimal n
is_number word s n e small same = e ∙ ap encode_utf8_all same ∙ encodes-IsAscii (decimal n) (IsAscii-decimal n small)

-- no number from 1 on is 0 or greater than the most
pub not_zero : (word s : List ℕ) (m : ℕ) → s ≡ encode_utf8_all word → s ≡ decimal m → m ≡ 0 → (n : ℕ) → n < 2 ^ 64 → 1 ≤ n → word ≡ decimal n → ⊥
not_zero word s m e is none n small some same =
    absurd (omega (arith, decimal_injective m n (omega (arith, none)) small (sym is ∙ is_number word s n e small same), none, some))

pub not_more : (word s : List ℕ) (m most : ℕ) → s ≡ encode_utf8_all word → m < 2 ^ 64 → s ≡ decimal m → most < m → (n : ℕ) → n < 2 ^ 64 → n ≤ most → word ≡ decimal n → ⊥
not_more word s m most e fits is more n small few same =
    absurd (omega (arith, decimal_injective m n fits small (sym is ∙ is_number word s n e small same), more, few))

-- bytes that are found to differ are not the same
pub differ : (a b : List ℕ) → false ≡ bytes_eq a b → a ≡ b → ⊥
differ a b told same = not_from_Decides _ (bytes_eq-Decides a b) (sym told) same

-- Kinds

pub plain_kind : (k : OptionKind) → encode_utf8_all (kind_word k) ≡ kind_word k
unfolding lib.Utf8.encode
plain_kind kind.Order = refl
plain_kind kind.Port = refl
plain_kind kind.Workers = refl
plain_kind kind.Connections = refl

pub kind_told : (r : Bool) (word s text : List ℕ) (k : OptionKind) → IsUtf8 s → s ≡ encode_utf8_all word → text ≡ kind_word k → r ≡ bytes_eq s text
    → (IsTrue r → word ≡ kind_word k) × (word ≡ kind_word k → IsTrue r)
kind_told r word s text k utf8 e is told = word_told r word s (kind_word k) utf8 e (plain_kind k) (told ∙ ap (bytes_eq s) is)

pub same_kind : (k l : OptionKind) → kind_word k ≡ kind_word l → k ≡ l
same_kind kind.Order kind.Order e = refl
same_kind kind.Order kind.Port e = absurd (omega (arith, ap length e))
same_kind kind.Order kind.Workers e = absurd (omega (arith, ap length e))
same_kind kind.Order kind.Connections e = absurd (omega (arith, ap length e))
same_kind kind.Port kind.Order e = absurd (omega (arith, ap length e))
same_kind kind.Port kind.Port e = refl
same_kind kind.Port kind.Workers e = absurd (omega (arith, ap length e))
same_kind kind.Port kind.Connections e = absurd (omega (arith, ap length e))
same_kind kind.Workers kind.Order e = absurd (omega (arith, ap length e))
same_kind kind.Workers kind.Port e = absurd (omega (arith, ap length e))
same_kind kind.Workers kind.Workers e = refl
same_kind kind.Workers kind.Connections e = absurd (omega (arith, ap length e))
same_kind kind.Connections kind.Order e = absurd (omega (arith, ap length e))
same_kind kind.Connections kind.Port e = absurd (omega (arith, ap length e))
same_kind kind.Connections kind.Workers e = absurd (omega (arith, ap length e))
same_kind kind.Connections kind.Connections e = refl

-- a word that is none of the four is the first one of no option
pub no_kind : (word : List ℕ) (a b c d : Bool) → (word ≡ kind_word kind.Order → IsTrue a) → (word ≡ kind_word kind.Port → IsTrue b) → (word ≡ kind_word kind.Workers → IsTrue c)
    → (word ≡ kind_word kind.Connections → IsTrue d) → a ≡ false → b ≡ false → c ≡ false → d ≡ false → (k : OptionKind) → word ≡ kind_word k → ⊥
no_kind word a b c d ha hb hc hd fa fb fc fd kind.Order e = true≢false (sym (ha e) ∙ fa)
no_kind word a b c d ha hb hc hd fa fb fc fd kind.Port e = true≢false (sym (hb e) ∙ fb)
no_kind word a b c d ha hb hc hd fa fb fc fd kind.Workers e = true≢false (sym (hc e) ∙ fc)
no_kind word a b c d ha hb hc hd fa fb fc fd kind.Connections e = true≢false (sym (hd e) ∙ fd)

-- IDs don't begin with the first word of an option
not_id : (k : OptionKind) → is_id (kind_word k) ≡ false
not_id kind.Order = refl
not_id kind.Port = refl
not_id kind.Workers = refl
not_id kind.Connections = refl

no_key : (k : OptionKind) (ids rest : List (List ℕ)) → AreNames ids → ids ≡ kind_word k ∷ rest → ⊥
no_key k ids rest names e =
    let first : IsTrue (is_id (kind_word k)) = and_left (is_id (kind_word k)) (list_all is_id rest) (subst (λ (it : List (List ℕ)). IsTrue (list_all is_id it)) e names.ids) in
    true≢false (sym first ∙ not_id k)

-- Options

-- an option is told by its words
same_value : (a b : ServeOption) → IsOption a → IsOption b → kind_of a ≡ kind_of b → value_word a ≡ value_word b → a ≡ b
same_value (Order a) (Order b) p q k e = ap Order (same_order a b e)
same_value (Order a) (Port b) p q k e = cc
same_value (Order a) (Workers b) p q k e = cc
same_value (Order a) (Connections b) p q k e = cc
same_value (Port a) (Order b) p q k e = cc
same_value (Port a) (Port b) p q k e = ap Port (decimal_injective a b (omega (arith, p.1)) (omega (arith, q.1)) e)
same_value (Port a) (Workers b) p q k e = cc
same_value (Port a) (Connections b) p q k e = cc
same_value (Workers a) (Order b) p q k e = cc
same_value (Workers a) (Port b) p q k e = cc
same_value (Workers a) (Workers b) p q k e = ap Workers (decimal_injective a b (omega (arith, p.1)) (omega (arith, q.1)) e)
same_value (Workers a) (Connections b) p q k e = cc
same_value (Connections a) (Order b) p q k e = cc
same_value (Connections a) (Port b) p q k e = cc
same_value (Connections a) (Workers b) p q k e = cc
same_value (Connections a) (Connections b) p q k e = ap Connections (decimal_injective a b (omega (arith, p.1)) (omega (arith, q.1)) e)

pub same_front : (a b : ServeOption) (xs ys : List (List ℕ)) → IsOption a → IsOption b
    → kind_word (kind_of a) ∷ (value_word a ∷ xs) ≡ kind_word (kind_of b) ∷ (value_word b ∷ ys) → (a ≡ b) × (xs ≡ ys)
same_front a b xs ys p q e =
    let cut = tail_same _ _ _ _ e in
    (same_value a b p q (same_kind (kind_of a) (kind_of b) (head_same _ _ _ _ e)) (head_same _ _ _ _ cut), tail_same _ _ _ _ cut)

all_front : {X : Type 0} (P : X → Type 0) (x : X) (xs : List X) → All P (x ∷ xs) → P x
all_front P x xs h = h 0 x (omega arith)

all_behind : {X : Type 0} (P : X → Type 0) (x : X) (xs : List X) → All P (x ∷ xs) → All P xs
all_behind P x xs h = λ k d less. h (suc k) d (omega (arith, less))

all_more : {X : Type 0} (P : X → Type 0) (x : X) (xs : List X) → P x → All P xs → All P (x ∷ xs)
all_more P x xs p h zero d less = p
all_more P x xs p h (suc k) d less = h k d (omega (arith, less))

all_none : {X : Type 0} (P : X → Type 0) → All P []
all_none P k d less = absurd (omega (arith, less))

-- where no option is at the front, there is none
pub read_none : (words : List (List ℕ)) (options : List ServeOption) (ids : List (List ℕ)) → AreRead words options ids
    → ((it : ServeOption) (rest : List (List ℕ)) → IsOption it → words ≡ kind_word (kind_of it) ∷ (value_word it ∷ rest) → ⊥) → (options ≡ []) × (words ≡ ids)
read_none words [] ids r none = (refl, r.words_are)
read_none words (it ∷ options) ids r none = absurd (none it (option_words options ++ ids) (all_front IsOption it options r.right) r.words_are)

-- the options behind the one at the front
pub record Behind (options : List ServeOption) (ids : List (List ℕ)) (it : ServeOption) (behind : List (List ℕ)) : Type 0 where
  pub later : List ServeOption
  pub options_are : options ≡ it ∷ later
  pub read : AreRead behind later ids

pub read_some : (words : List (List ℕ)) (options : List ServeOption) (ids : List (List ℕ)) (it : ServeOption) (behind : List (List ℕ)) → AreRead words options ids → IsOption it
    → words ≡ kind_word (kind_of it) ∷ (value_word it ∷ behind) → Behind options ids it behind
read_some words [] ids it behind r is e = absurd (no_key (kind_of it) ids _ r.names (sym r.words_are ∙ e))
read_some words (first ∷ options) ids it behind r is e =
    let same = same_front first it (option_words options ++ ids) behind (all_front IsOption first options r.right) is (sym r.words_are ∙ e) in
    record {
      later = options;
      options_are = ap (λ (x : ServeOption). x ∷ options) same.0;
      read = record { words_are = sym same.1; right = all_behind IsOption first options r.right; names = r.names };
    }

-- one option more
pub read_more : (words : List (List ℕ)) (options : List ServeOption) (ids : List (List ℕ)) (it : ServeOption) (behind : List (List ℕ)) → AreRead behind options ids → IsOption it
    → words ≡ kind_word (kind_of it) ∷ (value_word it ∷ behind) → AreRead words (it ∷ options) ids
read_more words options ids it behind r is e = record {
  words_are = e ∙ ap (λ (x : List (List ℕ)). kind_word (kind_of it) ∷ (value_word it ∷ x)) r.words_are;
  right = all_more IsOption it options is r.right;
  names = r.names;
}

pub read_nothing : (words : List (List ℕ)) → AreNames words → AreRead words [] words
read_nothing words names = record { words_are = refl; right = all_none IsOption; names = names }

-- words are read in one way
pub same_read : (words : List (List ℕ)) (options options' : List ServeOption) (ids ids' : List (List ℕ)) → AreRead words options ids → AreRead words options' ids'
    → (options ≡ options') × (ids ≡ ids')
same_read words [] [] ids ids' r r' = (refl, sym r.words_are ∙ r'.words_are)
same_read words [] (it ∷ options') ids ids' r r' = absurd (no_key (kind_of it) ids _ r.names (sym r.words_are ∙ r'.words_are))
same_read words (it ∷ options) [] ids ids' r r' = absurd (no_key (kind_of it) ids' _ r'.names (sym r'.words_are ∙ r.words_are))
same_read words (it ∷ options) (it' ∷ options') ids ids' r r' =
    let b = read_some words (it' ∷ options') ids' it (option_words options ++ ids) r' (all_front IsOption it options r.right) r.words_are in
    let own : AreRead (option_words options ++ ids) options ids = record { words_are = refl; right = all_behind IsOption it options r.right; names = r.names } in
    let rest = same_read (option_words options ++ ids) options b.later ids ids' own b.read in
    (ap (λ (x : List ServeOption). it ∷ x) rest.0 ∙ sym b.options_are, rest.1)

-- Orders

-- the answer tells whether an order is named by the options at the front of words
abbrev pub Told : List (List ℕ) → List Letter → Bool → Type 0
Told words order r = (options : List ServeOption) (ids : List (List ℕ)) → AreRead words options ids → (IsTrue r → Contains (orders_in options) order) × (Contains (orders_in options) order → IsTrue r)

pub told_none : (words : List (List ℕ)) (order : List Letter) → ((it : ServeOption) (rest : List (List ℕ)) → IsOption it → words ≡ kind_word (kind_of it) ∷ (value_word it ∷ rest) → ⊥)
    → Told words order false
told_none words order none options ids r =
    let it = read_none words options ids r none in
    (λ t. absurd (true≢false (sym t)), λ h. absurd (contains_none order (subst (λ (x : List ServeOption). Contains (orders_in x) order) it.0 h)))

pub told_front : (words behind : List (List ℕ)) (order : List Letter) (it : ServeOption) (r : Bool) → r ≡ true → IsOption it
    → words ≡ kind_word (kind_of it) ∷ (value_word it ∷ behind) → it ≡ Order order → Told words order r
told_front words behind order it r holds is e same options ids read =
    let b = read_some words options ids it behind read is e in
    let whole : options ≡ Order order ∷ b.later = b.options_are ∙ ap (λ (x : ServeOption). x ∷ b.later) same in
    (λ t. subst (λ (x : List ServeOption). Contains (orders_in x) order) (sym whole) (0, omega arith, refl), λ h. holds)

among_later : (it : ServeOption) (order : List Letter) (later : List ServeOption) → Contains (orders_in later) order → Contains (orders_in (it ∷ later)) order
among_later (Order other) order later h = contains_later other order (orders_in later) h
among_later (Port n) order later h = h
among_later (Workers n) order later h = h
among_later (Connections n) order later h = h

only_later : (it : ServeOption) (order : List Letter) (later : List ServeOption) → (it ≡ Order order → ⊥) → Contains (orders_in (it ∷ later)) order → Contains (orders_in later) order
only_later (Order other) order later differs h = elim (contains_cases other order (orders_in later) h) [
  | inl same ↦ absurd (differs (ap Order same))
  | inr behind ↦ behind
]
only_later (Port n) order later differs h = h
only_later (Workers n) order later differs h = h
only_later (Connections n) order later differs h = h

pub told_behind : (words behind : List (List ℕ)) (order : List Letter) (it : ServeOption) (r : Bool) → IsOption it
    → words ≡ kind_word (kind_of it) ∷ (value_word it ∷ behind) → (it ≡ Order order → ⊥) → Told behind order r → Told words order r
told_behind words behind order it r is e differs told options ids read =
    let b = read_some words options ids it behind read is e in
    let rest = told b.later ids b.read in (
      λ t. subst (λ (x : List ServeOption). Contains (orders_in x) order) (sym b.options_are) (among_later it order b.later (rest.0 t)),
      λ h. rest.1 (only_later it order b.later differs (subst (λ (x : List ServeOption). Contains (orders_in x) order) b.options_are h)),
    )

-- Options that can stand together

pub nothing_once : AreOnce []
nothing_once = record { differ = no_ids; few = omega arith; port = omega arith; workers = omega arith; connections = omega arith }

pub once_behind : (it : ServeOption) (options : List ServeOption) → AreOnce (it ∷ options) → AreOnce options
once_behind (Order order) options o = record {
  differ = (once_less order (orders_in options) o.differ).1;
  few = omega (arith, o.few);
  port = o.port;
  workers = o.workers;
  connections = o.connections;
}
once_behind (Port n) options o = record { differ = o.differ; few = o.few; port = omega (arith, o.port); workers = o.workers; connections = o.connections }
once_behind (Workers n) options o = record { differ = o.differ; few = o.few; port = o.port; workers = omega (arith, o.workers); connections = o.connections }
once_behind (Connections n) options o = record { differ = o.differ; few = o.few; port = o.port; workers = o.workers; connections = omega (arith, o.connections) }

-- an order more
pub order_more : (order : List Letter) (options : List ServeOption) (named new : Named) → AreOnce options → AreNamed options named → named.orders < 6 → (Contains (orders_in options) order → ⊥)
    → new ≡ record named { orders = named.orders + 1 } → AreOnce (Order order ∷ options) × AreNamed (Order order ∷ options) new
order_more order options named new o a less differs e =
    let few : length (orders_in options) < 6 = omega (arith, a.orders, less) in
    let more : length (orders_in options) + 1 ≡ named.orders + 1 = omega (arith, a.orders) in
    let it : AreNamed (Order order ∷ options) (record named { orders = named.orders + 1 }) = record { orders = omega (arith, more); port = a.port; workers = a.workers; connections = a.connections } in (
      record {
        differ = once_more order (orders_in options) differs o.differ;
        few = omega (arith, few);
        port = o.port;
        workers = o.workers;
        connections = o.connections;
      },
      subst (λ (x : Named). AreNamed (Order order ∷ options) x) (sym e) it,
    )

pub port_more : (n : ℕ) (options : List ServeOption) (named new : Named) → AreOnce options → AreNamed options named → named.port ≡ None
    → new ≡ record named { port = Some n } → AreOnce (Port n ∷ options) × AreNamed (Port n ∷ options) new
port_more n options named new o a none e =
    let before : ports_in options ≡ [] = a.port ∙ ap listed none in
    let it : AreNamed (Port n ∷ options) (record named { port = Some n }) = record { orders = a.orders; port = ap (λ (x : List ℕ). n ∷ x) before; workers = a.workers; connections = a.connections } in (
      record { differ = o.differ; few = o.few; port = omega (arith, ap length before); workers = o.workers; connections = o.connections },
      subst (λ (x : Named). AreNamed (Port n ∷ options) x) (sym e) it,
    )

pub workers_more : (n : ℕ) (options : List ServeOption) (named new : Named) → AreOnce options → AreNamed options named → named.workers ≡ None
    → new ≡ record named { workers = Some n } → AreOnce (Workers n ∷ options) × AreNamed (Workers n ∷ options) new
workers_more n options named new o a none e =
    let before : workers_in options ≡ [] = a.workers ∙ ap listed none in
    let it : AreNamed (Workers n ∷ options) (record named { workers = Some n }) = record { orders = a.orders; port = a.port; workers = ap (λ (x : List ℕ). n ∷ x) before; connections = a.connections } in (
      record { differ = o.differ; few = o.few; port = o.port; workers = omega (arith, ap length before); connections = o.connections },
      subst (λ (x : Named). AreNamed (Workers n ∷ options) x) (sym e) it,
    )

pub connections_more : (n : ℕ) (options : List ServeOption) (named new : Named) → AreOnce options → AreNamed options named → named.connections ≡ None
    → new ≡ record named { connections = Some n } → AreOnce (Connections n ∷ options) × AreNamed (Connections n ∷ options) new
connections_more n options named new o a none e =
    let before : connections_in options ≡ [] = a.connections ∙ ap listed none in
    let it : AreNamed (Connections n ∷ options) (record named { connections = Some n }) = record { orders = a.orders; port = a.port; workers = a.workers; connections = ap (λ (x : List ℕ). n ∷ x) before } in (
      record { differ = o.differ; few = o.few; port = o.port; workers = o.workers; connections = omega (arith, ap length before) },
      subst (λ (x : Named). AreNamed (Connections n ∷ options) x) (sym e) it,
    )

-- where something stands already, none of it can be added

pub orders_full : (order : List Letter) (options : List ServeOption) (named : Named) → AreNamed options named → 6 ≤ named.orders → AreOnce (Order order ∷ options) → ⊥
orders_full order options named a full o = absurd (omega (arith, a.orders, full, o.few))

pub order_again : (order : List Letter) (options : List ServeOption) → Contains (orders_in options) order → AreOnce (Order order ∷ options) → ⊥
order_again order options h o = (once_less order (orders_in options) o.differ).0 h

pub port_again : (n m : ℕ) (options : List ServeOption) (named : Named) → AreNamed options named → named.port ≡ Some m → AreOnce (Port n ∷ options) → ⊥
port_again n m options named a some o = absurd (omega (arith, ap length (a.port ∙ ap listed some), o.port))

pub workers_again : (n m : ℕ) (options : List ServeOption) (named : Named) → AreNamed options named → named.workers ≡ Some m → AreOnce (Workers n ∷ options) → ⊥
workers_again n m options named a some o = absurd (omega (arith, ap length (a.workers ∙ ap listed some), o.workers))

pub connections_again : (n m : ℕ) (options : List ServeOption) (named : Named) → AreNamed options named → named.connections ≡ Some m → AreOnce (Connections n ∷ options) → ⊥
connections_again n m options named a some o = absurd (omega (arith, ap length (a.connections ∙ ap listed some), o.connections))
