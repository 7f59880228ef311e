-- The names of variables, as a list of JSON strings and as a set.
use Rattle.std.proofs.Common.{◌≡◌, ℕ, suc, zero, ◌<◌, ◌+◌, List, [], ◌∷◌, ◌++◌, Bool, true, false, ◌||◌, Some, None, Ordering, Less, Equal, Greater, refl, sym, ap, ap₂, ◌∙◌, subst, arith, length, get_or, take, map, encode_utf8_all, nat_cmp, Bor, true≢false, is_eq, inl, inr}
use Rattle.std.specs.BTreeMap.{is_at}
use Rattle.std.specs.BTreeSet.{insert_key}
use Rattle.std.specs.Cmp.Lexicographic.{slice_cmp}
use Rattle.std.specs.List.{list_any, Contains}
use Rattle.std.specs.Ordering.{match_ordering}
use Rattle.std.specs.Str.{bytes_eq}
use Rattle.std.proofs.lemmas.Bool.{or_cases}
use Rattle.std.proofs.lemmas.List.{take_more, map-append}
use Rattle.std.proofs.lemmas.Map.Text.{is_eq-slice_cmp}
use Rattle.std.proofs.lemmas.Slice.Eq.{bytes_eq-Decides}
use Rattle.std.proofs.lemmas.Str.{encodes_same}
use Rattle.rdf_term.specs.EachOnce.{EachOnce}
use Rattle.serde_json.specs.Data.{Data, null, boolean, number, string, array, object}
use Rattle.serde_json.specs.Find.{as_str}
use Rattle.serde_json.specs.View.{view}
use Rattle.serde_json.specs.declared.value.Value.{Value}
use Rattle.results_json.specs.Tables.{text_value, is_name}
use Rattle.results_json.proofs.ColumnLemmas.{Fresh, once_front, once_rest}

-- a value is a string where it has text
pub string_of : (d : Data) (s : List ℕ) → as_str d ≡ Some s → d ≡ string s
string_of null s e = absurd (cc)
string_of (boolean b) s e = absurd (cc)
string_of (number n) s e = absurd (cc)
string_of (string t) s e = ap string (cc)
string_of (array ds) s e = absurd (cc)
string_of (object ms) s e = absurd (cc)

pub no_text_at : (vs : List Value) (i : ℕ) (v : Value) (names : List (List ℕ)) → i < length vs → v ≡ get_or vs i v → as_str (view v) ≡ None
    → map view vs ≡ map text_value names → ⊥
no_text_at [] i v names h is none all = omega arith
no_text_at (w ∷ vs) i v [] h is none all = absurd (cc)
no_text_at (w ∷ vs) zero v (n ∷ ns) h is none all =
    let here : view w ≡ text_value n = cc in
    let text : as_str (view v) ≡ Some (encode_utf8_all n) = ap (λ x. as_str (view x)) is ∙ ap as_str here in
    absurd (cc)
no_text_at (w ∷ vs) (suc i) v (n ∷ ns) h is none all = no_text_at vs i v ns (omega arith) is none (cc)

-- a name that stands in the rest is not fresh
not_fresh : (vs : List Value) (i : ℕ) (v : Value) (n : List ℕ) (names : List (List ℕ)) → i < length vs → v ≡ get_or vs i v → as_str (view v) ≡ Some (encode_utf8_all n)
    → map view vs ≡ map text_value names → Fresh n names → ⊥
not_fresh [] i v n names h is text all f = omega arith
not_fresh (w ∷ vs) i v n [] h is text all f = absurd (cc)
not_fresh (w ∷ vs) zero v n (m ∷ ms) h is text all f =
    let here : view w ≡ text_value m = cc in
    let other : as_str (view v) ≡ Some (encode_utf8_all m) = ap (λ x. as_str (view x)) is ∙ ap as_str here in
    let same : encode_utf8_all n ≡ encode_utf8_all m = cc in
    f.0 (encodes_same n m same)
not_fresh (w ∷ vs) (suc i) v n (m ∷ ms) h is text all f = not_fresh vs i v n ms (omega arith) is text (cc) f.1

pub repeated : (vs : List Value) (i : ℕ) (v : Value) (name : List ℕ) (done names : List (List ℕ)) → i < length vs → v ≡ get_or vs i v → as_str (view v) ≡ Some name
    → take i (map view vs) ≡ map text_value done → is_name done name ≡ true → map view vs ≡ map text_value names → EachOnce names → ⊥
repeated [] i v name done names h is text front seen all once = omega arith
repeated (w ∷ vs) zero v name [] names h is text front seen all once = true≢false (sym seen)
repeated (w ∷ vs) zero v name (m ∷ ms) names h is text front seen all once = absurd (cc)
repeated (w ∷ vs) (suc i) v name [] names h is text front seen all once = true≢false (sym seen)
repeated (w ∷ vs) (suc i) v name (m ∷ ms) [] h is text front seen all once = absurd (cc)
repeated (w ∷ vs) (suc i) v name (m ∷ ms) (n ∷ ns) h is text front seen all once =
    let first : view w ≡ text_value m = cc in
    let other : view w ≡ text_value n = cc in
    let same : encode_utf8_all m ≡ encode_utf8_all n = cc in
    elim (or_cases (bytes_eq name (encode_utf8_all m)) (is_name ms name) seen) [
      | inl e ↦ not_fresh vs i v n ns (omega arith) is (text ∙ ap Some ((bytes_eq-Decides name (encode_utf8_all m)).0 e ∙ same)) (cc) (once_front n ns once)
      | inr e ↦ repeated vs i v name ms ns (omega arith) is text (cc) e (cc) (once_rest n ns once)
    ]

bytes_same : (s t : List ℕ) → s ≡ t → bytes_eq s t ≡ true
bytes_same s t e = (bytes_eq-Decides s t).1 e

or_true : (b : Bool) → (b || true) ≡ true
or_true true = refl
or_true false = refl

named_at : (names : List (List ℕ)) (item : List ℕ) (k : ℕ) → k < length names → get_or names k item ≡ item → is_name names (encode_utf8_all item) ≡ true
named_at [] item k h e = absurd (omega arith)
named_at (n ∷ ns) item zero h e = ap (λ b. b || is_name ns (encode_utf8_all item)) (bytes_same (encode_utf8_all item) (encode_utf8_all n) (ap encode_utf8_all (sym e)))
named_at (n ∷ ns) item (suc k) h e =
    ap (λ b. bytes_eq (encode_utf8_all item) (encode_utf8_all n) || b) (named_at ns item k (omega arith) e) ∙ or_true (bytes_eq (encode_utf8_all item) (encode_utf8_all n))

pub not_contained : (names : List (List ℕ)) (item : List ℕ) → is_name names (encode_utf8_all item) ≡ false → Contains names item → ⊥
not_contained names item e c = true≢false (sym (named_at names item c.0 c.1 c.2) ∙ e)

-- ---- the set

or_swap : (a b c : Bool) → (a || (b || c)) ≡ (b || (a || c))
or_swap true true c = refl
or_swap true false c = refl
or_swap false b c = refl

or_twice : (a b c : Bool) → a ≡ b → (a || c) ≡ (b || (a || c))
or_twice true true c e = refl
or_twice true false c e = absurd (true≢false e)
or_twice false true c e = absurd (true≢false (sym e))
or_twice false false c e = refl

abbrev Key : Type 0
Key = Bor (List ℕ)

abbrev here : List ℕ → Key → Bool
here q = is_at (λ k. slice_cmp nat_cmp q k.now)

has_insert_at : (o : Ordering) (q : List ℕ) (k x : Key) (ks : List Key) → slice_cmp nat_cmp k.now x.now ≡ o
    → list_any (here q) (insert_key (λ x y. slice_cmp nat_cmp x.now y.now) ks k) ≡ (here q k || list_any (here q) ks)
    → list_any (here q) (match_ordering o (k ∷ x ∷ ks) (x ∷ ks) (x ∷ insert_key (λ x y. slice_cmp nat_cmp x.now y.now) ks k)) ≡ (here q k || (here q x || list_any (here q) ks))
has_insert_at Less q k x ks is later = refl
has_insert_at Equal q k x ks is later =
    let same : k.now ≡ x.now = (bytes_eq-Decides k.now x.now).0 (sym (is_eq-slice_cmp k.now x.now) ∙ ap is_eq is) in
    or_twice (here q x) (here q k) (list_any (here q) ks) (ap (λ t. is_eq (slice_cmp nat_cmp q t)) (sym same))
has_insert_at Greater q k x ks is later = ap (λ b. here q x || b) later ∙ or_swap (here q x) (here q k) (list_any (here q) ks)

pub has_insert : (q : List ℕ) (k : Key) (ks : List Key)
    → list_any (here q) (insert_key (λ x y. slice_cmp nat_cmp x.now y.now) ks k) ≡ (here q k || list_any (here q) ks)
has_insert q k [] = refl
has_insert q k (x ∷ ks) = has_insert_at (slice_cmp nat_cmp k.now x.now) q k x ks refl (has_insert q k ks)

pub name_more : (names : List (List ℕ)) (n q : List ℕ) → is_name (names ++ n ∷ []) q ≡ (bytes_eq q (encode_utf8_all n) || is_name names q)
name_more [] n q = refl
name_more (m ∷ ms) n q =
    ap (λ b. bytes_eq q (encode_utf8_all m) || b) (name_more ms n q) ∙ or_swap (bytes_eq q (encode_utf8_all m)) (bytes_eq q (encode_utf8_all n)) (is_name ms q)

pub same_set : (old new : List Key) (k : Key) (names : List (List ℕ)) (n q : List ℕ) → new ≡ insert_key (λ x y. slice_cmp nat_cmp x.now y.now) old k → encode_utf8_all n ≡ k.now
    → list_any (here q) old ≡ is_name names q → list_any (here q) new ≡ is_name (names ++ n ∷ []) q
same_set old new k names n q made text so_far =
    ap (list_any (here q)) made ∙ has_insert q k old
    ∙ ap₂ (λ (a b : Bool). a || b) (is_eq-slice_cmp q k.now ∙ ap (bytes_eq q) (sym text)) so_far ∙ sym (name_more names n q)

-- one more value of the list is a name
get_or_map : (vs : List Value) (i : ℕ) (v : Value) → i < length vs → get_or (map view vs) i (view v) ≡ view (get_or vs i v)
get_or_map [] i v h = absurd (omega arith)
get_or_map (w ∷ vs) zero v h = refl
get_or_map (w ∷ vs) (suc i) v h = get_or_map vs i v (omega arith)

pub length_map : (vs : List Value) → length (map view vs) ≡ length vs
length_map [] = refl
length_map (v ∷ vs) = ap suc (length_map vs)

pub view_more : (vs : List Value) (i : ℕ) (v : Value) → i < length vs → v ≡ get_or vs i v → take (i + 1) (map view vs) ≡ take i (map view vs) ++ view v ∷ []
view_more vs i v h is =
    take_more (map view vs) i (view v) (subst (λ (n : ℕ). i < n) (sym (length_map vs)) h) ∙ ap (λ d. take i (map view vs) ++ d ∷ []) (get_or_map vs i v h ∙ ap view (sym is))

pub names_more : (vs : List Value) (i : ℕ) (v : Value) (names : List (List ℕ)) (n name : List ℕ) → i < length vs → v ≡ get_or vs i v → as_str (view v) ≡ Some name → encode_utf8_all n ≡ name
    → take i (map view vs) ≡ map text_value names → take (i + 1) (map view vs) ≡ map text_value (names ++ n ∷ [])
names_more vs i v names n name h is text spelled so_far =
    view_more vs i v h is ∙ ap₂ (λ (a b : List Data). a ++ b) so_far (ap (λ d. d ∷ []) (string_of (view v) name text ∙ ap string (sym spelled)))
    ∙ sym (map-append text_value names (n ∷ []))
