-- The last segment of the field Location, and names of transactions.
use Rattle.std.proofs.Common.{◌≡◌, ℕ, ◌<◌, ◌≤◌, ◌==◌, ◌^◌, List, [], ◌∷◌, ◌++◌, Bool, true, false, ◌&&◌, cond, if◌then◌else◌, length, map, Option, Some, None, sym, ap, subst, ◌∙◌, refl, arith, decimal, codes, encode_utf8_all, append_assoc, rules}
use Rattle.std.specs.List.{filter, find, list_all}
use Rattle.std.specs.Option.{option_or}
use Rattle.std.specs.Char.{is_ascii_digit}
use Rattle.std.specs.Str.{IsAscii, IsUtf8}
use Rattle.std.specs.Str.Parse.{digits_value}
use Rattle.std.proofs.lemmas.Bool.Decides.{nat_tests}
use Rattle.std.proofs.lemmas.Fmt.{IsAscii-decimal, decimal_is_IsNumeral}
use Rattle.std.proofs.lemmas.List.{append-nil}
use Rattle.std.proofs.lemmas.Option.{same_Some}
use Rattle.std.proofs.lemmas.Str.{IsAscii-append, IsUtf8-from_ascii, encodes-IsAscii}
use Rattle.std.proofs.lemmas.Str.Ascii.{IsAscii-cons}
use Rattle.std.proofs.lemmas.Str.Parse.{IsNumeralModel, numerals_by_value}
use Rattle.journal.specs.declared.level.Level.{Level}
use Rattle.journal.specs.declared.level.Level.TheVariants.{NoIsolation, ReadUncommitted, ReadCommitted, SnapshotRead, Snapshot, Serializable}
use Rattle.journal.specs.declared.txn.Txn.{Txn}
use Rattle.journal.specs.Levels.{level_number}
use Rattle.api_paths.specs.TransactionNames.{name_of, most_place, OneTransaction}
use Rattle.api_replies.specs.Ids.{path_of}
use Rattle.reply_reading.specs.Locations.{behind_first, behind_slash, only_value, Locates}

-- What stands behind the last slash

or_assoc : (a b c : Option (List ℕ)) → option_or (option_or a b) c ≡ option_or a (option_or b c)
or_assoc None b c = refl
or_assoc (Some x) b c = refl

or_none : (a : Option (List ℕ)) → option_or a None ≡ a
or_none None = refl
or_none (Some x) = refl

-- one byte more is passed over
pub one_passed : (first : ℕ) (rest others : List ℕ) (last next whole : Option (List ℕ)) → rest ≡ first ∷ others
    → next ≡ option_or (behind_first first others) last → option_or (behind_slash rest) last ≡ whole → option_or (behind_slash others) next ≡ whole
one_passed first rest others last next whole cut step before =
    ap (option_or (behind_slash others)) step ∙ sym (or_assoc (behind_slash others) (behind_first first others) last)
    ∙ ap (λ bytes. option_or (behind_slash bytes) last) (sym cut) ∙ before

-- at the end
pub all_passed : (rest : List ℕ) (last whole : Option (List ℕ)) → rest ≡ [] → option_or (behind_slash rest) last ≡ whole → last ≡ whole
all_passed rest last whole none before = sym (ap (λ bytes. option_or (behind_slash bytes) last) none) ∙ before

no_first : (b : ℕ) (rest : List ℕ) → is_ascii_digit b ≡ true → behind_first b rest ≡ None
no_first b rest h = let no : (b == 47) ≡ false = grind (arith, nat_tests, h) in ap (λ (test : Bool). if test then Some rest else None) no

two : (a b : Bool) → (a && b) ≡ true → (a ≡ true) × (b ≡ true)
two true b e = (refl, e)
two false b e = cc

-- digits are passed over
past_digits : (digits rest : List ℕ) → list_all is_ascii_digit digits ≡ true → behind_slash (digits ++ rest) ≡ behind_slash rest
past_digits [] rest h = refl
past_digits (d ∷ ds) rest h =
    let w = two (is_ascii_digit d) (list_all is_ascii_digit ds) h in
    ap (option_or (behind_slash (ds ++ rest))) (no_first d (ds ++ rest) w.0) ∙ or_none _ ∙ past_digits ds rest w.1

own : IsNumeralModel (λ ds. list_all is_ascii_digit ds ≡ true) (digits_value 10)
own = numerals_by_value _ (search rules)

all_digits : (n : ℕ) → n < 2 ^ 64 → list_all is_ascii_digit (decimal n) ≡ true
all_digits n h = own.from (decimal n) (decimal_is_IsNumeral n h).0.1

few_levels : (level : Level) → level_number level ≤ 5
few_levels NoIsolation = omega arith
few_levels ReadUncommitted = omega arith
few_levels ReadCommitted = omega arith
few_levels SnapshotRead = omega arith
few_levels Snapshot = omega arith
few_levels Serializable = omega arith

-- a name holds no slash
whole_name : (t : Txn) → t.place ≤ most_place → behind_slash (name_of t) ≡ None
whole_name t h =
    let few = few_levels t.level in
    let code = decimal (level_number t.level) in
    past_digits (decimal t.place) (45 ∷ code) (all_digits t.place (omega arith)) ∙ or_none (behind_slash code)
    ∙ ap behind_slash (sym (append-nil code)) ∙ past_digits code [] (all_digits (level_number t.level) (omega arith))

-- the last slash is the one behind which none follows
last_slash : (before name : List ℕ) → behind_slash name ≡ None → behind_slash (before ++ 47 ∷ name) ≡ Some name
last_slash [] name none = ap (λ o. option_or o (Some name)) none
last_slash (b ∷ bs) name none = ap (λ o. option_or o (behind_first b (bs ++ 47 ∷ name))) (last_slash bs name none)

path_cut : (repo name : List ℕ) → ((codes "/rdf4j-server/repositories/" ++ repo) ++ codes "/transactions/") ++ name
    ≡ ((codes "/rdf4j-server/repositories/" ++ repo) ++ codes "/transactions") ++ 47 ∷ name
path_cut repo name = simp append_assoc

-- the last segment of a transaction's path is its name
pub path_name : (repo : List ℕ) (t : Txn) → t.place ≤ most_place → behind_slash (path_of repo t) ≡ Some (name_of t)
path_name repo t h =
    ap behind_slash (path_cut (encode_utf8_all repo) (name_of t))
    ∙ last_slash ((codes "/rdf4j-server/repositories/" ++ encode_utf8_all repo) ++ codes "/transactions") (name_of t) (whole_name t h)

-- The value of the one field of a name

abbrev Part : Type 0
Part = List ℕ × List ℕ

abbrev second : Part → List ℕ
second x = x.1

pub not_one : (values : List (List ℕ)) (count : ℕ) → count ≡ length values → (count ≡ 1 → ⊥) → None ≡ only_value values
not_one [] count e h = refl
not_one (v ∷ []) count e h = absurd (h (omega arith))
not_one (v ∷ w ∷ vs) count e h = refl

pub none_found : (p : Part → Bool) (xs : List Part) → None ≡ find p xs → None ≡ only_value (map second (filter p xs))
none_found p [] e = refl
none_found p (x ∷ xs) e =
    elim (p x) as (λ t. None ≡ cond t (Some x) (find p xs) → None ≡ only_value (map second (cond t (x ∷ filter p xs) (filter p xs))))
    [ true ↦ λ h. cc | false ↦ λ h. none_found p xs h ] e

one_only : (v : List ℕ) (vs : List (List ℕ)) → length (v ∷ vs) ≡ 1 → Some v ≡ only_value (v ∷ vs)
one_only v [] e = refl
one_only v (w ∷ vs) e = absurd (omega arith)

pub one_found : (p : Part → Bool) (xs : List Part) (x : Part) → Some x ≡ find p xs → length (map second (filter p xs)) ≡ 1
    → Some x.1 ≡ only_value (map second (filter p xs))
one_found p [] y e n = cc
one_found p (x ∷ xs) y e n =
    elim (p x) as (λ t. Some y ≡ cond t (Some x) (find p xs) → length (map second (cond t (x ∷ filter p xs) (filter p xs))) ≡ 1
    → Some y.1 ≡ only_value (map second (cond t (x ∷ filter p xs) (filter p xs))))
    [ true ↦ λ h k. ap (λ (z : Part). Some z.1) (same_Some y x h) ∙ one_only x.1 (map second (filter p xs)) k | false ↦ λ h k. one_found p xs y h k ] e n

-- Names of transactions

name_ascii : (t : Txn) → t.place ≤ most_place → IsAscii (name_of t)
name_ascii t h =
    let few = few_levels t.level in
    IsAscii-append (decimal t.place) (45 ∷ decimal (level_number t.level)) (IsAscii-decimal t.place (omega arith))
    (IsAscii-cons 45 (decimal (level_number t.level)) (omega arith) (IsAscii-decimal (level_number t.level) (omega arith)))

-- a name is UTF-8
pub name_utf8 : (bytes : List ℕ) (t : Txn) → (IsUtf8 bytes → ⊥) → bytes ≡ name_of t → t.place ≤ most_place → ⊥
name_utf8 bytes t never e h = never (subst IsUtf8 (sym e) (IsUtf8-from_ascii (name_of t) (name_ascii t h)))

-- a segment names at most one transaction
pub one_located : OneTransaction → (fields : List Part) (t u : Txn) → Locates fields t → Locates fields u → t ≡ u
one_located one fields t u h k =
    let same : name_of t ≡ name_of u = same_Some (name_of t) (name_of u) (sym h.0 ∙ k.0) in
    let is : encode_utf8_all (name_of t) ≡ name_of t = encodes-IsAscii (name_of t) (name_ascii t h.1) in
    one (name_of t) t u (is, h.1) (is ∙ same, k.1)
