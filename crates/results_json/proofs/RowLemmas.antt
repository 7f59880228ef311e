-- The rows of a table.
use Rattle.std.proofs.Common.{◌≡◌, ℕ, suc, zero, ◌<◌, List, [], ◌∷◌, ◌++◌, Bool, true, ◌&&◌, Option, Some, None, Ordering, Less, Equal, Greater, refl, sym, ap, ap₂, ◌∙◌, subst, arith, length, get_or, take, map, encode_utf8_all, nat_cmp, is_some, is_eq, inl, inr, true≢false}
use Rattle.std.specs.Cmp.Lexicographic.{slice_cmp}
use Rattle.std.specs.List.{list_all}
use Rattle.std.specs.Ordering.{match_ordering}
use Rattle.std.specs.Str.{bytes_eq}
use Rattle.std.proofs.lemmas.Bool.{and_parts, or_cases}
use Rattle.std.proofs.lemmas.Map.Text.{is_eq-slice_cmp}
use Rattle.std.proofs.lemmas.Slice.Eq.{bytes_eq-Decides}
use Rattle.rdf_term.specs.declared.term.Term.{Term}
use Rattle.serde_json.specs.Data.{Data, null, boolean, number, string, array, object, Members, no_members, member}
use Rattle.serde_json.specs.Find.{get, get_member, as_object}
use Rattle.serde_json.specs.View.{view}
use Rattle.serde_json.specs.declared.value.Value.{Value}
use Rattle.results_json.specs.Tables.{is_name, are_cells, if_cells, is_row, IsTermValue, IsCell, IsRowValue, AreRowValues}
use Rattle.results_json.specs.Reading.{HoldsTerms, HoldsNoTerm, IsFirstBad}

-- one more place of a row
pub row_more : (names : List (List ℕ)) (d : Data) (row : List (Option Term)) (name : List ℕ) (cell : Option Term) → IsRowValue names d row → IsCell (get (encode_utf8_all name) d) cell
    → IsRowValue (names ++ name ∷ []) d (row ++ cell ∷ [])
row_more [] d [] name cell r is = (is, tt)
row_more [] d (c ∷ cs) name cell r is = absurd r
row_more (n ∷ ns) d [] name cell r is = absurd r
row_more (n ∷ ns) d (c ∷ cs) name cell r is = (r.0, row_more ns d cs name cell r.1 is)

-- and one more row
pub rows_more : (names : List (List ℕ)) (ds : List Data) (rows : List (List (Option Term))) (d : Data) (row : List (Option Term)) → AreRowValues names ds rows → IsRowValue names d row
    → AreRowValues names (ds ++ d ∷ []) (rows ++ row ∷ [])
rows_more names [] [] d row r is = (is, tt)
rows_more names [] (x ∷ xs) d row r is = absurd r
rows_more names (e ∷ es) [] d row r is = absurd r
rows_more names (e ∷ es) (x ∷ xs) d row r is = (r.0, rows_more names es xs d row r.1 is)

-- ---- the members of a row stand at names

found_or : (o : Ordering) (P : Type 0) (rest : Option Data) (d cell : Data) → match_ordering o rest (Some d) rest ≡ Some cell → (is_eq o ≡ true → P) → (rest ≡ Some cell → P) → P
found_or Less P rest d cell e here there = there e
found_or Equal P rest d cell e here there = here refl
found_or Greater P rest d cell e here there = there e

key_is_name : (test : List ℕ → Bool) (ms : Members) (key : List ℕ) (cell : Data) → are_cells test ms ≡ true → get_member key ms ≡ Some cell → test key ≡ true
key_is_name test no_members key cell ok e = absurd (cc)
key_is_name test (member k d ms) key cell ok e =
    let first = and_parts (test k && is_some (as_object d)) (are_cells test ms) ok in
    found_or (slice_cmp nat_cmp key k) (test key ≡ true) (get_member key ms) d cell e
    (λ h. ap test ((bytes_eq-Decides key k).0 (sym (is_eq-slice_cmp key k) ∙ h)) ∙ (and_parts (test k) (is_some (as_object d)) first.0).0)
    (λ h. key_is_name test ms key cell first.1 h)

row_key : (names : List (List ℕ)) (d : Data) (key : List ℕ) (cell : Data) → is_row names d ≡ true → get key d ≡ Some cell → is_name names key ≡ true
row_key names null key cell ok e = absurd (cc)
row_key names (boolean b) key cell ok e = absurd (cc)
row_key names (number n) key cell ok e = absurd (cc)
row_key names (string s) key cell ok e = absurd (cc)
row_key names (array ds) key cell ok e = absurd (cc)
row_key names (object ms) key cell ok e = key_is_name (is_name names) ms key cell ok e

cell_term : (found : Option Data) (c : Option Term) (cell : Data) → found ≡ Some cell → IsCell found c → (t : Term) × IsTermValue cell t
cell_term None c cell e is = absurd (cc)
cell_term (Some d) None cell e is = absurd is
cell_term (Some d) (Some t) cell e is = let same : d ≡ cell = cc in (t, subst (λ x. IsTermValue x t) same is)

cell_of_name : (names : List (List ℕ)) (d : Data) (row : List (Option Term)) (key : List ℕ) (cell : Data) → IsRowValue names d row → is_name names key ≡ true → get key d ≡ Some cell
    → (t : Term) × IsTermValue cell t
cell_of_name [] d row key cell r ok e = absurd (true≢false (sym ok))
cell_of_name (n ∷ ns) d [] key cell r ok e = absurd r
cell_of_name (n ∷ ns) d (c ∷ cs) key cell r ok e = elim (or_cases (bytes_eq key (encode_utf8_all n)) (is_name ns key) ok) [
  | inl h ↦ cell_term (get (encode_utf8_all n) d) c cell (ap (λ k. get k d) (sym ((bytes_eq-Decides key (encode_utf8_all n)).0 h)) ∙ e) r.0
  | inr h ↦ cell_of_name ns d cs key cell r.1 h e
]

-- each member of a row with its places is a term
pub row_terms : (names : List (List ℕ)) (d : Data) (row : List (Option Term)) → is_row names d ≡ true → IsRowValue names d row → HoldsTerms d
row_terms names d row ok r = λ key cell e. cell_of_name names d row key cell r (row_key names d key cell ok e) e

-- the first rows have their places, and the next one has a member that is no term
pub bad_at : (names : List (List ℕ)) (vs : List Value) (i : ℕ) (v : Value) (rows : List (List (Option Term))) → i < length vs → v ≡ get_or vs i v → list_all (is_row names) (map view vs) ≡ true
    → AreRowValues names (take i (map view vs)) rows → HoldsNoTerm (view v) → IsFirstBad i (map view vs)
bad_at names [] i v rows h is ok r bad = absurd (omega arith)
bad_at names (w ∷ vs) zero v rows h is ok r bad = subst (λ x. HoldsNoTerm (view x)) is bad
bad_at names (w ∷ vs) (suc i) v [] h is ok r bad = absurd r
bad_at names (w ∷ vs) (suc i) v (row ∷ rows) h is ok r bad =
    let p = and_parts (is_row names (view w)) (list_all (is_row names) (map view vs)) ok in
    (row_terms names (view w) row p.0 r.0, bad_at names vs i v rows (omega arith) is p.1 r.1 bad)

-- ---- a set in place of names

pub same_cells : (p q : List ℕ → Bool) (ms : Members) → ((k : List ℕ) → p k ≡ q k) → are_cells p ms ≡ are_cells q ms
same_cells p q no_members h = refl
same_cells p q (member k d ms) h = ap₂ (λ (a b : Bool). a && is_some (as_object d) && b) (h k) (same_cells p q ms h)

same_if : (p q : List ℕ → Bool) (o : Option Members) → ((k : List ℕ) → p k ≡ q k) → if_cells p o ≡ if_cells q o
same_if p q None h = refl
same_if p q (Some ms) h = same_cells p q ms h

pub same_are_rows : (p : List ℕ → Bool) (names : List (List ℕ)) (ds : List Data) → ((k : List ℕ) → p k ≡ is_name names k)
    → list_all (λ d. if_cells p (as_object d)) ds ≡ list_all (is_row names) ds
same_are_rows p names [] h = refl
same_are_rows p names (d ∷ ds) h = ap₂ (λ (a b : Bool). a && b) (same_if p (is_name names) (as_object d) h) (same_are_rows p names ds h)
