-- The shape of a table, and that a text has one answer.
use Rattle.std.proofs.Common.{◌≡◌, ℕ, suc, zero, List, [], ◌∷◌, true, false, Option, Some, None, refl, sym, ap, ap₂, ◌∙◌, subst, map, codes, encode_utf8_all, option_and_then, option_map, true≢false, Bor, Vec, Global}
use Rattle.std.specs.declared.result.Result.TheVariants.{Ok, Err}
use Rattle.std.specs.List.{list_all}
use Rattle.std.proofs.lemmas.Bool.{and_parts}
use Rattle.std.proofs.lemmas.Str.{encodes_same}
use Rattle.rdf_term.specs.EachOnce.{EachOnce}
use Rattle.rdf_term.specs.declared.term.Term.{Term}
use Rattle.query_model.specs.declared.table.Table.{Table}
use Rattle.serde_json.specs.Data.{Data, null, boolean, number, string, array, object, Items}
use Rattle.serde_json.specs.Find.{get, as_array}
use Rattle.serde_json.specs.View.{view, items_of, items_view}
use Rattle.serde_json.specs.declared.value.Value.{Value}
use Rattle.results_json.specs.declared.fault.ResultFault.{ResultFault}
use Rattle.results_json.specs.declared.fault.ResultFault.TheVariants.{NotJson, BadShape, BadTerm, Memory}
use Rattle.results_json.specs.Tables.{text_value, is_row, get_within, HasNames, HasRows, HasShape, IsTermValue, IsCell, IsRowValue, AreRowValues, IsTableValue}
use Rattle.results_json.specs.Reading.{HasNoShape, IsJsonText, HoldsTerms, HoldsNoTerm, IsFirstBad, IsTableFault, IsTableReading}
use Rattle.results_json.specs.Laws.{OneTableReading}
use Rattle.results_json.proofs.TermLemmas.{spells_once}
use Rattle.results_json.proofs.RowLemmas.{row_terms}

pub array_of : (o : Option Data) (ds : Items) → option_and_then as_array o ≡ Some ds → o ≡ Some (array ds)
array_of None ds e = absurd (cc)
array_of (Some null) ds e = absurd (cc)
array_of (Some (boolean b)) ds e = absurd (cc)
array_of (Some (number n)) ds e = absurd (cc)
array_of (Some (string s)) ds e = absurd (cc)
array_of (Some (array es)) ds e = cc
array_of (Some (object ms)) ds e = absurd (cc)

items_same : (xs ys : List Data) → items_of xs ≡ items_of ys → xs ≡ ys
items_same [] [] e = refl
items_same [] (y ∷ ys) e = absurd (cc)
items_same (x ∷ xs) [] e = absurd (cc)
items_same (x ∷ xs) (y ∷ ys) e = ap₂ (λ (a : Data) (b : List Data). a ∷ b) (cc) (items_same xs ys (cc))

pub lists_same : (o : Option Data) (xs ys : List Data) → o ≡ Some (array (items_of xs)) → o ≡ Some (array (items_of ys)) → xs ≡ ys
lists_same o xs ys p q = let e : Some (array (items_of xs)) ≡ Some (array (items_of ys)) = sym p ∙ q in items_same xs ys (cc)

pub names_same : (xs ys : List (List ℕ)) → map text_value xs ≡ map text_value ys → xs ≡ ys
names_same [] [] e = refl
names_same [] (y ∷ ys) e = absurd (cc)
names_same (x ∷ xs) [] e = absurd (cc)
names_same (x ∷ xs) (y ∷ ys) e =
    let first : encode_utf8_all x ≡ encode_utf8_all y = cc in
    ap₂ (λ (a : List ℕ) (b : List (List ℕ)). a ∷ b) (encodes_same x y first) (names_same xs ys (cc))

pub shape_names : (v : Data) (a b : List (List ℕ)) → HasNames v a → HasNames v b → a ≡ b
shape_names v a b p q = names_same a b (lists_same (get_within (codes "head") (codes "vars") v) (map text_value a) (map text_value b) p.0 q.0)

pub shape_rows : (v : Data) (a b : List (List ℕ)) (xs ys : List Data) → HasRows v a xs → HasRows v b ys → xs ≡ ys
shape_rows v a b xs ys p q = lists_same (get_within (codes "results") (codes "bindings") v) xs ys p.0 q.0

-- ---- one table

term_once : (d : Data) (t u : Term) → IsTermValue d t → IsTermValue d u → t ≡ u
term_once d t u p q = spells_once d t u p.0 q.0

cell_once : (o : Option Data) (a b : Option Term) → IsCell o a → IsCell o b → a ≡ b
cell_once None None None p q = refl
cell_once None None (Some u) p q = absurd q
cell_once None (Some t) b p q = absurd p
cell_once (Some d) None b p q = absurd p
cell_once (Some d) (Some t) None p q = absurd q
cell_once (Some d) (Some t) (Some u) p q = ap Some (term_once d t u p q)

row_once : (names : List (List ℕ)) (d : Data) (a b : List (Option Term)) → IsRowValue names d a → IsRowValue names d b → a ≡ b
row_once [] d [] [] p q = refl
row_once [] d [] (y ∷ ys) p q = absurd q
row_once [] d (x ∷ xs) b p q = absurd p
row_once (n ∷ ns) d [] b p q = absurd p
row_once (n ∷ ns) d (x ∷ xs) [] p q = absurd q
row_once (n ∷ ns) d (x ∷ xs) (y ∷ ys) p q =
    ap₂ (λ (a : Option Term) (b : List (Option Term)). a ∷ b) (cell_once (get (encode_utf8_all n) d) x y p.0 q.0) (row_once ns d xs ys p.1 q.1)

rows_once : (names : List (List ℕ)) (ds : List Data) (a b : List (List (Option Term))) → AreRowValues names ds a → AreRowValues names ds b → a ≡ b
rows_once names [] [] [] p q = refl
rows_once names [] [] (y ∷ ys) p q = absurd q
rows_once names [] (x ∷ xs) b p q = absurd p
rows_once names (d ∷ ds) [] b p q = absurd p
rows_once names (d ∷ ds) (x ∷ xs) [] p q = absurd q
rows_once names (d ∷ ds) (x ∷ xs) (y ∷ ys) p q =
    ap₂ (λ (a : List (Option Term)) (b : List (List (Option Term))). a ∷ b) (row_once names d x y p.0 q.0) (rows_once names ds xs ys p.1 q.1)

table_once : (v : Data) (t u : Table) → IsTableValue v t → IsTableValue v u → t ≡ u
table_once v t u p q =
    let names : t.vars ≡ u.vars = shape_names v t.vars u.vars p.1.0 q.1.0 in
    let rows : p.0 ≡ q.0 = shape_rows v t.vars u.vars p.0 q.0 p.1.1 q.1.1 in
    let moved : AreRowValues t.vars p.0 u.rows = subst (λ ds. AreRowValues t.vars ds u.rows) (sym rows) (subst (λ ns. AreRowValues ns q.0 u.rows) (sym names) q.2) in
    ap₂ (λ (a : List (List ℕ)) (b : List (List (Option Term))). let made : Table = record { vars = a; rows = b } in made) names (rows_once t.vars p.0 t.rows u.rows p.2 moved)

-- ---- one bad row

no_and_terms : (d : Data) → HoldsTerms d → HoldsNoTerm d → ⊥
no_and_terms d h bad = let found = h bad.0 bad.1 bad.2 in bad.3 found.0 found.1

first_once : (m n : ℕ) (ds : List Data) → IsFirstBad m ds → IsFirstBad n ds → m ≡ n
first_once m n [] p q = absurd p
first_once zero zero (d ∷ ds) p q = refl
first_once zero (suc n) (d ∷ ds) p q = absurd (no_and_terms d q.0 p)
first_once (suc m) zero (d ∷ ds) p q = absurd (no_and_terms d p.0 q)
first_once (suc m) (suc n) (d ∷ ds) p q = ap suc (first_once m n ds p.1 q.1)

good_and_bad : (names : List (List ℕ)) (n : ℕ) (ds : List Data) (rows : List (List (Option Term))) → list_all (is_row names) ds ≡ true → AreRowValues names ds rows → IsFirstBad n ds → ⊥
good_and_bad names n [] rows ok r bad = bad
good_and_bad names n (d ∷ ds) [] ok r bad = r
good_and_bad names zero (d ∷ ds) (row ∷ rows) ok r bad = no_and_terms d (row_terms names d row (and_parts (is_row names d) (list_all (is_row names) ds) ok).0 r.0) bad
good_and_bad names (suc n) (d ∷ ds) (row ∷ rows) ok r bad = good_and_bad names n ds rows (and_parts (is_row names d) (list_all (is_row names) ds) ok).1 r.1 bad.1

-- ---- one answer

json_once : (text : List ℕ) (v w : Data) → IsJsonText text v → IsJsonText text w → v ≡ w
json_once text v w p q = let e : Some v ≡ Some w = sym p.1 ∙ q.1 in cc

faults : (text : List ℕ) (a b : ResultFault) → IsTableFault text a → IsTableFault text b → (a ≡ Memory → ⊥) → (b ≡ Memory → ⊥) → a ≡ b
faults text NotJson NotJson p q x y = refl
faults text NotJson BadShape p q x y = absurd (p q.0 q.1)
faults text NotJson (BadTerm n) p q x y = absurd (p q.0 q.1)
faults text NotJson Memory p q x y = absurd (y refl)
faults text BadShape NotJson p q x y = absurd (q p.0 p.1)
faults text BadShape BadShape p q x y = refl
faults text BadShape (BadTerm n) p q x y =
    absurd (p.2 q.2.0 q.2.1 (subst (λ v. HasShape v q.2.0 q.2.1) (json_once text q.0 p.0 q.1 p.1) q.2.2))
faults text BadShape Memory p q x y = absurd (y refl)
faults text (BadTerm m) NotJson p q x y = absurd (q p.0 p.1)
faults text (BadTerm m) BadShape p q x y =
    absurd (q.2 p.2.0 p.2.1 (subst (λ v. HasShape v p.2.0 p.2.1) (json_once text p.0 q.0 p.1 q.1) p.2.2))
faults text (BadTerm m) (BadTerm n) p q x y =
    let there : HasShape p.0 q.2.0 q.2.1 = subst (λ v. HasShape v q.2.0 q.2.1) (json_once text q.0 p.0 q.1 p.1) q.2.2 in
    let rows : q.2.1 ≡ p.2.1 = shape_rows p.0 q.2.0 p.2.0 q.2.1 p.2.1 there.1 p.2.2.1 in
    ap BadTerm (first_once m n p.2.1 p.2.3 (subst (λ ds. IsFirstBad n ds) rows q.2.3))
faults text (BadTerm m) Memory p q x y = absurd (y refl)
faults text Memory b p q x y = absurd (x refl)

table_and_fault : (text : List ℕ) (t : Table) (a : ResultFault) → IsTableReading text (Ok t) → IsTableFault text a → (a ≡ Memory → ⊥) → ⊥
table_and_fault text t NotJson p q x = q p.0 p.1
table_and_fault text t BadShape p q x = q.2 t.vars p.2.0 (subst (λ v. HasShape v t.vars p.2.0) (json_once text p.0 q.0 p.1 q.1) p.2.1)
table_and_fault text t (BadTerm n) p q x =
    let there : HasShape p.0 q.2.0 q.2.1 = subst (λ v. HasShape v q.2.0 q.2.1) (json_once text q.0 p.0 q.1 p.1) q.2.2 in
    let rows : q.2.1 ≡ p.2.0 = shape_rows p.0 q.2.0 t.vars q.2.1 p.2.0 there.1 p.2.1.1 in
    good_and_bad t.vars n p.2.0 t.rows p.2.1.1.1 p.2.2 (subst (λ ds. IsFirstBad n ds) rows q.2.3)
table_and_fault text t Memory p q x = x refl

pub one_table : OneTableReading
one_table text (Ok t) (Ok u) p q x y = ap Ok (table_once p.0 t u p.2 (subst (λ v. IsTableValue v u) (json_once text q.0 p.0 q.1 p.1) q.2))
one_table text (Ok t) (Err b) p q x y = absurd (table_and_fault text t b p q (λ e. y (ap Err e)))
one_table text (Err a) (Ok u) p q x y = absurd (table_and_fault text u a q p (λ e. x (ap Err e)))
one_table text (Err a) (Err b) p q x y = ap Err (faults text a b p q (λ e. x (ap Err e)) (λ e. y (ap Err e)))

-- ---- what the parts of a value say of it

-- the values of a list that stands at a key of a member
pub list_at : (outer inner : List ℕ) (v : Data) (r : Option (Bor (Vec Value Global))) (vs : Bor (Vec Value Global)) → option_map (λ x. items_view x.now.items) r ≡ option_and_then as_array (get_within outer inner v)
    → r ≡ Some vs → get_within outer inner v ≡ Some (array (items_of (map view vs.now.items)))
list_at outer inner v r vs found is = array_of (get_within outer inner v) (items_view vs.now.items) (sym found ∙ ap (option_map (λ x. items_view x.now.items)) is)

pub no_names : (v : Data) (vars : List Data) → get_within (codes "head") (codes "vars") v ≡ Some (array (items_of vars)) → ((names : List (List ℕ)) → vars ≡ map text_value names → EachOnce names → ⊥) → HasNoShape v
no_names v vars found none names rows shape =
    none names (lists_same (get_within (codes "head") (codes "vars") v) vars (map text_value names) found shape.0.0) shape.0.1

pub no_rows : (v : Data) (names : List (List ℕ)) (ds : List Data) → HasNames v names → get_within (codes "results") (codes "bindings") v ≡ Some (array (items_of ds)) → list_all (is_row names) ds ≡ false
    → HasNoShape v
no_rows v names ds has found bad others rows shape =
    let same : others ≡ names = shape_names v others names shape.0 has in
    let here : rows ≡ ds = lists_same (get_within (codes "results") (codes "bindings") v) rows ds shape.1.0 found in
    true≢false (sym shape.1.1 ∙ ap (λ ns. list_all (is_row ns) rows) same ∙ ap (list_all (is_row names)) here ∙ bad)
