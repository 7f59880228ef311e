-- What is written of a table is read as that table.
use Rattle.std.proofs.Common.{◌≡◌, ◌≢◌, ℕ, suc, ◌≤◌, List, [], ◌∷◌, Bool, true, false, ◌&&◌, Option, Some, None, Ordering, Less, Equal, Greater, IsUtf8, refl, sym, ap, ◌∙◌, subst, arith, length, map, slice_get, codes, encode_utf8_all, nat_cmp, option_and_then, option_map, inl, is_some, true≢false}
use Rattle.std.specs.Cmp.Lexicographic.{slice_cmp}
use Rattle.std.specs.List.{All, list_all}
use Rattle.std.specs.Option.{IfSome}
use Rattle.std.specs.Ordering.{match_ordering, ordering_reverse}
use Rattle.std.specs.Prelude.{not}
use Rattle.std.specs.Str.{all_scalars, bytes_eq}
use Rattle.std.proofs.lemmas.Bool.{and_parts, or_left, or_right}
use Rattle.std.proofs.lemmas.Cmp.{nat_list_cmp_total}
use Rattle.std.proofs.lemmas.Slice.Eq.{bytes_eq-Decides}
use Rattle.std.proofs.lemmas.Str.{encodes_same}
use Rattle.rdf_term.specs.declared.term.Term.{Term}
use Rattle.rdf_term.specs.declared.term.Term.TheVariants.{Iri, Blank, Plain, Tagged, Typed}
use Rattle.rdf_term.specs.EachOnce.{EachOnce}
use Rattle.rdf_term.specs.Validity.{IsValidTerm, is_part, is_short, is_iri_text, is_tag, xsd_string}
use Rattle.query_model.specs.declared.table.Table.{Table}
use Rattle.json.proofs.Printed.Utf8.{IsUtf8-are_ascii}
use Rattle.json.specs.Tree.{depth, items_depth, members_depth}
use Rattle.serde_json.specs.Data.{Data, object, item, Members, no_members, member, put}
use Rattle.serde_json.specs.Find.{get_member, as_object}
use Rattle.serde_json.specs.Read.{of_json, of_items, of_members, max_depth}
use Rattle.serde_json.specs.View.{items_of}
use Rattle.serde_json.specs.Written.{outline, items_outline, members_outline}
use Rattle.serde_json.proofs.Views.{get_member-put, get_member-put_other}
use Rattle.results_json.specs.Tables.{text_value, term_value, with_cell, row_members, row_value, table_value, truth_value, is_name, are_cells, is_row, Spells, IsCell, IsRowValue, AreRowValues, IsTableValue}
use Rattle.results_json.specs.Columns.{columns_from, bound_cell, bound}
use Rattle.results_json.specs.Laws.{IsRightRow, IsRightTable, TablesReadAgain, TruthsReadAgain}
use Rattle.results_json.proofs.ColumnLemmas.{Columns, Above, Ascends, Fresh, once_front, once_rest, columns_ascend, bound_row}
use Rattle.results_json.proofs.TextLemmas.{IsText, AreTexts, AreTextMembers, text_utf8, text_reads}

all_head : {X : Type 0} (P : X → Type 0) (x : X) (xs : List X) → All P (x ∷ xs) → P x
all_head P x xs h = h 0 x (omega arith)

all_tail : {X : Type 0} (P : X → Type 0) (x : X) (xs : List X) → All P (x ∷ xs) → All P xs
all_tail P x xs h = λ k d less. h (suc k) d (omega arith)

-- ---- the strings are UTF-8

part_utf8 : (text : List ℕ) → is_part text ≡ true → IsUtf8 (encode_utf8_all text)
part_utf8 text e = (text, ((and_parts (all_scalars text) (is_short text) e).0, refl))

front : (a b : Bool) → (a && b) ≡ true → a ≡ true
front a b e = (and_parts a b e).0

type_utf8 : IsUtf8 (codes "type")
type_utf8 = IsUtf8-are_ascii (codes "type") refl

value_utf8 : IsUtf8 (codes "value")
value_utf8 = IsUtf8-are_ascii (codes "value") refl

literal_utf8 : IsUtf8 (codes "literal")
literal_utf8 = IsUtf8-are_ascii (codes "literal") refl

typed_parts : (text datatype : List ℕ) → IsValidTerm (Typed text datatype) → (is_part text ≡ true) × (is_part datatype ≡ true) × (datatype ≢ xsd_string)
typed_parts text datatype v =
    let all = and_parts (is_part text && is_part datatype && is_iri_text datatype) (not (bytes_eq datatype xsd_string)) v in
    let parts = and_parts (is_part text) (is_part datatype) (front (is_part text && is_part datatype) (is_iri_text datatype) all.0) in
    (parts.0, parts.1, λ e. true≢false (sym all.1 ∙ ap not ((bytes_eq-Decides datatype xsd_string).1 e)))

tagged_parts : (text tag : List ℕ) → IsValidTerm (Tagged text tag) → (is_part text ≡ true) × (is_part tag ≡ true)
tagged_parts text tag v = and_parts (is_part text) (is_part tag) (front (is_part text && is_part tag) (is_tag tag) v)

term_text : (t : Term) → IsValidTerm t → IsText (term_value t)
term_text (Iri a) v = (type_utf8, IsUtf8-are_ascii (codes "uri") refl, (value_utf8, part_utf8 a (front (is_part a) _ v), tt))
term_text (Blank a) v = (type_utf8, IsUtf8-are_ascii (codes "bnode") refl, (value_utf8, part_utf8 a (front (is_part a) _ v), tt))
term_text (Plain a) v = (type_utf8, literal_utf8, (value_utf8, part_utf8 a v, tt))
term_text (Tagged a x) v =
    let p = tagged_parts a x v in
    (type_utf8, literal_utf8, (value_utf8, part_utf8 a p.0, (IsUtf8-are_ascii (codes "xml:lang") refl, part_utf8 x p.1, tt)))
term_text (Typed a x) v =
    let p = typed_parts a x v in
    (IsUtf8-are_ascii (codes "datatype") refl, part_utf8 x p.1, (type_utf8, literal_utf8, (value_utf8, part_utf8 a p.0, tt)))

text_match : (o : Ordering) (a b c : Members) → AreTextMembers a → AreTextMembers b → AreTextMembers c → AreTextMembers (match_ordering o a b c)
text_match Less a b c p q r = p
text_match Equal a b c p q r = q
text_match Greater a b c p q r = r

text_put : (k : List ℕ) (d : Data) (ms : Members) → IsUtf8 k → IsText d → AreTextMembers ms → AreTextMembers (put k d ms)
text_put k d no_members u t h = (u, t, tt)
text_put k d (member l e ms) u t h =
    text_match (slice_cmp nat_cmp k l) (member k d (member l e ms)) (member l d ms) (member l e (put k d ms)) (u, t, h) (h.0, t, h.2) (h.0, h.1, text_put k d ms u t h.2)

text_cell : (n : List ℕ) (c : Option Term) (ms : Members) → IsUtf8 (encode_utf8_all n) → IfSome c IsValidTerm → AreTextMembers ms → AreTextMembers (with_cell n c ms)
text_cell n None ms u v h = h
text_cell n (Some t) ms u v h = text_put (encode_utf8_all n) (term_value t) ms u (term_text t v) h

text_row : (names : List (List ℕ)) (row : List (Option Term)) → list_all all_scalars names ≡ true → All (λ c. IfSome c IsValidTerm) row → AreTextMembers (row_members names row)
text_row [] row s v = tt
text_row (n ∷ ns) [] s v = tt
text_row (n ∷ ns) (c ∷ cs) s v =
    let p = and_parts (all_scalars n) (list_all all_scalars ns) s in
    text_cell n c (row_members ns cs) (n, (p.0, refl)) (all_head (λ x. IfSome x IsValidTerm) c cs v) (text_row ns cs p.1 (all_tail (λ x. IfSome x IsValidTerm) c cs v))

text_rows : (names : List (List ℕ)) (rows : List (List (Option Term))) → list_all all_scalars names ≡ true → All (IsRightRow names) rows → AreTexts (items_of (map (row_value names) rows))
text_rows names [] s h = tt
text_rows names (r ∷ rs) s h = (text_row names r s (all_head (IsRightRow names) r rs h).1, text_rows names rs s (all_tail (IsRightRow names) r rs h))

text_names : (names : List (List ℕ)) → list_all all_scalars names ≡ true → AreTexts (items_of (map text_value names))
text_names [] s = tt
text_names (n ∷ ns) s = let p = and_parts (all_scalars n) (list_all all_scalars ns) s in ((n, (p.0, refl)), text_names ns p.1)

table_text_parts : (t : Table) → IsRightTable t → IsText (table_value t)
table_text_parts t h = (
  IsUtf8-are_ascii (codes "head") refl,
  (IsUtf8-are_ascii (codes "vars") refl, text_names t.vars h.1, tt),
  (IsUtf8-are_ascii (codes "results") refl, (IsUtf8-are_ascii (codes "bindings") refl, text_rows t.vars t.rows h.1 h.2, tt), tt),
)

-- ---- the nesting

term_depth : (t : Term) → depth (outline (term_value t)) ≤ 1
term_depth (Iri a) = omega arith
term_depth (Blank a) = omega arith
term_depth (Plain a) = omega arith
term_depth (Tagged a x) = omega arith
term_depth (Typed a x) = omega arith

depth_match : (o : Ordering) (a b c : Members) (n : ℕ) → members_depth (members_outline a) ≤ n → members_depth (members_outline b) ≤ n → members_depth (members_outline c) ≤ n
    → members_depth (members_outline (match_ordering o a b c)) ≤ n
depth_match Less a b c n p q r = p
depth_match Equal a b c n p q r = q
depth_match Greater a b c n p q r = r

depth_put : (k : List ℕ) (d : Data) (ms : Members) (n : ℕ) → depth (outline d) ≤ n → members_depth (members_outline ms) ≤ n → members_depth (members_outline (put k d ms)) ≤ n
depth_put k d no_members n p q = omega arith
depth_put k d (member l e ms) n p q =
    depth_match (slice_cmp nat_cmp k l) (member k d (member l e ms)) (member l d ms) (member l e (put k d ms)) n (omega arith) (omega arith) (omega (arith, depth_put k d ms n p (omega arith)))

depth_cell : (n : List ℕ) (c : Option Term) (ms : Members) → members_depth (members_outline ms) ≤ 1 → members_depth (members_outline (with_cell n c ms)) ≤ 1
depth_cell n None ms h = h
depth_cell n (Some t) ms h = depth_put (encode_utf8_all n) (term_value t) ms 1 (term_depth t) h

depth_row : (names : List (List ℕ)) (row : List (Option Term)) → members_depth (members_outline (row_members names row)) ≤ 1
depth_row [] row = omega arith
depth_row (n ∷ ns) [] = omega arith
depth_row (n ∷ ns) (c ∷ cs) = depth_cell n c (row_members ns cs) (depth_row ns cs)

depth_rows : (names : List (List ℕ)) (rows : List (List (Option Term))) → items_depth (items_outline (items_of (map (row_value names) rows))) ≤ 2
depth_rows names [] = omega arith
depth_rows names (r ∷ rs) = omega (arith, depth_row names r, depth_rows names rs)

depth_names : (names : List (List ℕ)) → items_depth (items_outline (items_of (map text_value names))) ≤ 0
depth_names [] = omega arith
depth_names (n ∷ ns) = omega (arith, depth_names ns)

table_depth : (t : Table) → depth (outline (table_value t)) ≤ max_depth
table_depth t = omega (arith, depth_names t.vars, depth_rows t.vars t.rows)

-- ---- the members are read back in their order

plus : Members → Members → Members
plus no_members more = more
plus (member k d ms) more = member k d (plus ms more)

plus_assoc : (a : Members) (k : List ℕ) (d : Data) (more : Members) → plus (plus a (member k d no_members)) more ≡ plus a (member k d more)
unfolding plus
plus_assoc no_members k d more = refl
plus_assoc (member l e ms) k d more = ap (member l e) (plus_assoc ms k d more)

plus_none : (a : Members) → plus no_members a ≡ a
unfolding plus
plus_none a = refl

plus_end : (a : Members) → plus a no_members ≡ a
unfolding plus
plus_end no_members = refl
plus_end (member l e ms) = ap (member l e) (plus_end ms)

-- each key that was found is below the columns
abbrev FoundBelow : Members → Columns → Type 0
FoundBelow no_members es = Unit {0}
FoundBelow (member k d ms) es = Above k es × FoundBelow ms es

put_end : (k : List ℕ) (i : ℕ) (d : Data) (found : Members) (es : Columns) → FoundBelow found ((k, i) ∷ es) → put k d found ≡ plus found (member k d no_members)
unfolding plus
put_end k i d no_members es h = refl
put_end k i d (member l e ms) es h =
    let above : slice_cmp nat_cmp k l ≡ Greater = nat_list_cmp_total.antisymm k l ∙ ap ordering_reverse h.0.0 in
    rw above (ap (member l e) (put_end k i d ms es h.1))

found_more : (k : List ℕ) (i : ℕ) (d : Data) (found : Members) (es : Columns) → FoundBelow found ((k, i) ∷ es) → Above k es → FoundBelow (plus found (member k d no_members)) es
unfolding plus
found_more k i d no_members es h a = (a, tt)
found_more k i d (member l e ms) es h a = (h.0.1, found_more k i d ms es h.1 a)

found_rest : (e : List ℕ × ℕ) (found : Members) (es : Columns) → FoundBelow found (e ∷ es) → FoundBelow found es
found_rest e no_members es h = tt
found_rest e (member l d ms) es h = (h.0.1, found_rest e ms es h.1)

term_back : (t : Term) → of_json (outline (term_value t)) ≡ Some (term_value t)
term_back (Iri a) = refl
term_back (Blank a) = refl
term_back (Plain a) = refl
term_back (Tagged a x) = refl
term_back (Typed a x) = refl

cell_back : (k : List ℕ) (i : ℕ) (cell : Option (Option Term)) (rest found : Members) (es : Columns) → FoundBelow found ((k, i) ∷ es) → Above k es
    → ((more : Members) → FoundBelow more es → of_members (members_outline rest) more ≡ Some (plus more rest))
    → of_members (members_outline (bound_cell k cell rest)) found ≡ Some (plus found (bound_cell k cell rest))
cell_back k i None rest found es h a back = back found (found_rest (k, i) found es h)
cell_back k i (Some None) rest found es h a back = back found (found_rest (k, i) found es h)
cell_back k i (Some (Some t)) rest found es h a back =
    ap (option_and_then (λ d. of_members (members_outline rest) (put k d found))) (term_back t)
    ∙ ap (of_members (members_outline rest)) (put_end k i (term_value t) found es h)
    ∙ back (plus found (member k (term_value t) no_members)) (found_more k i (term_value t) found es h a)
    ∙ ap Some (plus_assoc found k (term_value t) rest)

bound_back : (es : Columns) (row : List (Option Term)) (found : Members) → Ascends es → FoundBelow found es → of_members (members_outline (bound es row)) found ≡ Some (plus found (bound es row))
bound_back [] row found a h = ap Some (sym (plus_end found))
bound_back (e ∷ es) row found a h = cell_back e.0 e.1 (slice_get row e.1) (bound es row) found es h a.0 (λ more below. bound_back es row more a.1 below)

row_back : (names : List (List ℕ)) (row : List (Option Term)) → EachOnce names → of_json (outline (row_value names row)) ≡ Some (row_value names row)
row_back names row once =
    ap (option_map object) (ap (λ ms. of_members (members_outline ms) no_members) (sym (bound_row 0 names row once)) ∙ bound_back (columns_from 0 names) row no_members (columns_ascend 0 names) tt
    ∙ ap Some (plus_none (bound (columns_from 0 names) row) ∙ bound_row 0 names row once))

rows_back : (names : List (List ℕ)) (rows : List (List (Option Term))) → EachOnce names → of_items (items_outline (items_of (map (row_value names) rows))) ≡ Some (items_of (map (row_value names) rows))
rows_back names [] once = refl
rows_back names (r ∷ rs) once =
    ap (option_and_then (λ d. option_map (item d) (of_items (items_outline (items_of (map (row_value names) rs)))))) (row_back names r once)
    ∙ ap (option_map (item (row_value names r))) (rows_back names rs once)

names_back : (names : List (List ℕ)) → of_items (items_outline (items_of (map text_value names))) ≡ Some (items_of (map text_value names))
names_back [] = refl
names_back (n ∷ ns) = ap (option_map (item (text_value n))) (names_back ns)

table_back : (t : Table) → EachOnce t.vars → of_json (outline (table_value t)) ≡ Some (table_value t)
table_back t once = rw (names_back t.vars, rows_back t.vars t.rows once) refl

-- ---- the shape and the terms

-- these names are among all
abbrev Sub : List (List ℕ) → List (List ℕ) → Type 0
Sub all [] = Unit {0}
Sub all (n ∷ ns) = (is_name all (encode_utf8_all n) ≡ true) × Sub all ns

sub_more : (m : List ℕ) (all ns : List (List ℕ)) → Sub all ns → Sub (m ∷ all) ns
sub_more m all [] h = tt
sub_more m all (n ∷ ns) h = (or_right (bytes_eq (encode_utf8_all n) (encode_utf8_all m)) (is_name all (encode_utf8_all n)) h.0, sub_more m all ns h.1)

sub_self : (ns : List (List ℕ)) → Sub ns ns
sub_self [] = tt
sub_self (n ∷ ns) =
    (or_left (bytes_eq (encode_utf8_all n) (encode_utf8_all n)) (is_name ns (encode_utf8_all n)) ((bytes_eq-Decides (encode_utf8_all n) (encode_utf8_all n)).1 refl), sub_more n ns ns (sub_self ns))

both : (a b : Bool) → a ≡ true → b ≡ true → (a && b) ≡ true
both true true p q = refl
both true false p q = absurd (true≢false (sym q))
both false b p q = absurd (true≢false (sym p))

known_match : (test : List ℕ → Bool) (o : Ordering) (a b c : Members) → are_cells test a ≡ true → are_cells test b ≡ true → are_cells test c ≡ true → are_cells test (match_ordering o a b c) ≡ true
known_match test Less a b c p q r = p
known_match test Equal a b c p q r = q
known_match test Greater a b c p q r = r

known_put : (test : List ℕ → Bool) (k : List ℕ) (d : Data) (ms : Members) → test k ≡ true → is_some (as_object d) ≡ true → are_cells test ms ≡ true → are_cells test (put k d ms) ≡ true
known_put test k d no_members t o h = both (test k && is_some (as_object d)) true (both (test k) (is_some (as_object d)) t o) refl
known_put test k d (member l e ms) t o h =
    let p = and_parts (test l && is_some (as_object e)) (are_cells test ms) h in
    let q = and_parts (test l) (is_some (as_object e)) p.0 in
    known_match test (slice_cmp nat_cmp k l) (member k d (member l e ms)) (member l d ms) (member l e (put k d ms))
    (both (test k && is_some (as_object d)) (are_cells test (member l e ms)) (both (test k) (is_some (as_object d)) t o) h)
    (both (test l && is_some (as_object d)) (are_cells test ms) (both (test l) (is_some (as_object d)) q.0 o) p.1)
    (both (test l && is_some (as_object e)) (are_cells test (put k d ms)) p.0 (known_put test k d ms t o p.1))

known_cell : (test : List ℕ → Bool) (n : List ℕ) (c : Option Term) (ms : Members) → test (encode_utf8_all n) ≡ true → are_cells test ms ≡ true → are_cells test (with_cell n c ms) ≡ true
known_cell test n None ms t h = h
known_cell test n (Some u) ms t h = known_put test (encode_utf8_all n) (term_value u) ms t refl h

known_row : (all ns : List (List ℕ)) (row : List (Option Term)) → Sub all ns → are_cells (is_name all) (row_members ns row) ≡ true
known_row all [] row s = refl
known_row all (n ∷ ns) [] s = refl
known_row all (n ∷ ns) (c ∷ cs) s = known_cell (is_name all) n c (row_members ns cs) s.0 (known_row all ns cs s.1)

known_rows : (names : List (List ℕ)) (rows : List (List (Option Term))) → list_all (is_row names) (map (row_value names) rows) ≡ true
known_rows names [] = refl
known_rows names (r ∷ rs) = both (is_row names (row_value names r)) (list_all (is_row names) (map (row_value names) rs)) (known_row names names r (sub_self names)) (known_rows names rs)

term_spells : (t : Term) → IsValidTerm t → Spells (term_value t) t
term_spells (Iri a) v = (refl, refl)
term_spells (Blank a) v = (refl, refl)
term_spells (Plain a) v = (inl refl, refl, refl, inl refl)
term_spells (Tagged a x) v = (inl refl, refl, refl, inl refl)
term_spells (Typed a x) v = (inl refl, refl, refl, refl, (typed_parts a x v).2)

skip_cell : (n m : List ℕ) (c : Option Term) (ms : Members) → (n ≡ m → ⊥) → get_member (encode_utf8_all n) (with_cell m c ms) ≡ get_member (encode_utf8_all n) ms
skip_cell n m None ms h = refl
skip_cell n m (Some t) ms h = get_member-put_other (encode_utf8_all n) (encode_utf8_all m) (term_value t) ms (λ e. h (encodes_same n m e))

absent : (n : List ℕ) (ns : List (List ℕ)) (cs : List (Option Term)) → Fresh n ns → get_member (encode_utf8_all n) (row_members ns cs) ≡ None
absent n [] cs h = refl
absent n (m ∷ ms) [] h = refl
absent n (m ∷ ms) (c ∷ cs) h = skip_cell n m c (row_members ms cs) h.0 ∙ absent n ms cs h.1

this_cell : (n : List ℕ) (c : Option Term) (ms : Members) → get_member (encode_utf8_all n) ms ≡ None → IfSome c IsValidTerm → IsCell (get_member (encode_utf8_all n) (with_cell n c ms)) c
this_cell n None ms none v = subst (λ o. IsCell o None) (sym none) tt
this_cell n (Some t) ms none v = subst (λ o. IsCell o (Some t)) (sym (get_member-put (encode_utf8_all n) (term_value t) ms)) (term_spells t v, v)

other_cells : (n : List ℕ) (c : Option Term) (ms : Members) (ns : List (List ℕ)) (cs : List (Option Term)) → Fresh n ns → IsRowValue ns (object ms) cs → IsRowValue ns (object (with_cell n c ms)) cs
other_cells n c ms [] [] f h = tt
other_cells n c ms [] (x ∷ xs) f h = absurd h
other_cells n c ms (m ∷ ns) [] f h = absurd h
other_cells n c ms (m ∷ ns) (x ∷ xs) f h = (subst (λ o. IsCell o x) (sym (skip_cell m n c ms (λ e. f.0 (sym e)))) h.0, other_cells n c ms ns xs f.1 h.1)

row_reads : (names : List (List ℕ)) (row : List (Option Term)) → EachOnce names → length row ≡ length names → All (λ c. IfSome c IsValidTerm) row → IsRowValue names (row_value names row) row
row_reads [] [] once len v = tt
row_reads [] (c ∷ cs) once len v = absurd (omega arith)
row_reads (n ∷ ns) [] once len v = absurd (omega arith)
row_reads (n ∷ ns) (c ∷ cs) once len v =
    let f = once_front n ns once in (
      this_cell n c (row_members ns cs) (absent n ns cs f) (all_head (λ x. IfSome x IsValidTerm) c cs v),
      other_cells n c (row_members ns cs) ns cs f (row_reads ns cs (once_rest n ns once) (omega arith) (all_tail (λ x. IfSome x IsValidTerm) c cs v)),
    )

rows_read : (names : List (List ℕ)) (rows : List (List (Option Term))) → EachOnce names → All (IsRightRow names) rows → AreRowValues names (map (row_value names) rows) rows
rows_read names [] once h = tt
rows_read names (r ∷ rs) once h =
    let right = all_head (IsRightRow names) r rs h in
    (row_reads names r once right.0 right.1, rows_read names rs once (all_tail (IsRightRow names) r rs h))

table_reads : (t : Table) → IsRightTable t → IsTableValue (table_value t) t
table_reads t h = (map (row_value t.vars) t.rows, ((refl, h.0), (refl, known_rows t.vars t.rows)), rows_read t.vars t.rows h.0 h.2)

pub tables_again : TablesReadAgain
tables_again t h =
    let text = table_text_parts t h in
    (table_value t, (text_utf8 (table_value t) text, text_reads (table_value t) text (table_depth t) (table_back t h.0)), table_reads t h)

truth_text_parts : (b : Bool) → IsText (truth_value b)
truth_text_parts b = (IsUtf8-are_ascii (codes "boolean") refl, tt, (IsUtf8-are_ascii (codes "head") refl, tt, tt))

pub truths_again : TruthsReadAgain
truths_again b =
    let text = truth_text_parts b in
    (truth_value b, (text_utf8 (truth_value b) text, text_reads (truth_value b) text (omega arith) refl), ((no_members, refl), refl))
