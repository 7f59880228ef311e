-- The columns of a table in the order of their names, and the members of a row.
use Rattle.std.proofs.Common.{◌≡◌, ℕ, suc, zero, ◌<◌, List, [], ◌∷◌, Option, Some, None, Ordering, Less, Equal, Greater, refl, sym, ap, ◌∙◌, arith, length, get_or, drop, slice_get, encode_utf8_all, nat_cmp, Bor}
use Rattle.std.specs.BTreeMap.{insert_entry}
use Rattle.std.specs.Cmp.Lexicographic.{slice_cmp}
use Rattle.std.specs.Ordering.{match_ordering, ordering_reverse}
use Rattle.std.proofs.Math.Seq.{drop-cons}
use Rattle.std.proofs.lemmas.Cmp.{nat_list_cmp_total}
use Rattle.rdf_term.specs.EachOnce.{EachOnce}
use Rattle.rdf_term.specs.OrderLaws.{text_exact}
use Rattle.rdf_term.specs.declared.term.Term.{Term}
use Rattle.serde_json.specs.Data.{Data, Members, no_members, member, put}
use Rattle.results_json.specs.Tables.{term_value, with_cell, row_members}
use Rattle.results_json.specs.Columns.{named, columns_from, bound_cell, bound}

abbrev pub cmp : List ℕ → List ℕ → Ordering
cmp = slice_cmp nat_cmp

abbrev pub Columns : Type 0
Columns = List (List ℕ × ℕ)

-- k is below each key
abbrev pub Above : List ℕ → Columns → Type 0
Above k [] = Unit {0}
Above k (e ∷ es) = (cmp k e.0 ≡ Less) × Above k es

abbrev pub Ascends : Columns → Type 0
Ascends [] = Unit {0}
Ascends (e ∷ es) = Above e.0 es × Ascends es

-- k is no key
abbrev NotIn : List ℕ → Columns → Type 0
NotIn k [] = Unit {0}
NotIn k (e ∷ es) = (cmp k e.0 ≡ Equal → ⊥) × NotIn k es

above_trans : (k l : List ℕ) (es : Columns) → cmp k l ≡ Less → Above l es → Above k es
above_trans k l [] h a = tt
above_trans k l (e ∷ es) h a = (nat_list_cmp_total.trans k l e.0 h a.0, above_trans k l es h a.1)

above_match : (o : Ordering) (k : List ℕ) (a b c : Columns) → Above k a → Above k b → Above k c → Above k (match_ordering o a b c)
above_match Less k a b c p q r = p
above_match Equal k a b c p q r = q
above_match Greater k a b c p q r = r

above_insert : (k l : List ℕ) (i : ℕ) (es : Columns) → cmp k l ≡ Less → Above k es → Above k (insert_entry cmp es l i)
above_insert k l i [] h a = (h, tt)
above_insert k l i (e ∷ es) h a =
    above_match (cmp l e.0) k ((l, i) ∷ e ∷ es) ((e.0, i) ∷ es) (e ∷ insert_entry cmp es l i) (h, a) a (a.0, above_insert k l i es h a.1)

not_match : (o : Ordering) (k : List ℕ) (a b c : Columns) → NotIn k a → NotIn k b → NotIn k c → NotIn k (match_ordering o a b c)
not_match Less k a b c p q r = p
not_match Equal k a b c p q r = q
not_match Greater k a b c p q r = r

not_insert : (k l : List ℕ) (i : ℕ) (es : Columns) → (cmp k l ≡ Equal → ⊥) → NotIn k es → NotIn k (insert_entry cmp es l i)
not_insert k l i [] h a = (h, tt)
not_insert k l i (e ∷ es) h a =
    not_match (cmp l e.0) k ((l, i) ∷ e ∷ es) ((e.0, i) ∷ es) (e ∷ insert_entry cmp es l i) (h, a) a (a.0, not_insert k l i es h a.1)

below : (k l : List ℕ) → cmp k l ≡ Greater → cmp l k ≡ Less
below k l e = nat_list_cmp_total.antisymm l k ∙ ap ordering_reverse e

ascends_at : (o : Ordering) (l : List ℕ) (i : ℕ) (e : List ℕ × ℕ) (es : Columns) → cmp l e.0 ≡ o → Ascends (e ∷ es) → Ascends (insert_entry cmp es l i)
    → Ascends (match_ordering o ((l, i) ∷ e ∷ es) ((e.0, i) ∷ es) (e ∷ insert_entry cmp es l i))
ascends_at Less l i e es is a later = ((is, above_trans l e.0 es is a.0), a)
ascends_at Equal l i e es is a later = a
ascends_at Greater l i e es is a later = (above_insert e.0 l i es (below l e.0 is) a.0, later)

ascends_insert : (l : List ℕ) (i : ℕ) (es : Columns) → Ascends es → Ascends (insert_entry cmp es l i)
ascends_insert l i [] a = (tt, tt)
ascends_insert l i (e ∷ es) a = ascends_at (cmp l e.0) l i e es refl a (ascends_insert l i es a.1)

pub columns_ascend : (i : ℕ) (names : List (List ℕ)) → Ascends (columns_from i names)
columns_ascend i [] = tt
columns_ascend i (n ∷ ns) = ascends_insert (encode_utf8_all n) i (columns_from (suc i) ns) (columns_ascend (suc i) ns)

-- ---- distinct names

abbrev pub Fresh : List ℕ → List (List ℕ) → Type 0
Fresh k [] = Unit {0}
Fresh k (n ∷ ns) = (k ≡ n → ⊥) × Fresh k ns

fresh : (k : List ℕ) (ns : List (List ℕ)) → ((j : ℕ) (d : List ℕ) → j < length ns → k ≡ get_or ns j d → ⊥) → Fresh k ns
fresh k [] h = tt
fresh k (n ∷ ns) h = (h 0 k (omega arith), fresh k ns (λ j d less. h (suc j) d (omega arith)))

pub once_front : (n : List ℕ) (ns : List (List ℕ)) → EachOnce (n ∷ ns) → Fresh n ns
once_front n ns h = fresh n ns (λ j d less. h 0 (suc j) d (omega arith) (omega arith))

pub once_rest : (n : List ℕ) (ns : List (List ℕ)) → EachOnce (n ∷ ns) → EachOnce ns
once_rest n ns h = λ i j d less within. h (suc i) (suc j) d (omega arith) (omega arith)

not_column : (k : List ℕ) (i : ℕ) (ns : List (List ℕ)) → Fresh k ns → NotIn (encode_utf8_all k) (columns_from i ns)
not_column k i [] h = tt
not_column k i (n ∷ ns) h =
    not_insert (encode_utf8_all k) (encode_utf8_all n) i (columns_from (suc i) ns) (λ e. h.0 (text_exact k n e)) (not_column k (suc i) ns h.1)

-- ---- the members of a row

-- a cell with its name's bytes, put among members
abbrev put_cell : List ℕ → Option (Option Term) → Members → Members
put_cell k None ms = ms
put_cell k (Some None) ms = ms
put_cell k (Some (Some t)) ms = put k (term_value t) ms

goes_first : (k : List ℕ) (d : Data) (l : List ℕ) (cell : Option (Option Term)) (ms : Members) → cmp k l ≡ Less → put k d ms ≡ member k d ms
    → put k d (bound_cell l cell ms) ≡ member k d (bound_cell l cell ms)
goes_first k d l None ms less later = later
goes_first k d l (Some None) ms less later = later
goes_first k d l (Some (Some t)) ms less later = rw less

put_above : (k : List ℕ) (d : Data) (es : Columns) (row : List (Option Term)) → Above k es → put k d (bound es row) ≡ member k d (bound es row)
put_above k d [] row a = refl
put_above k d (e ∷ es) row a = goes_first k d e.0 (slice_get row e.1) (bound es row) a.0 (put_above k d es row a.1)

in_front : (k : List ℕ) (cell : Option (Option Term)) (ms : Members) → ((d : Data) → put k d ms ≡ member k d ms) → bound_cell k cell ms ≡ put_cell k cell ms
in_front k None ms h = refl
in_front k (Some None) ms h = refl
in_front k (Some (Some t)) ms h = sym (h (term_value t))

apart : (k l : List ℕ) (cell other : Option (Option Term)) (ms : Members) → cmp k l ≡ Greater
    → bound_cell l other (put_cell k cell ms) ≡ put_cell k cell (bound_cell l other ms)
apart k l None other ms is = refl
apart k l (Some None) other ms is = refl
apart k l (Some (Some t)) None ms is = refl
apart k l (Some (Some t)) (Some None) ms is = refl
apart k l (Some (Some t)) (Some (Some u)) ms is = rw is

put_column_at : (o : Ordering) (k : List ℕ) (i : ℕ) (e : List ℕ × ℕ) (es : Columns) (row : List (Option Term)) → cmp k e.0 ≡ o → Ascends (e ∷ es) → NotIn k (e ∷ es)
    → bound (insert_entry cmp es k i) row ≡ put_cell k (slice_get row i) (bound es row)
    → bound (match_ordering o ((k, i) ∷ e ∷ es) ((e.0, i) ∷ es) (e ∷ insert_entry cmp es k i)) row ≡ put_cell k (slice_get row i) (bound (e ∷ es) row)
put_column_at Less k i e es row is a n later =
    in_front k (slice_get row i) (bound (e ∷ es) row) (λ d. put_above k d (e ∷ es) row (is, above_trans k e.0 es is a.0))
put_column_at Equal k i e es row is a n later = absurd (n.0 is)
put_column_at Greater k i e es row is a n later =
    ap (bound_cell e.0 (slice_get row e.1)) later ∙ apart k e.0 (slice_get row i) (slice_get row e.1) (bound es row) is

put_column : (k : List ℕ) (i : ℕ) (es : Columns) (row : List (Option Term)) → Ascends es → NotIn k es
    → bound (insert_entry cmp es k i) row ≡ put_cell k (slice_get row i) (bound es row)
put_column k i [] row a n = in_front k (slice_get row i) no_members (λ d. refl)
put_column k i (e ∷ es) row a n = put_column_at (cmp k e.0) k i e es row refl a n (put_column k i es row a.1 n.1)

no_cells : (ns : List (List ℕ)) → row_members ns [] ≡ no_members
no_cells [] = refl
no_cells (n ∷ ns) = refl

one_cell : (n : List ℕ) (cell : Option Term) (ms : Members) → put_cell (encode_utf8_all n) (Some cell) ms ≡ with_cell n cell ms
one_cell n None ms = refl
one_cell n (Some t) ms = refl

row_step : (n : List ℕ) (ns : List (List ℕ)) (row : List (Option Term)) (i : ℕ)
    → put_cell (encode_utf8_all n) (slice_get row i) (row_members ns (drop (suc i) row)) ≡ row_members (n ∷ ns) (drop i row)
row_step n ns [] zero = no_cells ns
row_step n ns [] (suc i) = no_cells ns
row_step n ns (c ∷ cs) zero = one_cell n c (row_members ns cs)
row_step n ns (c ∷ cs) (suc i) = row_step n ns cs i

-- the columns that are bound in a row are its members
pub bound_row : (i : ℕ) (names : List (List ℕ)) (row : List (Option Term)) → EachOnce names → bound (columns_from i names) row ≡ row_members names (drop i row)
bound_row i [] row h = refl
bound_row i (n ∷ ns) row h =
    put_column (encode_utf8_all n) i (columns_from (suc i) ns) row (columns_ascend (suc i) ns) (not_column n (suc i) ns (once_front n ns h))
    ∙ ap (put_cell (encode_utf8_all n) (slice_get row i)) (bound_row (suc i) ns row (once_rest n ns h))
    ∙ row_step n ns row i

-- ---- the entries of the map

named_match : (o : Ordering) (a b c : List (Bor (List ℕ) × ℕ)) → named (match_ordering o a b c) ≡ match_ordering o (named a) (named b) (named c)
named_match Less a b c = refl
named_match Equal a b c = refl
named_match Greater a b c = refl

pub named_insert : (es : List (Bor (List ℕ) × ℕ)) (k : Bor (List ℕ)) (i : ℕ)
    → named (insert_entry (λ x y. slice_cmp nat_cmp x.now y.now) es k i) ≡ insert_entry cmp (named es) k.now i
named_insert [] k i = refl
named_insert (e ∷ es) k i = named_match (cmp k.now e.0.now) _ _ _ ∙ ap (match_ordering (cmp k.now e.0.now) _ _) (ap (λ r. (e.0.now, e.1) ∷ r) (named_insert es k i))

-- one more column is put among those behind it
pub columns_step : (names : List (List ℕ)) (p q : ℕ) (n : List ℕ) (old new : List (Bor (List ℕ) × ℕ)) (k : Bor (List ℕ)) → q ≡ suc p → p < length names → n ≡ get_or names p n
    → k.now ≡ encode_utf8_all n → named old ≡ columns_from q (drop q names) → new ≡ insert_entry (λ x y. slice_cmp nat_cmp x.now y.now) old k p
    → named new ≡ columns_from p (drop p names)
columns_step names p q n old new k e less is text so_far made =
    let here : drop p names ≡ n ∷ drop (suc p) names = drop-cons names p n less ∙ ap (λ m. m ∷ drop (suc p) names) (sym is) in
    ap named made ∙ named_insert old k p
    ∙ ap (λ es. insert_entry cmp es k.now p) (so_far ∙ ap (λ r. columns_from r (drop r names)) e)
    ∙ ap (λ t. insert_entry cmp (columns_from (suc p) (drop (suc p) names)) t p) text
    ∙ ap (columns_from p) (sym here)
