-- Sets, as the lists of their elements in order, each once; and lists in order, with each item as often as it was there.
use Rattle.std.specs.Prelude.{List, [], ◌∷◌, Option, fold}
use Rattle.std.specs.BTreeSet.{insert_key}
use Rattle.std.specs.Ordering.{match_ordering}
use Rattle.std.specs.declared.cmp.Ordering.{Ordering}
use Rattle.rdf_term.specs.declared.term.Term.{Term}
use Rattle.rdf_term.specs.Statement.{Statement}
use Rattle.rdf_term.specs.Order.{quad_cmp, row_cmp}

-- these items in the order cmp, each once
abbrev pub sorted_set : {K : Type 0} → (K → K → Ordering) → List K → List K
sorted_set cmp items = fold (λ sorted item. insert_key cmp sorted item) [] items

-- these quads in their order, each once
abbrev pub in_order : List Statement → List Statement
in_order quads = sorted_set quad_cmp quads

-- the item before the first one that isn't below it
abbrev pub insert_item : {K : Type 0} → (K → K → Ordering) → List K → K → List K
insert_item cmp [] k = k ∷ []
insert_item cmp (x ∷ xs) k = match_ordering (cmp k x) (k ∷ x ∷ xs) (k ∷ x ∷ xs) (x ∷ insert_item cmp xs k)

-- these items in the order cmp, each as often as it stands there
abbrev pub sorted_list : {K : Type 0} → (K → K → Ordering) → List K → List K
sorted_list cmp items = fold (λ sorted item. insert_item cmp sorted item) [] items

-- these rows in their order, each as often as it stands there
abbrev pub rows_in_order : List (List (Option Term)) → List (List (Option Term))
rows_in_order rows = sorted_list row_cmp rows
