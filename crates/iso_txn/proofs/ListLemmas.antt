-- Lists of pending writes: one more at a time, and by halves.
use Rattle.std.proofs.Common.{◌≡◌, ℕ, ◌+◌, ◌<◌, List, [], ◌∷◌, ◌++◌, length, get_or, take, drop, sym, ap, subst, ◌∙◌, append-nil, take-append-drop}
use Rattle.std.specs.Prelude.{Bool}
use Rattle.std.specs.List.Sorted.{IsStrictlySortedBy}
use Rattle.std.proofs.lemmas.List.{take_more}
use Rattle.rdf_term.specs.Statement.{Statement}
use Rattle.rdf_term.specs.Order.{quad_cmp}
use Rattle.rdf_term.specs.OrderLaws.{quad_total, quad_exact}
use Rattle.rdf_term.proofs.SetLemmas.{same_set}
use Rattle.change_set.specs.declared.change.Change.{Change}
use Rattle.change_set.specs.Content.{applied, SameChanges}
use Rattle.change_set.proofs.Contents.{has-applied, sorted-applied}
use Rattle.change_set.proofs.Effects.{SameChanges-append, SameChanges-trans}
use Rattle.journal.specs.declared.txn.Txn.{Txn}
use Rattle.iso_txn.specs.Kept.{Pending, picked, changes_where}
use Rattle.iso_txn.proofs.Views.{where-append}

-- no changes leave a set as it is
pub applied-none : (quads : List Statement) → IsStrictlySortedBy quad_cmp quads → applied quads [] ≡ quads
applied-none quads s = same_set quad_total quad_exact (applied quads []) quads (sorted-applied quads []) s (λ q. has-applied quads [] q)

-- one more write
pub where_more : (test : Txn → Bool) (ws : List Pending) (i : ℕ) (w : Pending) → i < length ws → w ≡ get_or ws i w
    → changes_where test (take i ws) ++ picked test w ≡ changes_where test (take (i + 1) ws)
where_more test ws i w h is =
    ap (λ r. changes_where test (take i ws) ++ r) (sym (append-nil (picked test w)))
    ∙ (sym (where-append test (take i ws) (w ∷ []))
    ∙ ap (changes_where test) (sym (take_more ws i w h ∙ ap (λ x. take i ws ++ x ∷ []) (sym is))))

-- two halves
pub same_halves : (test : Txn → Bool) (ws : List Pending) (n : ℕ) (both one other : List Change) → SameChanges both (one ++ other)
    → SameChanges one (changes_where test (take n ws)) → SameChanges other (changes_where test (drop n ws)) → SameChanges both (changes_where test ws)
same_halves test ws n both one other merged a b =
    subst (SameChanges both) (sym (where-append test (take n ws) (drop n ws)) ∙ ap (changes_where test) (take-append-drop n ws))
    (SameChanges-trans both (one ++ other) (changes_where test (take n ws) ++ changes_where test (drop n ws)) merged (SameChanges-append one (changes_where test (take n ws)) other (changes_where test (drop n ws)) a b))
