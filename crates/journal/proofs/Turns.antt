-- What one more entry adds to a transaction's own changes, to what it observed, to the deltas since its Begin, to the prefixes and to the Commits.
use Rattle.std.proofs.Common.{◌≡◌, ℕ, ◌+◌, ◌<◌, List, [], ◌∷◌, ◌++◌, length, take, drop, refl, ◌∙◌, ap, cond, ◌&&◌, append-nil, take-append-drop, arith}
use Rattle.std.specs.List.{sum_by}
use Rattle.std.proofs.lemmas.List.{take-append-le, drop-append-le}
use Rattle.std.proofs.lemmas.List.Concat.{flat_map-append}
use Rattle.std.proofs.lemmas.List.Sums.{fold-append, sum_by-append}
use Rattle.journal.specs.declared.level.Level.{Level}
use Rattle.journal.specs.declared.level.Level.TheVariants.{NoIsolation, ReadUncommitted, ReadCommitted, SnapshotRead, Snapshot, Serializable}
use Rattle.journal.specs.declared.txn.Txn.{Txn}
use Rattle.journal.specs.declared.limits.Limits.{Limits}
use Rattle.journal.specs.Past.{Judged, joined_from, own_by_level, own_changes}
use Rattle.journal.specs.Committed.{prefixes_of}
use Rattle.journal.specs.Conflicts.{delta_at, deltas_since, observed, observed_by}
use Rattle.journal.specs.Journal.{commits_in, is_commit, judged, judged_entry}
use Rattle.journal.specs.Laws.{CommitsInTurn, ConflictsInTurn, OwnChangesInTurn, PrefixesInTurn}
use Rattle.journal.proofs.Growth.{joined-push, joined_from-append, judged-push}

own_by_level-push : (l : Level) (p : List Judged) (e : Judged) (t : Txn) → own_by_level l t (p ++ e ∷ []) ≡ own_by_level l t p ++ own_by_level l t (e ∷ [])
own_by_level-push NoIsolation p e t = refl
own_by_level-push ReadUncommitted p e t = flat_map-append _ p (e ∷ [])
own_by_level-push ReadCommitted p e t = flat_map-append _ p (e ∷ [])
own_by_level-push SnapshotRead p e t = flat_map-append _ p (e ∷ [])
own_by_level-push Snapshot p e t = flat_map-append _ p (e ∷ [])
own_by_level-push Serializable p e t = flat_map-append _ p (e ∷ [])

pub own_changes_in_turn : OwnChangesInTurn
unfolding own_changes
own_changes_in_turn limits p e t = own_by_level-push t.level p e t

pub prefixes_in_turn : PrefixesInTurn
unfolding prefixes_of
prefixes_in_turn limits p e = fold-append _ [] p (e ∷ [])

observed-push : (limits : Limits) (p : List Judged) (e : Judged) (t : Txn) → observed limits (p ++ e ∷ []) t ≡ observed limits p t ++ cond e.accepted (observed_by limits p t e.entry.op) []
unfolding observed
observed-push limits p e t = joined-push (λ before e. cond e.accepted (observed_by limits before t e.entry.op) []) p e

deltas-push : (limits : Limits) (p : List Judged) (e : Judged) (t : Txn) → t.place < length p → deltas_since limits (p ++ e ∷ []) t ≡ deltas_since limits p t ++ delta_at limits p e
deltas-push limits p e t lt =
    let n : ℕ = t.place + 1 in
    (λ i. joined_from (take-append-le n p (e ∷ []) (omega arith) i) (delta_at limits) (drop-append-le n p (e ∷ []) (omega arith) i))
    ∙ (joined_from-append (take n p) (delta_at limits) (drop n p) (e ∷ [])
    ∙ ap (λ b. joined_from (take n p) (delta_at limits) (drop n p) ++ (delta_at limits b e ++ [])) (take-append-drop n p)
    ∙ ap (λ r. joined_from (take n p) (delta_at limits) (drop n p) ++ r) (append-nil (delta_at limits p e)))

pub conflicts_in_turn : ConflictsInTurn
conflicts_in_turn = record { observed = observed-push; deltas = deltas-push }

one_counted : {A : Type 0} (f : A → ℕ) (x : A) → sum_by f (x ∷ []) ≡ f x
one_counted f x = omega arith

pub commits_in_turn : CommitsInTurn
unfolding commits_in
commits_in_turn limits J e =
    let counts : Judged → ℕ = λ j. cond (j.accepted && is_commit j.entry.op) 1 0 in
    ap (sum_by counts) (judged-push limits J e)
    ∙ (sum_by-append counts (judged limits J) (judged_entry limits (judged limits J) e ∷ [])
    ∙ ap (λ n. sum_by counts (judged limits J) + n) (one_counted counts (judged_entry limits (judged limits J) e)))
