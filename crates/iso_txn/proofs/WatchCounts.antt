-- What the number of kept changes says of the journal.
use Rattle.std.proofs.Common.{◌≡◌, ℕ, true, cond, ◌||◌, List, [], ◌∷◌, length, Some, None, refl, sym, ap, ◌∙◌, true≢false}
use Rattle.std.specs.Option.{is_some}
use Rattle.std.specs.Ordering.{is_eq}
use Rattle.std.specs.Cmp.{tied_itself}
use Rattle.std.proofs.lemmas.List.{nil_from_length}
use Rattle.rdf_term.specs.declared.pattern.Pattern.{Pattern}
use Rattle.rdf_term.specs.Statement.{Statement}
use Rattle.rdf_term.specs.Order.{quad_cmp}
use Rattle.rdf_term.specs.OrderLaws.{quad_total, quad_exact}
use Rattle.rdf_term.specs.Sets.{in_order}
use Rattle.rdf_term.proofs.SetLemmas.{has, has-sorted_set}
use Rattle.journal.specs.declared.entry.Entry.{Entry}
use Rattle.journal.specs.declared.limits.Limits.{Limits}
use Rattle.journal.specs.Conflicts.{deltas_since, observed}
use Rattle.journal.specs.Journal.{is_live_after, judged}
use Rattle.iso_txn.specs.Held.{Holds}
use Rattle.iso_txn.specs.Kept.{Kept}
use Rattle.iso_txn.specs.Repository.{IsUnchangedMeanwhile, NoneSerializable, Repository}
use Rattle.iso_txn.specs.Watch.{changed_above, is_unwatched, observed_in, reader_at}
use Rattle.iso_txn.proofs.WatchParts.{found_head}

-- where no quad is in order, there is none
none_in_order : (quads : List Statement) → in_order quads ≡ [] → quads ≡ []
none_in_order [] none = refl
none_in_order (q ∷ quads) none =
    absurd (true≢false
    (sym (λ i. is_eq (tied_itself quad_total q i) || has quad_cmp quads q)
    ∙ (sym (has-sorted_set quad_total quad_exact (q ∷ quads) q) ∙ ap (λ them. has quad_cmp them q) none)))

-- where nothing is found at any place, there are no readers
none_found : (readers : List (ℕ × List Pattern)) → ((place : ℕ) → observed_in place readers ≡ None) → is_unwatched readers ≡ true
none_found [] none = refl
none_found (e ∷ es) none = absurd (true≢false (sym (found_head e es) ∙ ap is_some (none e.0)))

abbrev pub repository : Limits → List Entry → Repository
repository l J = record { limits = l; journal = J }

module _ (l : Limits) (n : ℕ) (J : List Entry) (k : Kept) (h : Holds l n J k) where
  pub none_kept : NoneSerializable (repository l J) → length k.watch.changed ≡ 0
  unfolding is_live_after
  none_kept none =
      ap length (h.idle (none_found k.watch.readers
      (λ place. h.watches.readers_are place ∙ ap (λ b. cond b (Some (observed l (judged l J) (reader_at place))) None) (none place))))

  pub unchanged : length k.watch.changed ≡ 0 → IsUnchangedMeanwhile (repository l J)
  unfolding is_live_after
  unchanged none = λ place live.
      none_in_order (deltas_since l (judged l J) (reader_at place))
      (h.watches.changed_is place live ∙ ap (λ changed. in_order (changed_above place changed)) (nil_from_length k.watch.changed none))
