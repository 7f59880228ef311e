-- What is kept for the open SERIALIZABLE transactions, and how each call changes it.
use Rattle.std.specs.Prelude.{ℕ, ◌+◌, ◌<◌, ◌≤◌, ◌≡◌, Bool, true, false, not, List, [], ◌∷◌, ◌++◌, length, filter, max, min, Option, Some, None, nat_le, nat_lt, if◌then◌else◌}
use Rattle.std.specs.List.{flat_map}
use Rattle.std.specs.Map.{lookup, set_value}
use Rattle.std.specs.BTreeMap.{insert_entry, is_at}
use Rattle.std.specs.Ordering.{eq_by_cmp, nat_cmp}
use Rattle.rdf_term.specs.declared.pattern.Pattern.{Pattern}
use Rattle.rdf_term.specs.Statement.{Statement}
use Rattle.rdf_term.specs.Sets.{in_order}
use Rattle.journal.specs.declared.level.Level.TheVariants.{Serializable}
use Rattle.journal.specs.declared.txn.Txn.{Txn}
use Rattle.journal.specs.declared.limits.Limits.{Limits}
use Rattle.journal.specs.Levels.{is_level}
use Rattle.journal.specs.Past.{Judged, is_open}
use Rattle.journal.specs.Found.{one_matches}
use Rattle.journal.specs.Conflicts.{deltas_since, differing, least, observed, with_pattern}

-- what the entry at a place changed in the committed content
pub record Changed : Type 0 where
  pub place : ℕ
  pub quads : List Statement

-- the places of the Begins of the open SERIALIZABLE transactions, each with the patterns that its reads observed; what entries changed
-- meanwhile, from the oldest to the newest; and the greatest place that this was trimmed to
pub record Watch : Type 0 where
  pub readers : List (ℕ × List Pattern)
  pub changed : List Changed
  pub trimmed : ℕ

abbrev pub nothing_watched : Watch
nothing_watched = record { readers = []; changed = []; trimmed = 0 }

abbrev pub is_serializable : Txn → Bool
is_serializable t = is_level t.level Serializable

-- what the transaction that began at this place observed
abbrev pub observed_in : ℕ → List (ℕ × List Pattern) → Option (List Pattern)
observed_in place readers = lookup (is_at (nat_cmp place)) readers

-- the quads that are in one of two contents and not in the other, in order
abbrev pub quads_changed : List Statement → List Statement → List Statement
quads_changed older newer = in_order (differing older newer)

-- the quads that entries above a place changed
abbrev pub changed_above : ℕ → List Changed → List Statement
changed_above from changed = flat_map (λ (it : Changed). it.quads) (filter (λ (it : Changed). nat_lt from it.place) changed)

-- What calls leave

-- a transaction begins
abbrev pub watch_begun : Txn → Watch → Watch
watch_begun t w = if is_serializable t then record w { readers = insert_entry nat_cmp w.readers t.place [] } else w

-- with more patterns for the transaction that began at this place, where it observes
abbrev pub observing : ℕ → List Pattern → Option (List Pattern) → List (ℕ × List Pattern) → List (ℕ × List Pattern)
observing place patterns None readers = readers
observing place patterns (Some before) readers = set_value (is_at (nat_cmp place)) readers (before ++ patterns)

-- a transaction reads what these patterns match
abbrev pub watch_read : Option Txn → List Pattern → Watch → Watch
watch_read None patterns w = w
watch_read (Some t) patterns w =
    if is_serializable t then record w { readers = observing t.place patterns (observed_in t.place w.readers) w.readers } else w

abbrev pub is_unwatched : List (ℕ × List Pattern) → Bool
is_unwatched [] = true
is_unwatched (reader ∷ readers) = false

-- the entry at a place changes quads; that is kept while a SERIALIZABLE transaction is open
abbrev pub watch_noted : ℕ → List Statement → Watch → Watch
watch_noted place quads w = if is_unwatched w.readers then w else record w { changed = w.changed ++ record { place = place; quads = quads } ∷ [] }

abbrev pub without_reader : ℕ → List (ℕ × List Pattern) → List (ℕ × List Pattern)
without_reader place readers = filter (λ (e : ℕ × List Pattern). not (eq_by_cmp nat_cmp place e.0)) readers

-- the least of a place and those of readers
abbrev pub least_place : ℕ → List (ℕ × List Pattern) → ℕ
least_place place [] = place
least_place place (e ∷ es) = least_place (min place e.0) es

-- the place of the oldest Begin of these, or this one where there is none
abbrev pub oldest_or : ℕ → List (ℕ × List Pattern) → ℕ
oldest_or place [] = place
oldest_or place (e ∷ es) = least_place e.0 es

-- without what was changed below a place
abbrev pub trimmed_to : ℕ → Watch → Watch
trimmed_to before w = record w { changed = filter (λ (it : Changed). nat_le before it.place) w.changed; trimmed = max w.trimmed before }

-- the entry at a place ends a transaction: what was changed before the oldest Begin that is left is dropped, or all where none is left
abbrev pub watch_ended : ℕ → Txn → Watch → Watch
watch_ended place t w =
    if is_serializable t
    then trimmed_to (oldest_or (place + 1) (without_reader t.place w.readers)) (record w { readers = without_reader t.place w.readers })
    else w

-- The clash of a Commit

-- the least of the quads that an observed pattern matches, with the first such pattern
abbrev pub clash_among : Option (List Pattern) → List Statement → Option (Pattern × Statement)
clash_among None quads = None
clash_among (Some patterns) quads = with_pattern patterns (least (filter (one_matches patterns) quads))

-- the clash of a Commit of the transaction, in the words of what is kept
abbrev pub watched_clash : Watch → Txn → Option (Pattern × Statement)
watched_clash w t = if is_serializable t then clash_among (observed_in t.place w.readers) (changed_above t.place w.changed) else None

-- What is true of all this

-- the place is above all kept ones
abbrev pub AllBefore : ℕ → List Changed → Type 0
AllBefore place [] = Unit {0}
AllBefore place (it ∷ others) = (it.place < place) × AllBefore place others

-- where a transaction that began at this place is watched, nothing above it was trimmed
abbrev pub IsUntrimmed : ℕ → Watch → Type 0
IsUntrimmed place w = (patterns : List Pattern) → observed_in place w.readers ≡ Some patterns → w.trimmed ≤ place + 1

-- what is kept is ready for an entry at this place: all kept places are below, and nothing above a watched Begin was trimmed
pub record IsReady (place : ℕ) (w : Watch) : Type 0 where
  pub below : AllBefore place w.changed
  pub untrimmed : (reader : ℕ) → IsUntrimmed reader w

-- where no SERIALIZABLE transaction is open, no change is kept
abbrev pub IsEmptyUnwatched : Watch → Type 0
IsEmptyUnwatched w = is_unwatched w.readers ≡ true → w.changed ≡ []

-- the SERIALIZABLE transaction that begins at a place
abbrev pub reader_at : ℕ → Txn
reader_at place = record { place = place; level = Serializable }

-- what is observed by the SERIALIZABLE transaction that began at a place, where it is open
abbrev pub observed_at : Limits → List Judged → ℕ → Option (List Pattern)
observed_at limits past place = if is_open limits past (reader_at place) then Some (observed limits past (reader_at place)) else None

-- What is kept stands for the past: the readers are the open SERIALIZABLE transactions with what they observed, what was changed above the
-- Begin of each is the quads of the deltas since then, and nothing above it was trimmed.
pub record Watches (limits : Limits) (past : List Judged) (w : Watch) : Type 0 where
  pub readers_are : (place : ℕ) → observed_in place w.readers ≡ observed_at limits past place
  pub changed_is : (place : ℕ) → is_open limits past (reader_at place) ≡ true
      → in_order (deltas_since limits past (reader_at place)) ≡ in_order (changed_above place w.changed)
  pub untrimmed : (place : ℕ) → is_open limits past (reader_at place) ≡ true → w.trimmed ≤ place + 1
  pub trimmed_below : w.trimmed ≤ length past
  pub below : AllBefore (length past) w.changed
