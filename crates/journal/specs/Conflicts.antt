-- Conflicts of SERIALIZABLE transactions: what their reads observed, and what was committed meanwhile.
use Rattle.std.specs.Prelude.{◌+◌, Bool, not, List, [], ◌∷◌, ◌++◌, filter, take, drop, Option, Some, None, if◌then◌else◌, slice_get, find}
use Rattle.std.specs.Option.{option_map}
use Rattle.std.specs.List.{list_any}
use Rattle.std.specs.Ordering.{eq_by_cmp}
use Rattle.rdf_term.specs.declared.pattern.Pattern.{Pattern}
use Rattle.rdf_term.specs.Statement.{Statement}
use Rattle.rdf_term.specs.Matching.{matches}
use Rattle.rdf_term.specs.Order.{quad_cmp}
use Rattle.rdf_term.specs.Sets.{in_order}
use Rattle.journal.specs.declared.level.Level.{Level}
use Rattle.journal.specs.declared.level.Level.TheVariants.{Serializable}
use Rattle.journal.specs.declared.txn.Txn.{Txn}
use Rattle.journal.specs.declared.op.Op.{Op}
use Rattle.journal.specs.declared.op.Op.TheVariants.{Read}
use Rattle.journal.specs.declared.limits.Limits.{Limits}
use Rattle.journal.specs.Levels.{is_txn}
use Rattle.journal.specs.Past.{Judged, joined, joined_from}
use Rattle.journal.specs.Committed.{committed}
use Rattle.journal.specs.Found.{one_matches, patterns_of}

-- the patterns that a Read of t behind the past observes
abbrev pub observed_by : Limits → List Judged → Txn → Op → List Pattern
observed_by limits past t (Read (Some u) ask) = if is_txn t u then patterns_of ask else []
observed_by limits past t _ = []

-- the patterns that t's accepted Reads observed, in order
unfoldable pub observed : Limits → List Judged → Txn → List Pattern
observed limits past t = joined (λ before e. if e.accepted then observed_by limits before t e.entry.op else []) past

abbrev pub is_in : List Statement → Statement → Bool
is_in quads q = list_any (eq_by_cmp quad_cmp q) quads

-- the quads that are in exactly one of two contents
abbrev pub differing : List Statement → List Statement → List Statement
differing older newer = filter (λ q. not (is_in newer q)) older ++ filter (λ q. not (is_in older q)) newer

-- the delta of the entry behind the past: the quads that are committed on one side of it and not on the other
unfoldable pub delta_at : Limits → List Judged → Judged → List Statement
delta_at limits past e = differing (committed limits past) (committed limits (past ++ e ∷ []))

-- the deltas of all entries behind t's Begin, joined
abbrev pub deltas_since : Limits → List Judged → Txn → List Statement
deltas_since limits past t = joined_from (take (t.place + 1) past) (delta_at limits) (drop (t.place + 1) past)

abbrev pub least : List Statement → Option Statement
least quads = slice_get (in_order quads) 0

-- a quad with the first of the patterns that matches it
abbrev pub with_pattern : List Pattern → Option Statement → Option (Pattern × Statement)
with_pattern patterns None = None
with_pattern patterns (Some q) = option_map (λ p. (p, q)) (find (λ p. matches p q) patterns)

abbrev pub clash_by_level : Level → Limits → List Judged → Txn → Option (Pattern × Statement)
clash_by_level Serializable limits past t =
    with_pattern (observed limits past t) (least (filter (one_matches (observed limits past t)) (deltas_since limits past t)))
clash_by_level _ limits past t = None

-- the clash of a Commit of t behind the past: the least quad of a delta since its Begin that an observed pattern matches, with the first such pattern.
-- It is nothing where there is no such quad, and at every level but SERIALIZABLE.
unfoldable pub clash_at : Limits → List Judged → Txn → Option (Pattern × Statement)
clash_at limits past t = clash_by_level t.level limits past t
