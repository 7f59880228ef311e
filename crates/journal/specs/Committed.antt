-- What is committed: the changes that entries apply, their content, and the prefixes.
use Rattle.std.specs.Prelude.{ℕ, Bool, not, List, [], ◌∷◌, if◌then◌else◌, filter, fold}
use Rattle.std.specs.Ordering.{eq_by_cmp}
use Rattle.std.specs.declared.cmp.Ordering.TheVariants.{Less, Equal, Greater}
use Rattle.rdf_term.specs.Statement.{Statement}
use Rattle.rdf_term.specs.TextOrder.{text_cmp}
use Rattle.change_set.specs.declared.change.Change.{Change}
use Rattle.change_set.specs.Content.{content}
use Rattle.journal.specs.declared.op.NamesOp.{NamesOp}
use Rattle.journal.specs.declared.op.NamesOp.TheVariants as name
use Rattle.journal.specs.declared.op.Op.{Op}
use Rattle.journal.specs.declared.op.Op.TheVariants.{Write, Commit, Names}
use Rattle.journal.specs.declared.limits.Limits.{Limits}
use Rattle.journal.specs.Levels.{commits_at_once}
use Rattle.journal.specs.Past.{Judged, joined, own_changes}

-- what an accepted entry behind the past applies: a Write that commits at once its changes, a Commit those of its transaction
abbrev pub effect_of : Limits → List Judged → Op → List Change
effect_of limits past (Write txn changes) = if commits_at_once txn then changes else []
effect_of limits past (Commit t) = own_changes limits past t
effect_of limits past _ = []

-- the changes that the entry behind the past applies; none where it is refused
unfoldable pub applied_changes : Limits → List Judged → Judged → List Change
applied_changes limits past e = if e.accepted then effect_of limits past e.entry.op else []

-- the committed changes: all applied ones, in order
unfoldable pub committed_changes : Limits → List Judged → List Change
committed_changes limits past = joined (applied_changes limits) past

-- the committed content
unfoldable pub committed : Limits → List Judged → List Statement
committed limits past = content (committed_changes limits past)

-- Prefixes, each with the name that it stands for, in the order of texts

abbrev pub is_prefix : List ℕ → List ℕ × List ℕ → Bool
is_prefix a pair = eq_by_cmp text_cmp a pair.0

-- the prefix stands for the name, in its place
abbrev pub with_prefix : List ℕ → List ℕ → List (List ℕ × List ℕ) → List (List ℕ × List ℕ)
with_prefix a b [] = (a, b) ∷ []
with_prefix a b (pair ∷ pairs) =
    elim (text_cmp a pair.0) [ Less ↦ (a, b) ∷ pair ∷ pairs | Equal ↦ (a, b) ∷ pairs | Greater ↦ pair ∷ with_prefix a b pairs ]

abbrev pub prefixes_with : List (List ℕ × List ℕ) → NamesOp → List (List ℕ × List ℕ)
prefixes_with pairs (name.Put a b) = with_prefix a b pairs
prefixes_with pairs (name.Remove a) = filter (λ pair. not (is_prefix a pair)) pairs
prefixes_with pairs name.Clear = []
prefixes_with pairs name.List = pairs
prefixes_with pairs (name.Get a) = pairs

abbrev pub prefixes_behind : List (List ℕ × List ℕ) → Op → List (List ℕ × List ℕ)
prefixes_behind pairs (Names names) = prefixes_with pairs names
prefixes_behind pairs _ = pairs

-- the prefixes: what the accepted Put, Remove and Clear leave of none, one after the other
unfoldable pub prefixes_of : Limits → List Judged → List (List ℕ × List ℕ)
prefixes_of limits past = fold (λ pairs (e : Judged). if e.accepted then prefixes_behind pairs e.entry.op else pairs) [] past
