-- The ways in which steps go on from a row, depth first.
use Rattle.std.specs.Prelude.{ℕ, Bool, true, false, ◌&&◌, List, [], ◌∷◌, Option, Some, None, if◌then◌else◌, not, map, filter, slice_get, slice_set}
use Rattle.std.specs.List.{flat_map}
use Rattle.std.specs.Option.{option_and_then}
use Rattle.std.specs.Ordering.{eq_by_cmp}
use Rattle.rdf_term.specs.declared.term.Term.{Term}
use Rattle.rdf_term.specs.declared.graph.Graph.{Graph}
use Rattle.rdf_term.specs.declared.graph.Graph.TheVariants.{Absent, Named}
use Rattle.rdf_term.specs.Statement.{Statement}
use Rattle.rdf_term.specs.Order.{term_cmp}
use Rattle.rdf_term.specs.Matching.{matches}
use Rattle.rdf_term.specs.Sets.{in_order}
use Rattle.bgp_eval.specs.declared.part.Part.{Part}
use Rattle.bgp_eval.specs.declared.part.Part.TheVariants.{Given, Unknown, Unbound}
use Rattle.bgp_eval.specs.declared.step.Reach.{Reach}
use Rattle.bgp_eval.specs.declared.step.Reach.TheVariants.{Anywhere, In}
use Rattle.bgp_eval.specs.declared.step.Step.{Step}
use Rattle.bgp_eval.specs.Parts.{part_value}
use Rattle.bgp_eval.specs.Steps.{pattern_of, quads_of}

-- a row, where the test is passed
abbrev pub kept_if : Bool → List (Option Term) → Option (List (Option Term))
kept_if b row = if b then Some row else None

-- a row with a term at a place: an unbound place is bound, a bound one has to hold the term
abbrev pub bound_at : List (Option Term) → ℕ → Term → Option (Option Term) → Option (List (Option Term))
bound_at row n t None = None
bound_at row n t (Some None) = Some (slice_set row n (Some t))
bound_at row n t (Some (Some u)) = kept_if (eq_by_cmp term_cmp u t) row

-- a row in which a part has this value
abbrev pub bound : Part → Term → List (Option Term) → Option (List (Option Term))
bound (Given u) t row = kept_if (eq_by_cmp term_cmp u t) row
bound (Unknown n) t row = bound_at row n t (slice_get row n)
bound Unbound t row = None

abbrev pub reached : Reach → Graph → List (Option Term) → Option (List (Option Term))
reached Anywhere c row = Some row
reached (In part) Absent row = None
reached (In part) (Named t) row = bound part t row

-- the row that a quad makes of one, where it fits the step
unfoldable pub extended : List (Option Term) → Step → Statement → Option (List (Option Term))
extended row step q =
    option_and_then (reached step.reach q.c) (option_and_then (bound step.o q.o) (option_and_then (bound step.p q.p) (bound step.s q.s row)))

-- whether two quads are one triple
abbrev pub is_one_triple : Statement → Statement → Bool
is_one_triple q r = eq_by_cmp term_cmp q.s r.s && (eq_by_cmp term_cmp q.p r.p && eq_by_cmp term_cmp q.o r.o)

-- whether the next one is the same triple in another graph
abbrev pub is_repeated : Statement → List Statement → Bool
is_repeated q [] = false
is_repeated q (r ∷ rs) = is_one_triple q r

-- outside GRAPH a triple counts once, in however many graphs it stands: in the last of them
abbrev pub counts : Reach → Statement → List Statement → Bool
counts Anywhere q behind = not (is_repeated q behind)
counts (In part) q behind = true

-- the row that a quad makes of one, with these quads behind it
abbrev pub next_row : List (Option Term) → Step → Statement → List Statement → Option (List (Option Term))
next_row row step q behind = if counts step.reach q behind then extended row step q else None

-- a row in front of others, where there is one
abbrev pub in_front : Option (List (Option Term)) → List (List (Option Term)) → List (List (Option Term))
in_front None rows = rows
in_front (Some row) rows = row ∷ rows

-- the rows that quads make of one
abbrev pub next_rows : List (Option Term) → Step → List Statement → List (List (Option Term))
next_rows row step [] = []
next_rows row step (q ∷ qs) = in_front (next_row row step q qs) (next_rows row step qs)

-- the quads that match what a row makes of a step, in order, each once
abbrev pub candidates : List (List Statement) → Step → List (Option Term) → List Statement
candidates views step row = in_order (filter (matches (pattern_of row step)) (quads_of views step))

-- the rows that one step makes of a row
abbrev pub extensions : List (List Statement) → Step → List (Option Term) → List (List (Option Term))
extensions views step row = next_rows row step (candidates views step row)

-- the rows that all steps make of a row, one after the other
abbrev pub ways : List (List Statement) → List Step → List (Option Term) → List (List (Option Term))
ways views [] row = row ∷ []
ways views (step ∷ steps) row = flat_map (ways views steps) (extensions views step row)

-- the columns of a row
abbrev pub columns : List Part → List (Option Term) → List (Option Term)
columns parts row = map (part_value row) parts
