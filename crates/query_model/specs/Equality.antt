-- When two values are equal, as tests that compute.
use Rattle.std.specs.Prelude.{ℕ, ◌==◌, nat_eq, Bool, true, false, ◌&&◌, List, Option}
use Rattle.std.specs.Bool.{beq}
use Rattle.std.specs.Option.{option_eq}
use Rattle.std.specs.Ordering.{eq_by_cmp}
use Rattle.std.specs.Cmp.Lexicographic.{pointwise}
use Rattle.rdf_term.specs.declared.term.Term.{Term}
use Rattle.rdf_term.specs.TextOrder.{text_cmp}
use Rattle.rdf_term.specs.Order.{quad_cmp, term_cmp}
use Rattle.query_model.specs.declared.query.Slot.{Slot}
use Rattle.query_model.specs.declared.query.Slot.TheVariants as slot
use Rattle.query_model.specs.declared.query.Scope.{Scope}
use Rattle.query_model.specs.declared.query.Scope.TheVariants as scope
use Rattle.query_model.specs.declared.query.TriplePattern.{TriplePattern}
use Rattle.query_model.specs.declared.query.Cut.{Cut}
use Rattle.query_model.specs.declared.query.Query.{Query}
use Rattle.query_model.specs.declared.query.Query.TheVariants as query
use Rattle.query_model.specs.declared.table.Table.{Table}
use Rattle.query_model.specs.declared.found.Found.{Found}
use Rattle.query_model.specs.declared.found.Found.TheVariants as answer

abbrev pub slot_eq : Slot → Slot → Bool
slot_eq (slot.Var x) (slot.Var y) = eq_by_cmp text_cmp x y
slot_eq (slot.Var x) (slot.Blank y) = false
slot_eq (slot.Var x) (slot.Fixed y) = false
slot_eq (slot.Blank x) (slot.Var y) = false
slot_eq (slot.Blank x) (slot.Blank y) = eq_by_cmp text_cmp x y
slot_eq (slot.Blank x) (slot.Fixed y) = false
slot_eq (slot.Fixed x) (slot.Var y) = false
slot_eq (slot.Fixed x) (slot.Blank y) = false
slot_eq (slot.Fixed x) (slot.Fixed y) = eq_by_cmp term_cmp x y

abbrev pub scope_eq : Scope → Scope → Bool
scope_eq scope.Any scope.Any = true
scope_eq scope.Any (scope.Graph y) = false
scope_eq (scope.Graph x) scope.Any = false
scope_eq (scope.Graph x) (scope.Graph y) = slot_eq x y

abbrev pub pattern_eq : TriplePattern → TriplePattern → Bool
pattern_eq x y = slot_eq x.s y.s && (slot_eq x.p y.p && (slot_eq x.o y.o && scope_eq x.g y.g))

abbrev pub patterns_eq : List TriplePattern → List TriplePattern → Bool
patterns_eq = pointwise pattern_eq

abbrev pub cut_eq : Cut → Cut → Bool
cut_eq x y = option_eq nat_eq x.limit y.limit && x.offset == y.offset

abbrev pub names_eq : List (List ℕ) → List (List ℕ) → Bool
names_eq = pointwise (eq_by_cmp text_cmp)

abbrev pub query_eq : Query → Query → Bool
query_eq (query.Select d v g c) (query.Select e w h k) = beq d e && (names_eq v w && (patterns_eq g h && cut_eq c k))
query_eq (query.Select d v g c) (query.Ask h) = false
query_eq (query.Select d v g c) (query.Construct t h k) = false
query_eq (query.Ask g) (query.Select e w h k) = false
query_eq (query.Ask g) (query.Ask h) = patterns_eq g h
query_eq (query.Ask g) (query.Construct t h k) = false
query_eq (query.Construct t g c) (query.Select e w h k) = false
query_eq (query.Construct t g c) (query.Ask h) = false
query_eq (query.Construct t g c) (query.Construct u h k) = patterns_eq t u && (patterns_eq g h && cut_eq c k)

abbrev pub rows_eq : List (List (Option Term)) → List (List (Option Term)) → Bool
rows_eq = pointwise (pointwise (option_eq (eq_by_cmp term_cmp)))

abbrev pub table_eq : Table → Table → Bool
table_eq x y = names_eq x.vars y.vars && rows_eq x.rows y.rows

abbrev pub found_eq : Found → Found → Bool
found_eq (answer.Table x) (answer.Table y) = table_eq x y
found_eq (answer.Table x) (answer.Truth y) = false
found_eq (answer.Table x) (answer.Quads y) = false
found_eq (answer.Truth x) (answer.Table y) = false
found_eq (answer.Truth x) (answer.Truth y) = beq x y
found_eq (answer.Truth x) (answer.Quads y) = false
found_eq (answer.Quads x) (answer.Table y) = false
found_eq (answer.Quads x) (answer.Truth y) = false
found_eq (answer.Quads x) (answer.Quads y) = pointwise (eq_by_cmp quad_cmp) x y
