-- When two asks, ops or entries are equal, as tests that compute.
use Rattle.std.specs.Prelude.{Bool, true, false, ◌&&◌, List, Option, nat_eq}
use Rattle.std.specs.Option.{option_eq}
use Rattle.std.specs.Ordering.{eq_by_cmp}
use Rattle.std.specs.Cmp.Lexicographic.{pointwise}
use Rattle.rdf_term.specs.declared.graph.Graph.{Graph}
use Rattle.rdf_term.specs.declared.term.Term.{Term}
use Rattle.rdf_term.specs.declared.pattern.GraphPick.{GraphPick}
use Rattle.rdf_term.specs.declared.pattern.GraphPick.TheVariants as picks
use Rattle.rdf_term.specs.declared.pattern.Pattern.{Pattern}
use Rattle.rdf_term.specs.TextOrder.{text_cmp}
use Rattle.rdf_term.specs.Order.{graph_cmp, quad_cmp, term_cmp}
use Rattle.change_set.specs.declared.change.Change.{Change}
use Rattle.change_set.specs.declared.change.Change.TheVariants as change
use Rattle.query_model.specs.Equality.{query_eq}
use Rattle.journal.specs.declared.ask.Ask.{Ask}
use Rattle.journal.specs.declared.ask.Ask.TheVariants as ask
use Rattle.journal.specs.declared.txn.Txn.{Txn}
use Rattle.journal.specs.declared.op.NamesOp.{NamesOp}
use Rattle.journal.specs.declared.op.NamesOp.TheVariants as name
use Rattle.journal.specs.declared.op.Op.{Op}
use Rattle.journal.specs.declared.op.Op.TheVariants.{Begin, Read, Step, Write, Commit, Rollback, Ping, Names}
use Rattle.journal.specs.declared.entry.Entry.{Entry}
use Rattle.journal.specs.Levels.{is_level, is_txn}

abbrev pub pick_eq : GraphPick → GraphPick → Bool
pick_eq picks.Any picks.Any = true
pick_eq picks.NamedOnly picks.NamedOnly = true
pick_eq (picks.One g) (picks.One h) = eq_by_cmp graph_cmp g h
pick_eq x y = false

abbrev pub part_eq : Option Term → Option Term → Bool
part_eq = option_eq (eq_by_cmp term_cmp)

abbrev pub pattern_eq : Pattern → Pattern → Bool
pattern_eq x y = part_eq x.s y.s && (part_eq x.p y.p && (part_eq x.o y.o && pick_eq x.c y.c))

abbrev pub change_eq : Change → Change → Bool
change_eq (change.Add q) (change.Add r) = eq_by_cmp quad_cmp q r
change_eq (change.Remove q) (change.Remove r) = eq_by_cmp quad_cmp q r
change_eq (change.RemoveMatching p) (change.RemoveMatching r) = pattern_eq p r
change_eq x y = false

abbrev pub changes_eq : List Change → List Change → Bool
changes_eq = pointwise change_eq

abbrev pub graphs_eq : List Graph → List Graph → Bool
graphs_eq = pointwise (eq_by_cmp graph_cmp)

abbrev pub ask_eq : Ask → Ask → Bool
ask_eq (ask.Query q) (ask.Query r) = query_eq q r
ask_eq (ask.List s p o contexts) (ask.List t q u others) = part_eq s t && (part_eq p q && (part_eq o u && graphs_eq contexts others))
ask_eq (ask.Size contexts) (ask.Size others) = graphs_eq contexts others
ask_eq ask.Contexts ask.Contexts = true
ask_eq x y = false

abbrev pub names_op_eq : NamesOp → NamesOp → Bool
names_op_eq name.List name.List = true
names_op_eq (name.Get a) (name.Get b) = eq_by_cmp text_cmp a b
names_op_eq (name.Put a n) (name.Put b m) = eq_by_cmp text_cmp a b && eq_by_cmp text_cmp n m
names_op_eq (name.Remove a) (name.Remove b) = eq_by_cmp text_cmp a b
names_op_eq name.Clear name.Clear = true
names_op_eq x y = false

abbrev pub live_eq : Option Txn → Option Txn → Bool
live_eq = option_eq is_txn

abbrev pub op_eq : Op → Op → Bool
op_eq (Begin l) (Begin m) = is_level l m
op_eq (Read t a) (Read u b) = live_eq t u && ask_eq a b
op_eq (Step t q n) (Step u r m) = is_txn t u && (query_eq q r && nat_eq n m)
op_eq (Write t c) (Write u d) = live_eq t u && changes_eq c d
op_eq (Commit t) (Commit u) = is_txn t u
op_eq (Rollback t) (Rollback u) = is_txn t u
op_eq (Ping t) (Ping u) = is_txn t u
op_eq (Names a) (Names b) = names_op_eq a b
op_eq x y = false

abbrev pub entry_eq : Entry → Entry → Bool
entry_eq x y = nat_eq x.seat y.seat && op_eq x.op y.op
