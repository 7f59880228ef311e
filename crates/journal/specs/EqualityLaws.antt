-- Each test passes exactly where the two values are equal, so that it is an equivalence.
use Rattle.std.specs.Prelude.{◌≡◌, nat_eq, Bool, true, ◌&&◌, List, Option, Some, None, refl}
use Rattle.std.proofs.Common.{ap, subst}
use Rattle.std.specs.Bool.{Decides}
use Rattle.std.specs.Option.{option_eq}
use Rattle.std.specs.Ordering.{eq_by_cmp}
use Rattle.std.specs.Cmp.{IsEquivalence, decided, first_so, second_so, unsigned_Decides}
use Rattle.std.specs.Cmp.Lexicographic.{pointwise_decides}
use Rattle.rdf_term.specs.declared.graph.Graph.{Graph}
use Rattle.rdf_term.specs.declared.term.Term.{Term}
use Rattle.rdf_term.specs.declared.pattern.GraphPick.{GraphPick}
use Rattle.rdf_term.specs.declared.pattern.GraphPick.TheVariants as picks
use Rattle.rdf_term.specs.declared.pattern.Pattern.{Pattern}
use Rattle.rdf_term.specs.TextOrder.{text_cmp}
use Rattle.rdf_term.specs.Order.{term_cmp}
use Rattle.rdf_term.specs.SameLaws.{graph_same, quad_same, term_same, text_same}
use Rattle.change_set.specs.declared.change.Change.{Change}
use Rattle.change_set.specs.declared.change.Change.TheVariants as change
use Rattle.query_model.specs.Equality.{query_eq}
use Rattle.query_model.specs.EqualityLaws.{query_decides}
use Rattle.journal.specs.declared.ask.Ask.{Ask}
use Rattle.journal.specs.declared.ask.Ask.TheVariants as ask
use Rattle.journal.specs.declared.txn.Txn.{Txn}
use Rattle.journal.specs.declared.op.NamesOp.{NamesOp}
use Rattle.journal.specs.declared.op.NamesOp.TheVariants as name
use Rattle.journal.specs.declared.op.Op.{Op}
use Rattle.journal.specs.declared.op.Op.TheVariants.{Begin, Read, Step, Write, Commit, Rollback, Ping, Names}
use Rattle.journal.specs.declared.entry.Entry.{Entry}
use Rattle.journal.specs.Levels.{is_txn}
use Rattle.journal.specs.LevelLaws.{level_is, level_itself, txn_is, txn_itself}
use Rattle.journal.specs.Equality.{ask_eq, change_eq, changes_eq, entry_eq, graphs_eq, live_eq, names_op_eq, op_eq, part_eq, pattern_eq, pick_eq}

-- a test that only equal values pass, and each with itself
decides : {K : Type 0} (test : K → K → Bool) → ((x y : K) → test x y ≡ true → x ≡ y) → ((x : K) → test x x ≡ true) → (x y : K) → Decides (test x y) (x ≡ y)
decides test same itself x y = (same x y, λ e. subst (λ z. test x z ≡ true) e (itself x))

pick_same : (x y : GraphPick) → pick_eq x y ≡ true → x ≡ y
pick_same picks.Any picks.Any e = refl
pick_same picks.NamedOnly picks.NamedOnly e = refl
pick_same (picks.One g) (picks.One h) e = ap picks.One ((graph_same g h).0 e)
pick_same x y e = cc

pick_itself : (x : GraphPick) → pick_eq x x ≡ true
pick_itself picks.Any = refl
pick_itself picks.NamedOnly = refl
pick_itself (picks.One g) = (graph_same g g).1 refl

-- an option, of a test that decides
module _ {K : Type 0} (test : K → K → Bool) (of_items : (x y : K) → Decides (test x y) (x ≡ y)) where
  option_same : (x y : Option K) → option_eq test x y ≡ true → x ≡ y
  option_same None None e = refl
  option_same None (Some y) e = cc
  option_same (Some x) None e = cc
  option_same (Some x) (Some y) e = ap Some ((of_items x y).0 e)

  option_itself : (x : Option K) → option_eq test x x ≡ true
  option_itself None = refl
  option_itself (Some x) = (of_items x x).1 refl

  option_decides : (x y : Option K) → Decides (option_eq test x y) (x ≡ y)
  option_decides = decides (option_eq test) option_same option_itself

part_decides : (x y : Option Term) → Decides (part_eq x y) (x ≡ y)
part_decides = option_decides (eq_by_cmp term_cmp) term_same

live_decides : (x y : Option Txn) → Decides (live_eq x y) (x ≡ y)
live_decides = option_decides is_txn (decides is_txn txn_is txn_itself)

pattern_same : (x y : Pattern) → pattern_eq x y ≡ true → x ≡ y
pattern_same x y e =
    let a = second_so (part_eq x.s y.s) _ e in
    let b = second_so (part_eq x.p y.p) _ a in
    let s = (part_decides x.s y.s).0 (first_so (part_eq x.s y.s) _ e) in
    let p = (part_decides x.p y.p).0 (first_so (part_eq x.p y.p) _ a) in
    let o = (part_decides x.o y.o).0 (first_so (part_eq x.o y.o) _ b) in
    let c = pick_same x.c y.c (second_so (part_eq x.o y.o) _ b) in
    λ i. record { s = s i; p = p i; o = o i; c = c i }

pattern_itself : (x : Pattern) → pattern_eq x x ≡ true
pattern_itself x = λ i. (part_decides x.s x.s).1 refl i && ((part_decides x.p x.p).1 refl i && ((part_decides x.o x.o).1 refl i && pick_itself x.c i))

change_same : (x y : Change) → change_eq x y ≡ true → x ≡ y
change_same (change.Add q) (change.Add r) e = ap change.Add ((quad_same q r).0 e)
change_same (change.Remove q) (change.Remove r) e = ap change.Remove ((quad_same q r).0 e)
change_same (change.RemoveMatching p) (change.RemoveMatching r) e = ap change.RemoveMatching (pattern_same p r e)
change_same x y e = cc

change_itself : (x : Change) → change_eq x x ≡ true
change_itself (change.Add q) = (quad_same q q).1 refl
change_itself (change.Remove q) = (quad_same q q).1 refl
change_itself (change.RemoveMatching p) = pattern_itself p

changes_decide : (xs ys : List Change) → Decides (changes_eq xs ys) (xs ≡ ys)
changes_decide = pointwise_decides (decides change_eq change_same change_itself)

graphs_decide : (xs ys : List Graph) → Decides (graphs_eq xs ys) (xs ≡ ys)
graphs_decide = pointwise_decides graph_same

ask_same : (x y : Ask) → ask_eq x y ≡ true → x ≡ y
ask_same (ask.Query q) (ask.Query r) e = ap ask.Query ((query_decides q r).0 e)
ask_same (ask.List s p o contexts) (ask.List t q u others) e =
    let a = second_so (part_eq s t) _ e in
    let b = second_so (part_eq p q) _ a in
    let subject = (part_decides s t).0 (first_so (part_eq s t) _ e) in
    let predicate = (part_decides p q).0 (first_so (part_eq p q) _ a) in
    let object = (part_decides o u).0 (first_so (part_eq o u) _ b) in
    let graphs = (graphs_decide contexts others).0 (second_so (part_eq o u) _ b) in
    λ i. ask.List (subject i) (predicate i) (object i) (graphs i)
ask_same (ask.Size contexts) (ask.Size others) e = ap ask.Size ((graphs_decide contexts others).0 e)
ask_same ask.Contexts ask.Contexts e = refl
ask_same x y e = cc

ask_itself : (x : Ask) → ask_eq x x ≡ true
ask_itself (ask.Query q) = (query_decides q q).1 refl
ask_itself (ask.List s p o contexts) =
    λ i. (part_decides s s).1 refl i && ((part_decides p p).1 refl i && ((part_decides o o).1 refl i && (graphs_decide contexts contexts).1 refl i))
ask_itself (ask.Size contexts) = (graphs_decide contexts contexts).1 refl
ask_itself ask.Contexts = refl

pub ask_decides : (x y : Ask) → Decides (ask_eq x y) (x ≡ y)
ask_decides = decides ask_eq ask_same ask_itself

names_op_same : (x y : NamesOp) → names_op_eq x y ≡ true → x ≡ y
names_op_same name.List name.List e = refl
names_op_same (name.Get a) (name.Get b) e = ap name.Get ((text_same a b).0 e)
names_op_same (name.Put a n) (name.Put b m) e =
    let prefix = (text_same a b).0 (first_so (eq_by_cmp text_cmp a b) _ e) in
    let text = (text_same n m).0 (second_so (eq_by_cmp text_cmp a b) _ e) in
    λ i. name.Put (prefix i) (text i)
names_op_same (name.Remove a) (name.Remove b) e = ap name.Remove ((text_same a b).0 e)
names_op_same name.Clear name.Clear e = refl
names_op_same x y e = cc

names_op_itself : (x : NamesOp) → names_op_eq x x ≡ true
names_op_itself name.List = refl
names_op_itself (name.Get a) = (text_same a a).1 refl
names_op_itself (name.Put a n) = λ i. (text_same a a).1 refl i && (text_same n n).1 refl i
names_op_itself (name.Remove a) = (text_same a a).1 refl
names_op_itself name.Clear = refl

pub names_op_decides : (x y : NamesOp) → Decides (names_op_eq x y) (x ≡ y)
names_op_decides = decides names_op_eq names_op_same names_op_itself

op_same : (x y : Op) → op_eq x y ≡ true → x ≡ y
op_same (Begin l) (Begin m) e = ap Begin (level_is l m e)
op_same (Read t a) (Read u b) e =
    let txn = (live_decides t u).0 (first_so (live_eq t u) _ e) in
    let asked = ask_same a b (second_so (live_eq t u) _ e) in
    λ i. Read (txn i) (asked i)
op_same (Step t q n) (Step u r m) e =
    let a = second_so (is_txn t u) _ e in
    let txn = txn_is t u (first_so (is_txn t u) _ e) in
    let query = (query_decides q r).0 (first_so (query_eq q r) _ a) in
    let number = (unsigned_Decides n m).0 (second_so (query_eq q r) _ a) in
    λ i. Step (txn i) (query i) (number i)
op_same (Write t c) (Write u d) e =
    let txn = (live_decides t u).0 (first_so (live_eq t u) _ e) in
    let changes = (changes_decide c d).0 (second_so (live_eq t u) _ e) in
    λ i. Write (txn i) (changes i)
op_same (Commit t) (Commit u) e = ap Commit (txn_is t u e)
op_same (Rollback t) (Rollback u) e = ap Rollback (txn_is t u e)
op_same (Ping t) (Ping u) e = ap Ping (txn_is t u e)
op_same (Names a) (Names b) e = ap Names (names_op_same a b e)
op_same x y e = cc

op_itself : (x : Op) → op_eq x x ≡ true
op_itself (Begin l) = level_itself l
op_itself (Read t a) = λ i. (live_decides t t).1 refl i && ask_itself a i
op_itself (Step t q n) = λ i. txn_itself t i && ((query_decides q q).1 refl i && (unsigned_Decides n n).1 refl i)
op_itself (Write t c) = λ i. (live_decides t t).1 refl i && (changes_decide c c).1 refl i
op_itself (Commit t) = txn_itself t
op_itself (Rollback t) = txn_itself t
op_itself (Ping t) = txn_itself t
op_itself (Names a) = names_op_itself a

pub op_decides : (x y : Op) → Decides (op_eq x y) (x ≡ y)
op_decides = decides op_eq op_same op_itself

entry_same : (x y : Entry) → entry_eq x y ≡ true → x ≡ y
entry_same x y e =
    let seat = (unsigned_Decides x.seat y.seat).0 (first_so (nat_eq x.seat y.seat) _ e) in
    let op = op_same x.op y.op (second_so (nat_eq x.seat y.seat) _ e) in
    λ i. record { seat = seat i; op = op i }

entry_itself : (x : Entry) → entry_eq x x ≡ true
entry_itself x = λ i. (unsigned_Decides x.seat x.seat).1 refl i && op_itself x.op i

pub entry_decides : (x y : Entry) → Decides (entry_eq x y) (x ≡ y)
entry_decides = decides entry_eq entry_same entry_itself

-- the equivalences

pub ask_equiv : IsEquivalence ask_eq
ask_equiv = decided ask_eq ask_decides

pub names_op_equiv : IsEquivalence names_op_eq
names_op_equiv = decided names_op_eq names_op_decides

pub op_equiv : IsEquivalence op_eq
op_equiv = decided op_eq op_decides

pub entry_equiv : IsEquivalence entry_eq
entry_equiv = decided entry_eq entry_decides
