-- The calls of a script are spellable.
use Rattle.std.proofs.Common.{◌≡◌, ◌≤◌, ◌<◌, ◌&&◌, ◌||◌, ◌==◌, ◌⊎◌, ℕ, List, [], ◌∷◌, Bool, true, false, All, Option, Some, None, refl, subst, inl, inr, arith, length}
use lib.Utf8.{scalar, low_scalar}
use Rattle.std.specs.Prelude.{nat_le}
use Rattle.std.specs.Char.{is_ascii_alphanumeric}
use Rattle.std.specs.Int.{is_in_range}
use Rattle.std.specs.List.{list_all}
use Rattle.std.specs.Str.{all_scalars}
use Rattle.std.proofs.lemmas.Bool.{eqb-true, leb-true}
use Rattle.std.proofs.lemmas.List.Elements.{All-cons, All-nil}
use Rattle.rdf_term.specs.declared.graph.Graph.{Graph}
use Rattle.rdf_term.specs.EachOnce.{EachOnce}
use Rattle.rdf_term.specs.Statement.{Statement}
use Rattle.nquads.specs.Written.{IsWritable}
use Rattle.query_model.specs.declared.query.Query.{Query as AQuery}
use Rattle.query_model.specs.declared.query.Query.TheVariants as query
use Rattle.change_set.specs.declared.change.Change.TheVariants.{Add}
use Rattle.journal.specs.declared.txn.Txn.{Txn}
use Rattle.journal.specs.declared.ask.Ask.TheVariants as asks
use Rattle.journal.specs.declared.op.NamesOp.TheVariants as names
use Rattle.journal.specs.declared.op.Op.{Op}
use Rattle.journal.specs.declared.op.Op.TheVariants as ops
use Rattle.media.specs.declared.form.Form.{Form}
use Rattle.media.specs.declared.form.Form.TheVariants.{NQuads, ResultsJson, PlainText}
use Rattle.api_calls.specs.declared.call.Call.{Call}
use Rattle.api_calls.specs.declared.call.Call.TheVariants.{On}
use Rattle.api_requests.specs.Spellable.{AreContextGraphs, IsAmong, IsContextGraph, IsNamedOrNone, IsSpellable, IsText, IsWriting}
use Rattle.repo_api.specs.Queries.{forms_of}
use Rattle.api_replies.specs.Ids.{is_id, is_id_char}
use Rattle.client_script.specs.declared.action.Action.TheVariants.{Send}
use Rattle.client_script.specs.declared.command.Command.{Command}
use Rattle.client_script.specs.declared.command.Command.TheVariants as command
use Rattle.client_script.specs.Actions.{form_of, next_call, removal}
use Rattle.client_script.specs.Lines.{IsValidCommand}

-- no two places in a list of at most one item
once_at_most : {X : Type 0} (xs : List X) → length xs ≤ 1 → EachOnce xs
once_at_most xs few i j d l h e = absurd (omega arith)

no_graphs : AreContextGraphs []
no_graphs = record { each = All-nil IsContextGraph; once = once_at_most [] (omega arith) }

one_graph : (g : Graph) → IsContextGraph g → AreContextGraphs (g ∷ [])
one_graph g h = record { each = All-cons IsContextGraph g [] h (All-nil IsContextGraph); once = once_at_most (g ∷ []) (omega arith) }

one_writable : (q : Statement) → IsWritable q → All IsWritable (q ∷ [])
one_writable q w = All-cons IsWritable q [] w (All-nil IsWritable)

adding : (txn : Option Txn) (q : Statement) → IsWritable q → IsWriting txn (Add q ∷ [])
adding None q w = inl (record { quads = q ∷ []; writable = one_writable q w; are = refl })
adding (Some t) q w = inl (record { quads = q ∷ []; writable = one_writable q w; are = refl })

removing : (txn : Option Txn) (q : Statement) → IsWritable q → IsWriting txn (removal txn q ∷ [])
removing None q w = inr (inr (record {
  it = record { s = Some q.s; p = Some q.p; o = Some q.o; contexts = q.c ∷ [] };
  selectable = record {
    s = (w.1.0, w.0.subject);
    p = (w.1.1, w.0.predicate);
    o = (w.1.2, tt);
    contexts = one_graph q.c (w.1.3, w.0.graph);
  };
  are = refl;
}))
removing (Some t) q w = inr (record { quads = q ∷ []; writable = one_writable q w; are = refl })

offered : (q : AQuery) → IsAmong (forms_of q) (form_of q)
offered (query.Select distinct vars group cut) = inl refl
offered (query.Ask group) = inl refl
offered (query.Construct template group cut) = inl refl

sent : (repo : List ℕ) (op : Op) (form : Form) (call : Call) → IsSpellable (On repo op form) → Send (On repo op form) ≡ Send call → IsSpellable call
sent repo op form call s e = let same : On repo op form ≡ call = cc in subst IsSpellable same s

-- the call of a command on a repository, whose transaction has a place that names have
pub spellable : (repo : List ℕ) (txn : Option Txn) (c : Command) (call : Call) → IsText repo → IsNamedOrNone txn → IsValidCommand c
    → next_call repo txn c ≡ Send call → IsSpellable call
spellable repo txn command.Nothing call r n v e = cc
spellable repo None (command.Begin level) call r n v e = sent repo (ops.Begin level) PlainText call (r, refl) e
spellable repo (Some t) (command.Begin level) call r n v e = cc
spellable repo txn (command.Add q) call r n v e = sent repo (ops.Write txn (Add q ∷ [])) PlainText call (r, (n, adding txn q v, refl)) e
spellable repo txn (command.Remove q) call r n v e = sent repo (ops.Write txn (removal txn q ∷ [])) PlainText call (r, (n, removing txn q v, refl)) e
spellable repo txn (command.Query q) call r n v e = sent repo (ops.Read txn (asks.Query q)) (form_of q) call (r, (n, (v, offered q))) e
spellable repo txn command.List call r n v e =
    sent repo (ops.Read txn (asks.List None None None [])) NQuads call (r, (n, (record { s = tt; p = tt; o = tt; contexts = no_graphs }, inl refl))) e
spellable repo txn command.Size call r n v e = sent repo (ops.Read txn (asks.Size [])) PlainText call (r, (n, (no_graphs, refl))) e
spellable repo txn command.Contexts call r n v e = sent repo (ops.Read None asks.Contexts) ResultsJson call (r, (tt, inl refl)) e
spellable repo txn command.Namespaces call r n v e = sent repo (ops.Names names.List) ResultsJson call (r, inl refl) e
spellable repo txn (command.Prefix p iri) call r n v e =
    sent repo (ops.Names (names.Put p iri)) PlainText call (r, ((v.0, v.1), v.2, refl)) e
spellable repo None command.Ping call r n v e = cc
spellable repo (Some t) command.Ping call r n v e = sent repo (ops.Ping t) PlainText call (r, (n, refl)) e
spellable repo None command.Commit call r n v e = cc
spellable repo (Some t) command.Commit call r n v e = sent repo (ops.Commit t) PlainText call (r, (n, refl)) e
spellable repo None command.Rollback call r n v e = cc
spellable repo (Some t) command.Rollback call r n v e = sent repo (ops.Rollback t) PlainText call (r, (n, refl)) e
spellable repo txn command.Quit call r n v e = cc

-- An ID is a text

either : (a b : Bool) → (a || b) ≡ true → (a ≡ true) ⊎ (b ≡ true)
either true b e = inl refl
either false b e = inr e

two : (a b : Bool) → (a && b) ≡ true → (a ≡ true) × (b ≡ true)
two true b e = (refl, e)
two false b e = cc

below : (low high c : ℕ) → is_in_range low high c ≡ true → c ≤ high
below low high c e = leb-true c high (two (nat_le low c) (nat_le c high) e).1

alphanumeric_low : (c : ℕ) → is_ascii_alphanumeric c ≡ true → c < 55296
alphanumeric_low c e =
    elim (either (is_in_range 48 57 c || is_in_range 65 90 c) (is_in_range 97 122 c) e) [
      | inl first ↦ elim (either (is_in_range 48 57 c) (is_in_range 65 90 c) first) [
        | inl digit ↦ let small = below 48 57 c digit in omega arith
        | inr upper ↦ let small = below 65 90 c upper in omega arith
      ]
      | inr lower ↦ let small = below 97 122 c lower in omega arith
    ]

id_char_low : (c : ℕ) → is_id_char c ≡ true → c < 55296
id_char_low c e =
    elim (either (is_ascii_alphanumeric c || c == 95) (c == 45) e) [
      | inl first ↦ elim (either (is_ascii_alphanumeric c) (c == 95) first) [
        | inl letter ↦ alphanumeric_low c letter
        | inr line ↦ let same = eqb-true c 95 line in omega arith
      ]
      | inr hyphen ↦ let same = eqb-true c 45 hyphen in omega arith
    ]

join : (a b : Bool) → a ≡ true → b ≡ true → (a && b) ≡ true
join true b e h = h
join false b e h = cc

id_chars_text : (cs : List ℕ) → list_all is_id_char cs ≡ true → all_scalars cs ≡ true
id_chars_text [] e = refl
id_chars_text (c ∷ cs) e =
    let parts = two (is_id_char c) (list_all is_id_char cs) e in
    join (scalar c) (all_scalars cs) (low_scalar c (id_char_low c parts.0)) (id_chars_text cs parts.1)

pub id_text : (repo : List ℕ) → is_id repo ≡ true → all_scalars repo ≡ true
id_text [] e = cc
id_text (c ∷ cs) e =
    let front = two (is_ascii_alphanumeric c && nat_le (length cs) 63) (list_all is_id_char cs) e in
    join (scalar c) (all_scalars cs) (low_scalar c (alphanumeric_low c (two (is_ascii_alphanumeric c) (nat_le (length cs) 63) front.0).0))
    (id_chars_text cs front.1)
