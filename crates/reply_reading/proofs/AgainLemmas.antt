-- What is written of a reply is read as that reply.
use Rattle.std.proofs.Common.{◌≡◌, ℕ, zero, suc, ◌<◌, ◌≤◌, ◌^◌, inl, inr, List, [], ◌∷◌, length, Bool, true, false, Option, Some, None, refl, sym, ap, subst, ◌∙◌, arith, encode_utf8_all, if◌then◌else◌}
use Rattle.std.specs.Prelude.{IsTrue, Ok, slice_index_or}
use Rattle.std.specs.List.{All, AllByRecursion, list_all}
use Rattle.std.specs.Option.{IfSome}
use Rattle.std.specs.Str.{all_scalars, chars, IsUtf8}
use Rattle.std.proofs.lemmas.List.Elements.{All-from_recursion, All-map, All-weaker}
use Rattle.std.proofs.lemmas.Str.{chars-encodes, is_utf8-from_IsUtf8}
use Rattle.rdf_term.specs.declared.term.Term.{Term}
use Rattle.rdf_term.specs.declared.term.Term.TheVariants.{Plain}
use Rattle.rdf_term.specs.Statement.{Statement}
use Rattle.rdf_term.specs.EachOnce.{EachOnce}
use Rattle.rdf_term.specs.Validity.{IsValidTerm}
use Rattle.nquads_line.specs.declared.kind.Kind.{Kind}
use Rattle.nquads_line.specs.declared.kind.Kind.TheVariants.{Triples, Quads as AsQuads}
use Rattle.nquads.specs.Documents.{IsDocument}
use Rattle.nquads.specs.Laws.{DocumentsReadAgain}
use Rattle.nquads.specs.Written.{document_text, read_again, IsWritable}
use Rattle.query_model.specs.declared.query.Query.{Query}
use Rattle.query_model.specs.declared.query.Query.TheVariants as query
use Rattle.query_model.specs.declared.table.Table.{Table}
use Rattle.query_model.specs.WellFormed.{IsVarName, IsWellFormed, is_var_name}
use Rattle.results_json.specs.Laws.{IsRightRow, IsRightTable, TablesReadAgain, TruthsReadAgain}
use Rattle.results_json.specs.Reading.{IsTable}
use Rattle.results_json.specs.Tables.{table_text}
use Rattle.journal.specs.declared.txn.Txn.{Txn}
use Rattle.journal.specs.declared.ask.Ask.{Ask}
use Rattle.journal.specs.declared.ask.Ask.TheVariants as ask
use Rattle.journal.specs.declared.op.NamesOp.{NamesOp}
use Rattle.journal.specs.declared.op.NamesOp.TheVariants as name
use Rattle.journal.specs.declared.op.Op.{Op}
use Rattle.journal.specs.declared.op.Op.TheVariants as op
use Rattle.journal.specs.declared.reply.Reply.{Reply}
use Rattle.journal.specs.declared.reply.Reply.TheVariants as reply
use Rattle.media.specs.declared.form.Form.{Form}
use Rattle.media.specs.declared.form.Form.TheVariants as form
use Rattle.api_calls.specs.declared.call.Call.{Call}
use Rattle.api_calls.specs.declared.call.Call.TheVariants.{Protocol, Repositories, On}
use Rattle.api_paths.specs.Targets.{text_of}
use Rattle.api_paths.specs.TransactionNames.{most_place}
use Rattle.api_replies.specs.Fits.{Fits, FitsAsk, FitsLive, FitsNames, FitsOp, FitsQuery}
use Rattle.api_replies.specs.Parts.{created, kind_of}
use Rattle.api_replies.specs.Responses.{reply_response, response}
use Rattle.api_replies.specs.Tables.{context_names, context_row, contexts_table, namespace_names, namespace_row, namespaces_table}
use Rattle.reply_reading.specs.declared.got.Got.TheVariants as got
use Rattle.reply_reading.specs.declared.manner.Manner.{Manner}
use Rattle.reply_reading.specs.declared.manner.Manner.TheVariants.{Nothing}
use Rattle.reply_reading.specs.Laws.{IsAsked, IsValidReply, NamesGraphs, RepliesReadAgain, as_read}
use Rattle.reply_reading.specs.Locations.{Locates}
use Rattle.reply_reading.specs.Manners.{ask_manner, names_manner, op_manner, query_manner, truth_manner}
use Rattle.reply_reading.specs.Readings.{IsReading, IsReplyBy, is_success}
use Rattle.reply_reading.proofs.CountLemmas.{both, count_again, joined}
use Rattle.reply_reading.proofs.LocationLemmas.{path_name}

-- a status that isn't one of success
refused_not : false ≡ true → ⊥
refused_not e = cc

-- what the writers of bodies promise
pub record Writers : Type 0 where
  pub documents : DocumentsReadAgain
  pub tables : TablesReadAgain
  pub truths : TruthsReadAgain

-- Bodies

truth_again : Writers → (repo : List ℕ) (o : Op) (f : Form) (b : Bool)
    → IsReplyBy (truth_manner f) (reply_response repo o f (reply.Truth b)) (reply.Truth b)
truth_again writers repo o form.Boolean b = refl
truth_again writers repo o form.NQuads b = writers.truths b
truth_again writers repo o form.XNQuads b = writers.truths b
truth_again writers repo o form.NTriples b = writers.truths b
truth_again writers repo o form.PlainTriples b = writers.truths b
truth_again writers repo o form.ResultsJson b = writers.truths b
truth_again writers repo o form.Json b = writers.truths b
truth_again writers repo o form.PlainText b = writers.truths b

text_again : (name : List ℕ) → all_scalars name ≡ true → text_of (encode_utf8_all name) ≡ Some name
text_again name h =
    let is : IsUtf8 (encode_utf8_all name) = (name, (h, refl)) in
    ap (λ (test : Bool). if test then Some (chars (encode_utf8_all name)) else None) (is_utf8-from_IsUtf8 (encode_utf8_all name) is)
    ∙ ap Some (chars-encodes name h)

-- Tables

context_names_once : EachOnce context_names
context_names_once = λ i j d h k e. absurd (omega arith)

names_differ : (i j : ℕ) (d : List ℕ) → i < j → j < 2 → slice_index_or namespace_names i d ≡ slice_index_or namespace_names j d → ⊥
names_differ zero zero d h k e = absurd (omega arith)
names_differ zero (suc zero) d h k e = let first : ◌≡◌ {A = ℕ} 112 110 = cc in absurd (omega arith)
names_differ zero (suc (suc j)) d h k e = absurd (omega arith)
names_differ (suc i) j d h k e = absurd (omega arith)

namespace_names_once : EachOnce namespace_names
namespace_names_once = names_differ

context_is_right : (t : Term) → IsValidTerm t → IsRightRow context_names (context_row t)
context_is_right t h = (refl, All-from_recursion (λ cell. IfSome cell IsValidTerm) (context_row t) (h, tt))

pair_is_right : (pair : List ℕ × List ℕ) → IsValidTerm (Plain pair.0) × IsValidTerm (Plain pair.1) → IsRightRow namespace_names (namespace_row pair)
pair_is_right pair h = (refl, All-from_recursion (λ cell. IfSome cell IsValidTerm) (namespace_row pair) (h.0, (h.1, tt)))

scalars_of : (vars : List (List ℕ)) → AllByRecursion IsVarName vars → list_all all_scalars vars ≡ true
scalars_of [] h = refl
scalars_of (v ∷ vs) h = joined (all_scalars v) (list_all all_scalars vs) (both (all_scalars v) (is_var_name v) h.0).0 (scalars_of vs h.1)

-- a table of valid terms, with a place for each of distinct variables in each row
table_is_right : (vars : List (List ℕ)) (table : Table) → AllByRecursion IsVarName vars → EachOnce vars → table.vars ≡ vars
    → All (λ row. length row ≡ length vars) table.rows → All (λ row. All (λ cell. IfSome cell IsValidTerm) row) table.rows → IsRightTable table
table_is_right vars table each once is long valid = (
  subst EachOnce (sym is) once,
  ap (list_all all_scalars) is ∙ scalars_of vars each,
  λ k d h. (long k d h ∙ ap length (sym is), valid k d h),
)

contexts_again : Writers → (names : List Term) → All IsValidTerm names → IsTable (table_text (contexts_table names)) (contexts_table names)
contexts_again writers names valid =
    writers.tables (contexts_table names) (
      context_names_once,
      refl,
      All-map (IsRightRow context_names) context_row names (All-weaker IsValidTerm (λ t. IsRightRow context_names (context_row t)) context_is_right names valid),
    )

prefixes_again : Writers → (pairs : List (List ℕ × List ℕ)) → All (λ pair. IsValidTerm (Plain pair.0) × IsValidTerm (Plain pair.1)) pairs
    → IsTable (table_text (namespaces_table pairs)) (namespaces_table pairs)
prefixes_again writers pairs valid =
    writers.tables (namespaces_table pairs) (
      namespace_names_once,
      refl,
      All-map (IsRightRow namespace_names) namespace_row pairs
          (All-weaker (λ pair. IsValidTerm (Plain pair.0) × IsValidTerm (Plain pair.1)) (λ pair. IsRightRow namespace_names (namespace_row pair)) pair_is_right pairs valid),
    )

-- The transaction that was begun

begun_again : (repo : List ℕ) (t : Txn) → t.place < 2 ^ 62 → Locates (created repo t).fields t
begun_again repo t h = let few : t.place ≤ most_place = omega arith in (path_name repo t few, few)

-- Calls: a reply that fits, is right, and grants what was asked

abbrev Again : Manner → List ℕ → Op → Form → Reply → Type 0
Again m repo o f r = IsValidReply r → IsTrue (is_success (reply_response repo o f r).status) → IsReplyBy m (reply_response repo o f r) (as_read (On repo o f) r)

query_again : Writers → (repo : List ℕ) (o : Op) (f : Form) (q : Query) (r : Reply) → IsWellFormed q → FitsQuery q r → Again (query_manner q f) repo o f r
query_again writers repo o f (query.Select distinct vars group cut) (reply.Table table) formed fit valid granted =
    writers.tables table (table_is_right vars table formed.0.each formed.0.once fit.0 fit.1 valid)
query_again writers repo o f (query.Select distinct vars group cut) reply.TooManyRows formed fit valid granted = absurd (refused_not granted)
query_again writers repo o f (query.Ask group) (reply.Truth b) formed fit valid granted = truth_again writers repo o f b
query_again writers repo o f (query.Construct template group cut) (reply.Quads quads) formed fit valid granted = writers.documents (kind_of f) quads valid
query_again writers repo o f (query.Construct template group cut) reply.TooManyRows formed fit valid granted = absurd (refused_not granted)
query_again writers repo o f _ _ formed fit valid granted = absurd fit

ask_again : Writers → (repo : List ℕ) (txn : Option Txn) (f : Form) (a : Ask) (r : Reply) → IsAsked (On repo (op.Read txn a) f) → FitsAsk a r
    → Again (ask_manner a f) repo (op.Read txn a) f r
ask_again writers repo txn f (ask.Query q) r asked fit valid granted = query_again writers repo (op.Read txn (ask.Query q)) f q r asked fit valid granted
ask_again writers repo txn f (ask.List s p ob contexts) (reply.Quads quads) asked fit valid granted = writers.documents (kind_of f) quads valid
ask_again writers repo txn f (ask.Size contexts) (reply.Count count) asked fit valid granted = count_again count valid
ask_again writers repo txn f ask.Contexts (reply.Contexts names) asked fit valid granted = contexts_again writers names valid
ask_again writers repo txn f _ _ asked fit valid granted = absurd fit

names_again : Writers → (repo : List ℕ) (o : Op) (f : Form) (n : NamesOp) (r : Reply) → FitsNames n r → Again (names_manner n) repo o f r
names_again writers repo o f name.List (reply.Prefixes pairs) fit valid granted = prefixes_again writers pairs valid
names_again writers repo o f (name.Get a) (reply.Prefix b) fit valid granted = text_again b valid
names_again writers repo o f (name.Get a) reply.NoPrefix fit valid granted = absurd (refused_not granted)
names_again writers repo o f (name.Put a b) reply.Done fit valid granted = tt
names_again writers repo o f (name.Put a b) reply.TooLarge fit valid granted = absurd (refused_not granted)
names_again writers repo o f (name.Remove a) reply.Done fit valid granted = tt
names_again writers repo o f name.Clear reply.Done fit valid granted = tt
names_again writers repo o f _ _ fit valid granted = absurd fit

op_again : Writers → (repo : List ℕ) (o : Op) (f : Form) (r : Reply) → IsAsked (On repo o f) → FitsLive o r → Again (op_manner o f) repo o f r
op_again writers repo (op.Begin level) f (reply.Begun t) asked fit valid granted = begun_again repo t fit.1
op_again writers repo (op.Begin level) f reply.TooManyOpen asked fit valid granted = absurd (refused_not granted)
op_again writers repo (op.Read txn a) f r asked fit valid granted = ask_again writers repo txn f a r asked fit valid granted
op_again writers repo (op.Step t q number) f r asked fit valid granted = absurd asked
op_again writers repo (op.Write txn changes) f reply.Done asked fit valid granted = tt
op_again writers repo (op.Write txn changes) f reply.TooLarge asked fit valid granted = absurd (refused_not granted)
op_again writers repo (op.Commit t) f reply.Done asked fit valid granted = tt
op_again writers repo (op.Commit t) f reply.TooLarge asked fit valid granted = absurd (refused_not granted)
op_again writers repo (op.Commit t) f (reply.Conflict pattern quad) asked fit valid granted = absurd (refused_not granted)
op_again writers repo (op.Rollback t) f reply.Done asked fit valid granted = tt
op_again writers repo (op.Ping t) f reply.Done asked fit valid granted = tt
op_again writers repo (op.Names n) f r asked fit valid granted = names_again writers repo (op.Names n) f n r fit valid granted
op_again writers repo _ f _ asked fit valid granted = absurd fit

fits_again : Writers → (repo : List ℕ) (o : Op) (f : Form) (r : Reply) → IsAsked (On repo o f) → FitsOp o r → Again (op_manner o f) repo o f r
fits_again writers repo o f r asked (inl fit) valid granted = op_again writers repo o f r asked fit valid granted
fits_again writers repo o f r asked (inr none) valid granted =
    absurd (refused_not (subst (λ (x : Reply). IsTrue (is_success (reply_response repo o f x).status)) none.0 granted))

call_again : Writers → (call : Call) (repos : List (List ℕ)) (r : Reply) → IsAsked call → Fits call r → IsValidReply r
    → IsTrue (is_success (response call repos r).status) → IsReading call (response call repos r) (Ok (got.Reply (as_read call r)))
unfolding response
call_again writers Protocol repos r asked fit valid granted =
    (granted, subst (λ (x : Reply). IsReplyBy Nothing (response Protocol repos x) (as_read Protocol x)) (sym fit) tt)
call_again writers (Repositories f) repos r asked fit valid granted =
    (granted, subst (λ (x : Reply). IsReplyBy Nothing (response (Repositories f) repos x) (as_read (Repositories f) x)) (sym fit) tt)
call_again writers (On repo o f) repos r asked fit valid granted = (granted, fits_again writers repo o f r asked fit valid granted)

same_quads : (kind : Kind) (quads : List Statement) → kind ≡ AsQuads → reply.Quads (read_again kind quads) ≡ reply.Quads quads
same_quads AsQuads quads e = refl
same_quads Triples quads e = cc

same_reply : (call : Call) (r : Reply) → NamesGraphs call → as_read call r ≡ r
same_reply (On repo o f) (reply.Quads quads) named = same_quads (kind_of f) quads named
same_reply _ _ named = refl

pub replies_again : Writers → RepliesReadAgain
replies_again writers = record { again = call_again writers; same = same_reply }
