-- What a session writes for a reply is got as that reply, and printed.
use Rattle.std.proofs.Common.{◌≡◌, ◌+◌, ◌==◌, ℕ, List, [], ◌∷◌, ◌++◌, Bool, true, false, Option, Some, None, if◌then◌else◌, codes, map, refl, sym, ap, ◌∙◌, subst, append-nil}
use Rattle.std.specs.Prelude.{option_and_then}
use Rattle.std.specs.List.{filter}
use Rattle.std.proofs.lemmas.List.{map-append}
use Rattle.std.proofs.lemmas.List.Elements.{filter-append}
use Rattle.http_frame.specs.Fields.{is_named, values_of}
use Rattle.http_frame.specs.Laws.{WrittenResponseIsFrame}
use Rattle.http_frame.specs.Messages.{SeenResponse}
use Rattle.http_frame.specs.WrittenResponses.{close_field, length_field, read_back, written_fields}
use Rattle.query_model.specs.declared.query.Query.{Query as AQuery}
use Rattle.query_model.specs.declared.query.Query.TheVariants as query
use Rattle.change_set.specs.declared.change.Change.TheVariants.{Add}
use Rattle.journal.specs.Journal.{is_commit}
use Rattle.journal.specs.declared.txn.Txn.{Txn}
use Rattle.journal.specs.declared.ask.Ask.TheVariants as asks
use Rattle.journal.specs.declared.op.NamesOp.TheVariants as names
use Rattle.journal.specs.declared.op.Op.{Op}
use Rattle.journal.specs.declared.op.Op.TheVariants as ops
use Rattle.journal.specs.declared.reply.Reply.{Reply}
use Rattle.journal.specs.declared.reply.Reply.TheVariants as replies
use Rattle.media.specs.declared.form.Form.{Form}
use Rattle.media.specs.declared.form.Form.TheVariants.{NQuads, ResultsJson, PlainText}
use Rattle.api_paths.specs.Targets.{text_of}
use Rattle.api_calls.specs.declared.call.Call.{Call}
use Rattle.api_calls.specs.declared.call.Call.TheVariants.{Protocol, Repositories, On}
use Rattle.api_replies.specs.Parts.{done}
use Rattle.api_replies.specs.Responses.{response, response_bytes}
use Rattle.reply_reading.specs.Counts.{count_of}
use Rattle.reply_reading.specs.Laws.{as_read, IsAsked, NamesGraphs, RepliesReadAgain}
use Rattle.reply_reading.specs.Locations.{behind_slash, location_of, only_value}
use Rattle.reply_reading.specs.Manners.{manner_of}
use Rattle.reply_reading.specs.Readings.{IsReplyBy}
use Rattle.reply_reading.specs.declared.got.Got.TheVariants as gots
use Rattle.reply_reading.specs.declared.manner.Manner.{Manner}
use Rattle.reply_reading.specs.declared.manner.Manner.TheVariants as manner
use Rattle.client_script.specs.declared.action.Action.TheVariants.{Send}
use Rattle.client_script.specs.declared.command.Command.{Command}
use Rattle.client_script.specs.declared.command.Command.TheVariants as command
use Rattle.client_script.specs.Actions.{form_of, next_call, removal}
use Rattle.client_script.specs.Laws.{CommandsAreValid}
use Rattle.client_script.specs.Lines.{IsValidCommand}
use Rattle.client_script.specs.Printed.{printed}
use Rattle.rdf_client.specs.Exchanges.{IsAnswer, request_bytes}
use Rattle.rdf_client.specs.Runs.{Asks, Place, Runs, answers, txn_behind}
use Rattle.rdf_client.specs.Served.{IsServed}
use Rattle.rdf_client.specs.declared.end.ClientEnd.{ClientEnd}

-- The fields that a writer adds

second : List ℕ × List ℕ → List ℕ
second field = field.1

values_apart : (name : List ℕ) (x y : List (List ℕ × List ℕ)) → values_of name (x ++ y) ≡ values_of name x ++ values_of name y
values_apart name x y =
    ap (map (λ (field : List ℕ × List ℕ). field.1)) (filter-append (is_named name) x y)
    ∙ map-append (λ (field : List ℕ × List ℕ). field.1) (filter (is_named name) x) (filter (is_named name) y)

values_kept : (name : List ℕ) (fs xs ys : List (List ℕ × List ℕ)) → values_of name xs ≡ [] → values_of name ys ≡ [] → values_of name (fs ++ xs ++ ys) ≡ values_of name fs
values_kept name fs xs ys e f =
    values_apart name (fs ++ xs) ys ∙ ap (λ (v : List (List ℕ)). values_of name (fs ++ xs) ++ v) f ∙ append-nil (values_of name (fs ++ xs))
    ∙ values_apart name fs xs ∙ ap (λ (v : List (List ℕ)). values_of name fs ++ v) e ∙ append-nil (values_of name fs)

no_length : (t : Bool) (body : List ℕ) → values_of (codes "location") (if t then [] else length_field body ∷ []) ≡ []
no_length true body = refl
no_length false body = refl

no_close : (t : Bool) → values_of (codes "location") (if t then close_field ∷ [] else []) ≡ []
no_close true = refl
no_close false = refl

location_kept : (r : SeenResponse) (closes : Bool) → location_of (written_fields r closes) ≡ location_of r.fields
location_kept r closes =
    ap only_value (values_kept (codes "location") r.fields (if r.status == 204 then [] else length_field r.body ∷ []) (if closes then close_field ∷ [] else [])
    (no_length (r.status == 204) r.body) (no_close closes))

-- The body

done_body : (b : Bool) → (if (done b).status == 204 then [] else (done b).body) ≡ (done b).body
done_body true = refl
done_body false = refl

-- a response of status 204 has no body
pub body_kept : (call : Call) (repos : List (List ℕ)) (reply : Reply)
    → (if (response call repos reply).status == 204 then [] else (response call repos reply).body) ≡ (response call repos reply).body
unfolding response
body_kept Protocol repos reply = refl
body_kept (Repositories form) repos reply = refl
body_kept (On repo op form) repos (replies.Begun t) = refl
body_kept (On repo op form) repos replies.Done = done_body (is_commit op)
body_kept (On repo op form) repos (replies.Table table) = refl
body_kept (On repo op form) repos (replies.Truth truth) = refl
body_kept (On repo op form) repos (replies.Quads quads) = refl
body_kept (On repo op form) repos (replies.Count count) = refl
body_kept (On repo op form) repos (replies.Contexts names) = refl
body_kept (On repo op form) repos (replies.Prefixes pairs) = refl
body_kept (On repo op form) repos (replies.Prefix name) = refl
body_kept (On repo op form) repos replies.NoPrefix = refl
body_kept (On repo op form) repos replies.NoTransaction = refl
body_kept (On repo op form) repos replies.TooManyOpen = refl
body_kept (On repo op form) repos (replies.Conflict pattern quad) = refl
body_kept (On repo op form) repos replies.TooLarge = refl
body_kept (On repo op form) repos replies.TooManyRows = refl

-- The reply

-- a reply is read of the body and of the field Location alone
read_alike : (m : Manner) (r s : SeenResponse) (reply : Reply) → s.body ≡ r.body → location_of s.fields ≡ location_of r.fields → IsReplyBy m r reply → IsReplyBy m s reply
read_alike manner.Begun r s (replies.Begun t) b f h = (ap (λ (l : Option (List ℕ)). option_and_then behind_slash l) f ∙ h.0, h.1)
read_alike manner.Table r s (replies.Table table) b f h =
    subst (λ (x : List ℕ). IsReplyBy manner.Table (record { status = r.status; fields = r.fields; body = x }) (replies.Table table)) (sym b) h
read_alike manner.Truth r s (replies.Truth truth) b f h =
    subst (λ (x : List ℕ). IsReplyBy manner.Truth (record { status = r.status; fields = r.fields; body = x }) (replies.Truth truth)) (sym b) h
read_alike manner.Word r s (replies.Truth truth) b f h = b ∙ h
read_alike (manner.Quads kind) r s (replies.Quads quads) b f h =
    subst (λ (x : List ℕ). IsReplyBy (manner.Quads kind) (record { status = r.status; fields = r.fields; body = x }) (replies.Quads quads)) (sym b) h
read_alike manner.Count r s (replies.Count count) b f h = ap count_of b ∙ h
read_alike manner.Contexts r s (replies.Contexts names) b f h =
    subst (λ (x : List ℕ). IsReplyBy manner.Contexts (record { status = r.status; fields = r.fields; body = x }) (replies.Contexts names)) (sym b) h
read_alike manner.Prefixes r s (replies.Prefixes pairs) b f h =
    subst (λ (x : List ℕ). IsReplyBy manner.Prefixes (record { status = r.status; fields = r.fields; body = x }) (replies.Prefixes pairs)) (sym b) h
read_alike manner.Prefix r s (replies.Prefix name) b f h = ap text_of b ∙ h
read_alike manner.Nothing r s replies.Done b f h = tt
read_alike m r s reply b f h = absurd h

pub written_is_got : WrittenResponseIsFrame → RepliesReadAgain → (call : Call) (repos : List (List ℕ)) (reply : Reply) (minor : ℕ) (closes : Bool) (more : List ℕ)
    → IsAsked call → IsServed call repos reply closes
    → IsAnswer call (response_bytes call repos reply minor closes false ++ more) (gots.Reply (as_read call reply)) more
written_is_got frames reads call repos reply minor closes more asked it =
    let r : SeenResponse = response call repos reply in
    record {
      seen = read_back r closes;
      frame = frames r minor closes more it.readable;
      got_is = (
        it.granted,
        read_alike (manner_of call) r (read_back r closes) (as_read call reply) (body_kept call repos reply) (location_kept r closes)
            (reads.again call repos reply asked it.fits it.valid it.granted).1,
      );
    }

-- The calls of a script

asked : (repo : List ℕ) (op : Op) (form : Form) (call : Call) → IsAsked (On repo op form) → NamesGraphs (On repo op form) → Send (On repo op form) ≡ Send call
    → IsAsked call × NamesGraphs call
asked repo op form call a n e = let same : On repo op form ≡ call = cc in (subst IsAsked same a, subst NamesGraphs same n)

query_graphs : (repo : List ℕ) (txn : Option Txn) (q : AQuery) → NamesGraphs (On repo (ops.Read txn (asks.Query q)) (form_of q))
query_graphs repo txn (query.Select distinct vars group cut) = refl
query_graphs repo txn (query.Ask group) = refl
query_graphs repo txn (query.Construct template group cut) = refl

-- its query is well formed, and its form names the graphs of quads
script_call : (repo : List ℕ) (txn : Option Txn) (c : Command) (call : Call) → IsValidCommand c → next_call repo txn c ≡ Send call → IsAsked call × NamesGraphs call
script_call repo txn command.Nothing call v e = cc
script_call repo None (command.Begin level) call v e = asked repo (ops.Begin level) PlainText call tt refl e
script_call repo (Some t) (command.Begin level) call v e = cc
script_call repo txn (command.Add q) call v e = asked repo (ops.Write txn (Add q ∷ [])) PlainText call tt refl e
script_call repo txn (command.Remove q) call v e = asked repo (ops.Write txn (removal txn q ∷ [])) PlainText call tt refl e
script_call repo txn (command.Query q) call v e = asked repo (ops.Read txn (asks.Query q)) (form_of q) call v (query_graphs repo txn q) e
script_call repo txn command.List call v e = asked repo (ops.Read txn (asks.List None None None [])) NQuads call tt refl e
script_call repo txn command.Size call v e = asked repo (ops.Read txn (asks.Size [])) PlainText call tt refl e
script_call repo txn command.Contexts call v e = asked repo (ops.Read None asks.Contexts) ResultsJson call tt refl e
script_call repo txn command.Namespaces call v e = asked repo (ops.Names names.List) ResultsJson call tt refl e
script_call repo txn (command.Prefix p iri) call v e = asked repo (ops.Names (names.Put p iri)) PlainText call tt refl e
script_call repo None command.Ping call v e = cc
script_call repo (Some t) command.Ping call v e = asked repo (ops.Ping t) PlainText call tt refl e
script_call repo None command.Commit call v e = cc
script_call repo (Some t) command.Commit call v e = asked repo (ops.Commit t) PlainText call tt refl e
script_call repo None command.Rollback call v e = cc
script_call repo (Some t) command.Rollback call v e = asked repo (ops.Rollback t) PlainText call tt refl e
script_call repo txn command.Quit call v e = cc

pub reply_is_printed : CommandsAreValid → WrittenResponseIsFrame → RepliesReadAgain → (repo host : List ℕ) (at : Place) (rest id : List ℕ) (op : Op) (form : Form)
    (repos : List (List ℕ)) (reply : Reply) (minor : ℕ) (closes : Bool) (more : List ℕ) → Asks repo at (Send (On id op form)) rest
    → IsServed (On id op form) repos reply closes → at.responses ≡ response_bytes (On id op form) repos reply minor closes false ++ more
    → (end : ClientEnd) (sent text : List ℕ)
    → Runs repo host (record { number = at.number + 1; txn = txn_behind at.txn (On id op form) reply; script = rest; responses = more }) end sent text
    → Runs repo host at end (request_bytes (On id op form) host ++ sent) (printed op reply ++ text)
reply_is_printed commands frames reads repo host at rest id op form repos reply minor closes more asks it stand end sent text run =
    let call : Call = On id op form in
    let valid = commands asks.line.line asks.command asks.line.script.table in
    let can = script_call repo at.txn asks.command call valid asks.action_is in
    let got = written_is_got frames reads call repos reply minor closes more can.0 it in
    let whole = subst (λ (r : Reply). IsAnswer call (response_bytes call repos reply minor closes false ++ more) (gots.Reply r) more) (reads.same call reply can.1) got in
    answers call reply rest more sent text asks (subst (λ (b : List ℕ). IsAnswer call b (gots.Reply reply) more) (sym stand) whole) run refl refl
