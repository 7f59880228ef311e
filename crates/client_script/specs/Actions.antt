-- What is done at a line of a script, by the current transaction: the call that is sent, if any.
use Rattle.std.specs.Prelude.{ℕ, List, [], ◌∷◌, fold, option_map, Option, Some, None}
use Rattle.rdf_term.specs.Statement.{Statement}
use Rattle.rdf_term.specs.declared.pattern.GraphPick.TheVariants as picks
use Rattle.query_model.specs.declared.query.Query.{Query as AQuery}
use Rattle.query_model.specs.declared.query.Query.TheVariants as query
use Rattle.change_set.specs.declared.change.Change.{Change}
use Rattle.change_set.specs.declared.change.Change.TheVariants as change
use Rattle.journal.specs.declared.txn.Txn.{Txn}
use Rattle.journal.specs.declared.ask.Ask.{Ask}
use Rattle.journal.specs.declared.ask.Ask.TheVariants as asks
use Rattle.journal.specs.declared.op.NamesOp.TheVariants as names
use Rattle.journal.specs.declared.op.Op.{Op}
use Rattle.journal.specs.declared.op.Op.TheVariants as ops
use Rattle.journal.specs.declared.reply.Reply.{Reply}
use Rattle.journal.specs.declared.reply.Reply.TheVariants as replies
use Rattle.media.specs.declared.form.Form.{Form}
use Rattle.media.specs.declared.form.Form.TheVariants.{NQuads, ResultsJson, PlainText}
use Rattle.api_calls.specs.declared.call.Call.TheVariants as calls
use Rattle.client_script.specs.declared.action.Action.{Action}
use Rattle.client_script.specs.declared.action.Action.TheVariants.{Skip, Send, End, Refuse}
use Rattle.client_script.specs.declared.command.Command.{Command}
use Rattle.client_script.specs.declared.command.Command.TheVariants.{Nothing, Begin, Add, Remove, Query, List as ListCommand, Size, Contexts, Namespaces, Prefix, Ping, Commit, Rollback, Quit}

-- quads are asked for as N-Quads, and what is no quads as JSON
abbrev pub form_of : AQuery → Form
form_of (query.Select distinct vars group cut) = ResultsJson
form_of (query.Ask group) = ResultsJson
form_of (query.Construct template group cut) = NQuads

-- In a transaction a quad is removed from its own graph; outside one, what the pattern of the quad matches is removed.
abbrev pub removal : Option Txn → Statement → Change
removal (Some t) q = change.Remove q
removal None q = change.RemoveMatching (record { s = Some q.s; p = Some q.p; o = Some q.o; c = picks.One q.c })

-- a call on the repository
abbrev pub send : List ℕ → Op → Form → Action
send repo op form = Send (calls.On repo op form)

-- a read in the current transaction, where there is one
abbrev pub reads : List ℕ → Option Txn → Ask → Form → Action
reads repo txn ask form = send repo (ops.Read txn ask) form

-- a write in the current transaction, where there is one
abbrev pub writes : List ℕ → Option Txn → Change → Action
writes repo txn one = send repo (ops.Write txn (one ∷ [])) PlainText

-- the op is sent, or the line is refused where there is none
abbrev pub sent_or_refused : List ℕ → Option Op → Action
sent_or_refused repo (Some op) = send repo op PlainText
sent_or_refused repo None = Refuse

-- an op on the current transaction, which there must be
abbrev pub in_txn : List ℕ → (Txn → Op) → Option Txn → Action
in_txn repo op txn = sent_or_refused repo (option_map op txn)

-- a transaction is begun where there is no current one
abbrev pub begins : List ℕ → Op → Option Txn → Action
begins repo op (Some t) = Refuse
begins repo op None = send repo op PlainText

-- What is done at a command on this repository, where this is the current transaction. What may stand in a transaction is sent in it.
abbrev pub next_call : List ℕ → Option Txn → Command → Action
next_call repo txn Nothing = Skip
next_call repo txn (Begin level) = begins repo (ops.Begin level) txn
next_call repo txn (Add q) = writes repo txn (change.Add q)
next_call repo txn (Remove q) = writes repo txn (removal txn q)
next_call repo txn (Query query) = reads repo txn (asks.Query query) (form_of query)
next_call repo txn ListCommand = reads repo txn (asks.List None None None []) NQuads
next_call repo txn Size = reads repo txn (asks.Size []) PlainText
next_call repo txn Contexts = reads repo None asks.Contexts ResultsJson
next_call repo txn Namespaces = send repo (ops.Names names.List) ResultsJson
next_call repo txn (Prefix p iri) = send repo (ops.Names (names.Put p iri)) PlainText
next_call repo txn Ping = in_txn repo ops.Ping txn
next_call repo txn Commit = in_txn repo ops.Commit txn
next_call repo txn Rollback = in_txn repo ops.Rollback txn
next_call repo txn Quit = End

-- The current transaction after a reply: the one that was begun, until a commit or a rollback of it is done.
abbrev pub txn_after : Option Txn → Op → Reply → Option Txn
txn_after txn (ops.Begin level) (replies.Begun t) = Some t
txn_after txn (ops.Commit t) replies.Done = None
txn_after txn (ops.Rollback t) replies.Done = None
txn_after txn op reply = txn

-- the current transaction by the calls that were sent, each with its reply: at first there is none
abbrev pub current_txn : List (Op × Reply) → Option Txn
current_txn answered = fold (λ txn x. txn_after txn x.0 x.1) None answered
