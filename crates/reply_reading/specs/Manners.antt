-- How the reply to a call is read.
use Rattle.query_model.specs.declared.query.Query.{Query}
use Rattle.query_model.specs.declared.query.Query.TheVariants as query
use Rattle.journal.specs.declared.ask.Ask.{Ask}
use Rattle.journal.specs.declared.ask.Ask.TheVariants as ask
use Rattle.journal.specs.declared.op.NamesOp.{NamesOp}
use Rattle.journal.specs.declared.op.NamesOp.TheVariants as name
use Rattle.journal.specs.declared.op.Op.{Op}
use Rattle.journal.specs.declared.op.Op.TheVariants as op
use Rattle.media.specs.declared.form.Form.{Form}
use Rattle.media.specs.declared.form.Form.TheVariants as form
use Rattle.api_calls.specs.declared.call.Call.{Call}
use Rattle.api_calls.specs.declared.call.Call.TheVariants.{Protocol, Repositories, On}
use Rattle.api_replies.specs.Parts.{kind_of}
use Rattle.reply_reading.specs.declared.manner.Manner.{Manner}
use Rattle.reply_reading.specs.declared.manner.Manner.TheVariants.{Begun, Table, Truth, Word, Quads, Count, Contexts, Prefixes, Prefix, Nothing}

-- a truth value is a word in the form Boolean, and else JSON
abbrev pub truth_manner : Form → Manner
truth_manner form.Boolean = Word
truth_manner form.NQuads = Truth
truth_manner form.XNQuads = Truth
truth_manner form.NTriples = Truth
truth_manner form.PlainTriples = Truth
truth_manner form.ResultsJson = Truth
truth_manner form.Json = Truth
truth_manner form.PlainText = Truth

-- the answer of a query: a table of a SELECT, a truth value of an ASK, and a document of a CONSTRUCT
abbrev pub query_manner : Query → Form → Manner
query_manner (query.Select distinct vars group cut) form = Table
query_manner (query.Ask group) form = truth_manner form
query_manner (query.Construct template group cut) form = Quads (kind_of form)

abbrev pub ask_manner : Ask → Form → Manner
ask_manner (ask.Query query) form = query_manner query form
ask_manner (ask.List s p o contexts) form = Quads (kind_of form)
ask_manner (ask.Size contexts) form = Count
ask_manner ask.Contexts form = Contexts

abbrev pub names_manner : NamesOp → Manner
names_manner name.List = Prefixes
names_manner (name.Get a) = Prefix
names_manner (name.Put a b) = Nothing
names_manner (name.Remove a) = Nothing
names_manner name.Clear = Nothing

-- No request asks for a Step.
abbrev pub op_manner : Op → Form → Manner
op_manner (op.Begin level) form = Begun
op_manner (op.Read txn ask) form = ask_manner ask form
op_manner (op.Step t query number) form = Nothing
op_manner (op.Write txn changes) form = Nothing
op_manner (op.Commit t) form = Nothing
op_manner (op.Rollback t) form = Nothing
op_manner (op.Ping t) form = Nothing
op_manner (op.Names names) form = names_manner names

-- The reply to a call without entries is that it is done.
abbrev pub manner_of : Call → Manner
manner_of Protocol = Nothing
manner_of (Repositories form) = Nothing
manner_of (On repo op form) = op_manner op form
