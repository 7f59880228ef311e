-- What a response to a call is read as.
use Rattle.std.specs.Prelude.{◌≡◌, ◌⊎◌, ℕ, Bool, false, ◌==◌, ◌||◌, List, Some, None, IsTrue, Result}
use Rattle.nquads_line.specs.declared.kind.Kind.{Kind}
use Rattle.nquads.specs.declared.fault.DataFault.{DataFault}
use Rattle.nquads.specs.Documents.{IsDocument, FirstBad}
use Rattle.query_model.specs.declared.table.Table.{Table}
use Rattle.results_json.specs.declared.fault.ResultFault.{ResultFault}
use Rattle.results_json.specs.Reading.{IsTable, IsTableFault, IsTruth}
use Rattle.journal.specs.declared.txn.Txn.{Txn}
use Rattle.journal.specs.declared.reply.Reply.{Reply}
use Rattle.journal.specs.declared.reply.Reply.TheVariants as reply
use Rattle.http_frame.specs.Messages.{SeenResponse}
use Rattle.api_paths.specs.Targets.{text_of}
use Rattle.api_calls.specs.declared.call.Call.{Call}
use Rattle.api_replies.specs.Parts.{truth_word}
use Rattle.api_replies.specs.Tables.{contexts_table, namespaces_table}
use Rattle.reply_reading.specs.declared.got.Got.{Got}
use Rattle.reply_reading.specs.declared.got.Got.TheVariants as got
use Rattle.reply_reading.specs.declared.got.ReplyFault.{ReplyFault}
use Rattle.reply_reading.specs.declared.got.ReplyFault.TheVariants.{BadReply}
use Rattle.reply_reading.specs.declared.manner.Manner.{Manner}
use Rattle.reply_reading.specs.declared.manner.Manner.TheVariants as manner
use Rattle.reply_reading.specs.Counts.{count_of}
use Rattle.reply_reading.specs.Faults.{IsAnswer, line_fault, row_fault}
use Rattle.reply_reading.specs.Locations.{Locates}
use Rattle.reply_reading.specs.Manners.{manner_of}

-- the body is no table, and n is the number of the first row that holds what is no term, or 0
abbrev pub IsBadTable : List ℕ → ℕ → Type 0
IsBadTable body n = (fault : ResultFault) × IsTableFault body fault × (row_fault fault ≡ BadReply n)

-- the body is no document, and n is the number of its first bad line
abbrev pub IsBadDocument : Kind → List ℕ → ℕ → Type 0
IsBadDocument kind body n = (fault : DataFault) × FirstBad kind body fault × (line_fault fault ≡ BadReply n)

-- the body is a table, but none that a list of this kind makes
abbrev pub IsOtherTable : {T : Type 0} → (T → Table) → List ℕ → ℕ → Type 0
IsOtherTable {T} table_of body n = (n ≡ 0) × ((table : Table) × IsTable body table × ((list : T) → table ≡ table_of list → ⊥))

-- the body is no table that a list of this kind makes
abbrev pub IsBadList : {T : Type 0} → (T → Table) → List ℕ → ℕ → Type 0
IsBadList table_of body n = IsBadTable body n ⊎ IsOtherTable table_of body n

-- The response has this reply. Contexts and prefixes are read as the tables that are written of them: with these columns, each bound in each row.
abbrev pub IsReplyBy : Manner → SeenResponse → Reply → Type 0
IsReplyBy manner.Begun r (reply.Begun t) = Locates r.fields t
IsReplyBy manner.Table r (reply.Table table) = IsTable r.body table
IsReplyBy manner.Truth r (reply.Truth truth) = IsTruth r.body truth
IsReplyBy manner.Word r (reply.Truth truth) = r.body ≡ truth_word truth
IsReplyBy (manner.Quads kind) r (reply.Quads quads) = IsDocument kind r.body quads
IsReplyBy manner.Count r (reply.Count count) = count_of r.body ≡ Some count
IsReplyBy manner.Contexts r (reply.Contexts names) = IsTable r.body (contexts_table names)
IsReplyBy manner.Prefixes r (reply.Prefixes pairs) = IsTable r.body (namespaces_table pairs)
IsReplyBy manner.Prefix r (reply.Prefix name) = text_of r.body ≡ Some name
IsReplyBy manner.Nothing r reply.Done = Unit {0}
IsReplyBy _ r _ = ⊥

-- The response has none, and is refused at this line or row.
abbrev pub IsBadBy : Manner → SeenResponse → ℕ → Type 0
IsBadBy manner.Begun r n = (n ≡ 0) × ((t : Txn) → Locates r.fields t → ⊥)
IsBadBy manner.Table r n = IsBadTable r.body n
IsBadBy manner.Truth r n = (n ≡ 0) × ((truth : Bool) → IsTruth r.body truth → ⊥)
IsBadBy manner.Word r n = (n ≡ 0) × ((truth : Bool) → r.body ≡ truth_word truth → ⊥)
IsBadBy (manner.Quads kind) r n = IsBadDocument kind r.body n
IsBadBy manner.Count r n = (n ≡ 0) × (count_of r.body ≡ None)
IsBadBy manner.Contexts r n = IsBadList contexts_table r.body n
IsBadBy manner.Prefixes r n = IsBadList namespaces_table r.body n
IsBadBy manner.Prefix r n = (n ≡ 0) × (text_of r.body ≡ None)
IsBadBy manner.Nothing r n = ⊥

abbrev pub IsReadBy : Manner → SeenResponse → Result Reply ReplyFault → Type 0
IsReadBy m r = IsAnswer (IsReplyBy m r) (IsBadBy m r)

-- a request was granted (RFC 9110, section 15.3)
abbrev pub is_success : ℕ → Bool
is_success status = status == 200 || status == 201 || status == 204

-- what is got by a call
abbrev pub IsGot : Call → SeenResponse → Got → Type 0
IsGot call r (got.Reply reply) = IsTrue (is_success r.status) × IsReplyBy (manner_of call) r reply
IsGot call r (got.Refused status body) = (is_success r.status ≡ false) × (status ≡ r.status) × (body.items ≡ r.body)

-- what is refused by the reader
abbrev pub IsBadReply : Call → SeenResponse → ℕ → Type 0
IsBadReply call r n = IsTrue (is_success r.status) × IsBadBy (manner_of call) r n

-- what a response to a call is read as; want of memory says nothing of it
abbrev pub IsReading : Call → SeenResponse → Result Got ReplyFault → Type 0
IsReading call r = IsAnswer (IsGot call r) (IsBadReply call r)
