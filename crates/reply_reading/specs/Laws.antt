-- What holds of responses and what they are read as.
use Rattle.std.specs.Prelude.{◌≡◌, ℕ, ◌<◌, ◌^◌, List, IsTrue, Result}
use Rattle.std.specs.declared.result.Result.TheVariants.{Ok, Err}
use Rattle.std.specs.List.{All}
use Rattle.std.specs.Option.{IfSome}
use Rattle.std.specs.Str.{all_scalars}
use Rattle.rdf_term.specs.declared.term.Term.TheVariants.{Plain}
use Rattle.rdf_term.specs.Validity.{IsValidTerm}
use Rattle.nquads_line.specs.declared.kind.Kind.TheVariants.{Quads as AsQuads}
use Rattle.nquads.specs.Written.{IsWritable, read_again}
use Rattle.query_model.specs.WellFormed.{IsWellFormed}
use Rattle.journal.specs.declared.ask.Ask.TheVariants.{Query}
use Rattle.journal.specs.declared.op.Op.TheVariants.{Read, Step}
use Rattle.journal.specs.declared.reply.Reply.{Reply}
use Rattle.journal.specs.declared.reply.Reply.TheVariants as reply
use Rattle.http_frame.specs.Messages.{SeenResponse}
use Rattle.api_calls.specs.declared.call.Call.{Call}
use Rattle.api_calls.specs.declared.call.Call.TheVariants.{On}
use Rattle.api_replies.specs.Fits.{Fits}
use Rattle.api_replies.specs.Parts.{kind_of}
use Rattle.api_replies.specs.Responses.{response}
use Rattle.reply_reading.specs.declared.got.Got.{Got}
use Rattle.reply_reading.specs.declared.got.Got.TheVariants as got
use Rattle.reply_reading.specs.declared.got.ReplyFault.{ReplyFault}
use Rattle.reply_reading.specs.declared.got.ReplyFault.TheVariants.{BadReply, Memory}
use Rattle.reply_reading.specs.Readings.{IsReading, is_success}

-- An answer by what it says: a reply, the status and the bytes of a refusal, the place of a refusal by the reader, or want of memory.
pub data Answer : Type 0 where
  replied : Reply → Answer
  refused : ℕ → List ℕ → Answer
  bad : ℕ → Answer
  no_memory : Answer

abbrev pub answer_of : Result Got ReplyFault → Answer
answer_of (Ok (got.Reply reply)) = replied reply
answer_of (Ok (got.Refused status body)) = refused status body.items
answer_of (Err (BadReply n)) = bad n
answer_of (Err Memory) = no_memory

-- the reader found memory
abbrev pub HasAnswer : Result Got ReplyFault → Type 0
HasAnswer result = result ≡ Err Memory → ⊥

-- a response to a call is read as one thing
abbrev pub OneReading : Type 0
OneReading = (call : Call) (r : SeenResponse) (a b : Result Got ReplyFault)
    → IsReading call r a → IsReading call r b → HasAnswer a → HasAnswer b → answer_of a ≡ answer_of b

-- what holds of each call that a request gives: it asks for no single Step of a query, and its query is well formed
abbrev pub IsAsked : Call → Type 0
IsAsked (On repo (Read txn (Query query)) form) = IsWellFormed query
IsAsked (On repo (Step t query number) form) = ⊥
IsAsked _ = Unit {0}

-- a reply of valid terms and texts, and of a number of 64 bits
abbrev pub IsValidReply : Reply → Type 0
IsValidReply (reply.Table table) = All (λ row. All (λ cell. IfSome cell IsValidTerm) row) table.rows
IsValidReply (reply.Quads quads) = All IsWritable quads
IsValidReply (reply.Count count) = count < 2 ^ 64
IsValidReply (reply.Contexts names) = All IsValidTerm names
IsValidReply (reply.Prefixes pairs) = All (λ pair. IsValidTerm (Plain pair.0) × IsValidTerm (Plain pair.1)) pairs
IsValidReply (reply.Prefix name) = IsTrue (all_scalars name)
IsValidReply _ = Unit {0}

-- What is read of a reply: the reply; in a form that leaves the graphs off, the quads without them, and equal neighbours once.
abbrev pub as_read : Call → Reply → Reply
as_read (On repo op form) (reply.Quads quads) = reply.Quads (read_again (kind_of form) quads)
as_read call r = r

-- the form of a call names the graphs of quads
abbrev pub NamesGraphs : Call → Type 0
NamesGraphs (On repo op form) = kind_of form ≡ AsQuads
NamesGraphs _ = Unit {0}

pub record RepliesReadAgain : Type 0 where
  -- what is written of a reply that grants what was asked is read again
  pub again : (call : Call) (repos : List (List ℕ)) (r : Reply) → IsAsked call → Fits call r → IsValidReply r
      → IsTrue (is_success (response call repos r).status) → IsReading call (response call repos r) (Ok (got.Reply (as_read call r)))
  -- as that reply, where the form names the graphs
  pub same : (call : Call) (r : Reply) → NamesGraphs call → as_read call r ≡ r
