-- What holds of replies and responses.
use Rattle.std.specs.Prelude.{◌≡◌, ℕ, ◌≤◌, ◌<◌, ◌^◌, List, [], ◌∷◌, ◌++◌, Some, None, length, slice_get}
use Rattle.journal.specs.declared.op.Op.{Op}
use Rattle.journal.specs.declared.entry.Entry.{Entry}
use Rattle.journal.specs.declared.limits.Limits.{Limits}
use Rattle.journal.specs.declared.reply.Reply.{Reply}
use Rattle.journal.specs.Journal.{reply_next, reply_at}
use Rattle.media.specs.declared.form.Form.{Form}
use Rattle.api_calls.specs.declared.call.Call.{Call}
use Rattle.api_calls.specs.declared.call.Call.TheVariants.{On}
use Rattle.api_calls.specs.Calls.{entries_of}
use Rattle.api_replies.specs.declared.short.Short.{Short}
use Rattle.api_replies.specs.Fits.{Fits, FitsOp}
use Rattle.api_replies.specs.Responses.{response}
use Rattle.api_replies.specs.Shorts.{short_response, short_of, TakesMemory}

-- The reply to the last of a call's entries fits the call, in a journal of at most 2^62 entries: where the entry is added, and at its place from then on.
pub record LastReplyFits : Type 0 where
  pub next : (limits : Limits) (journal : List Entry) (call : Call) (seat : ℕ) (before : List Entry) (last : Entry)
      → entries_of call seat ≡ before ++ last ∷ [] → length journal < 2 ^ 62 → Fits call (reply_next limits journal last)
  pub at : (limits : Limits) (journal : List Entry) (place : ℕ) (call : Call) (seat : ℕ) (before : List Entry) (last : Entry) (r : Reply)
      → entries_of call seat ≡ before ++ last ∷ [] → slice_get journal place ≡ Some last → length journal ≤ 2 ^ 62
      → reply_at limits journal place ≡ Some r → Fits call r

-- A reply that is answered without memory has the response of its case.
abbrev pub ShortIsResponse : Type 0
ShortIsResponse = (repo : List ℕ) (op : Op) (form : Form) (repos : List (List ℕ)) (r : Reply) (it : Short)
    → short_of op r ≡ Some it → short_response repo it ≡ response (On repo op form) repos r

-- Any other reply that fits an op takes memory by its kind.
abbrev pub OthersTakeMemory : Type 0
OthersTakeMemory = (op : Op) (r : Reply) → FitsOp op r → short_of op r ≡ None → TakesMemory op r
