-- Turns: the requests of a stream, one after another, and what each did.
use Rattle.std.specs.Prelude.{◌≡◌, ◌⊎◌, ℕ, ◌≤◌, ◌<◌, Bool, true, false, IsTrue, List, [], ◌∷◌, ◌++◌, length, map, Some, Ok, Err, slice_get, codes}
use Rattle.std.specs.List.{position_or_len}
use Rattle.std.specs.Ordering.{eq_by_cmp}
use Rattle.rdf_term.specs.TextOrder.{text_cmp}
use Rattle.rdf_term.specs.declared.pattern.Pattern.{Pattern}
use Rattle.rdf_term.specs.Statement.{Statement}
use Rattle.journal.specs.declared.op.NamesOp.{NamesOp}
use Rattle.journal.specs.declared.op.NamesOp.TheVariants as names_op
use Rattle.journal.specs.declared.op.Op.{Op}
use Rattle.journal.specs.declared.op.Op.TheVariants.{Begin, Read, Step, Write, Commit, Rollback, Ping, Names}
use Rattle.journal.specs.declared.entry.Entry.{Entry}
use Rattle.journal.specs.declared.entry.Mark.{Mark}
use Rattle.journal.specs.declared.limits.Limits.{Limits}
use Rattle.journal.specs.declared.reply.Reply.{Reply}
use Rattle.journal.specs.declared.reply.Reply.TheVariants.{Conflict, Done}
use Rattle.http_frame.specs.Frames.{IsRequest}
use Rattle.http_frame.specs.Messages.{SeenRequest, SeenResponse}
use Rattle.http_frame.specs.Wire.{wire, continue_of}
use Rattle.http_frame.specs.declared.message.Head.{Head}
use Rattle.api_calls.specs.Calls.{entries_of}
use Rattle.api_calls.specs.declared.call.Call.{Call}
use Rattle.api_calls.specs.declared.call.Call.TheVariants.{Protocol, Repositories, On}
use Rattle.api_calls.specs.declared.fault.ApiFault.{ApiFault}
use Rattle.api_replies.specs.Responses.{response, refusal}
use Rattle.api_replies.specs.Parts.{no_memory, refused}
use Rattle.repo_api.specs.Calls.{IsCallOf}
use Rattle.repo_api.specs.Resources.{is_text}
use Rattle.session.specs.Marks.{Journals, places_in, mark_at}
use Rattle.session.specs.Stores.{Replies}
use Rattle.session.specs.declared.report.Turn.{Turn}
use Rattle.session.specs.declared.report.Outcome.{Outcome}
use Rattle.session.specs.declared.report.Outcome.TheVariants.{Answered, FormRefused, JournalFull, NoMemory}

-- What a turn is judged by: the IDs of the repositories, their limits and journals, and the number of the session's seat in each.
pub record Ground : Type 0 where
  pub names : List (List ℕ)
  pub limits : Limits
  pub journals : Journals
  pub seats : ℕ → ℕ

abbrev pub ground : List (List ℕ) → Limits → Journals → (ℕ → ℕ) → Ground
ground names limits journals seats = record { names = names; limits = limits; journals = journals; seats = seats }

-- the number of a repository: the place of its ID
abbrev pub number_of : List (List ℕ) → List ℕ → ℕ
number_of names id = position_or_len (λ name. eq_by_cmp text_cmp name id) names

-- the number of the repository that a call is on
abbrev pub repo_of : List (List ℕ) → Call → ℕ
repo_of names Protocol = 0
repo_of names (Repositories form) = 0
repo_of names (On repo op form) = number_of names repo

-- Entries at places

-- these entries stand at these places of a journal
abbrev pub StandAt : List Entry → List ℕ → List Entry → Type 0
StandAt journal [] [] = Unit {0}
StandAt journal (k ∷ ks) (e ∷ es) = (slice_get journal k ≡ Some e) × StandAt journal ks es
StandAt journal [] (e ∷ es) = ⊥
StandAt journal (k ∷ ks) [] = ⊥

-- the entries at these places of a repository's journal are all that the call makes
abbrev pub IsWhole : Ground → ℕ → Call → List ℕ → Type 0
IsWhole g repo c places = StandAt (g.journals repo) places (entries_of c (g.seats repo))

-- the entries at these places are the first ones that the call makes, and left are the others
pub record IsPart (g : Ground) (repo : ℕ) (c : Call) (places : List ℕ) (left : List Entry) : Type 0 where
  pub made : List Entry
  pub stand : StandAt (g.journals repo) places made
  pub parts : entries_of c (g.seats repo) ≡ made ++ left

-- the reply of the entry at the last of these places
pub record IsReply (g : Ground) (repo : ℕ) (places : List ℕ) (x : Reply) : Type 0 where
  pub before : List ℕ
  pub last : ℕ
  pub places_are : places ≡ before ++ last ∷ []
  pub replied : Replies g.limits g.journals repo last x

abbrev pub is_reading_names : NamesOp → Bool
is_reading_names names_op.List = true
is_reading_names (names_op.Get prefix) = true
is_reading_names (names_op.Put prefix name) = false
is_reading_names (names_op.Remove prefix) = false
is_reading_names names_op.Clear = false

-- the op asks, and changes nothing
abbrev pub is_reading : Op → Bool
is_reading (Begin level) = false
is_reading (Read txn ask) = true
is_reading (Step t query number) = true
is_reading (Write txn changes) = false
is_reading (Commit t) = false
is_reading (Rollback t) = false
is_reading (Ping t) = false
is_reading (Names names) = is_reading_names names

-- the entry at this place changes nothing: it asks, or it is a Commit that a conflict refuses
abbrev pub IsUnchanging : Ground → ℕ → ℕ → Entry → Type 0
IsUnchanging g repo place e = IsTrue (is_reading e.op) ⊎ ((p : Pattern) × (q : Statement) × Replies g.limits g.journals repo place (Conflict p q))

abbrev pub AreUnchanging : Ground → ℕ → List ℕ → List Entry → Type 0
AreUnchanging g repo [] [] = Unit {0}
AreUnchanging g repo (k ∷ ks) (e ∷ es) = IsUnchanging g repo k e × AreUnchanging g repo ks es
AreUnchanging g repo [] (e ∷ es) = ⊥
AreUnchanging g repo (k ∷ ks) [] = ⊥

-- Responses

-- the bytes of a response to the request of this head; one to HEAD has no body
abbrev pub sent : Head → SeenResponse → List ℕ
sent head it = wire it head.minor head.closes (is_text head.method (codes "HEAD"))

-- the response to a call whose entries stand at these places
abbrev pub IsAnswer : Ground → ℕ → Call → List ℕ → SeenResponse → Type 0
IsAnswer g repo Protocol places it = it ≡ response Protocol g.names Done
IsAnswer g repo (Repositories form) places it = it ≡ response (Repositories form) g.names Done
IsAnswer g repo (On id op form) places it = (x : Reply) × IsReply g repo places x × (it ≡ response (On id op form) g.names x)

-- the response where the journal of a repository is full
abbrev pub journal_full : SeenResponse
journal_full = refused 507 (codes "journal full")

-- One request

-- The outcome of a request, where its entries stand in the journal of this repository, and the response.
abbrev pub IsRight : Ground → SeenRequest → ℕ → Outcome → List ℕ → SeenResponse → Type 0
-- by its form it is no call: it makes no entry
IsRight g r repo FormRefused places it = (fault : ApiFault) × IsCallOf r g.names (Err fault) × (places ≡ []) × (it ≡ refusal fault)
-- all entries of its call were made, and the response is that of the reply at the last
IsRight g r repo Answered places it = (c : Call) × IsCallOf r g.names (Ok c) × (repo ≡ repo_of g.names c) × IsWhole g repo c places × IsAnswer g repo c places it
-- the journal was full before all its entries were made
IsRight g r repo JournalFull places it = (c : Call) × IsCallOf r g.names (Ok c) × (repo ≡ repo_of g.names c)
    × (left : List Entry) × IsPart g repo c places left × (0 < length left) × (g.limits.places ≤ length (g.journals repo))
    × (it ≡ journal_full)
-- no memory was found, and no entry stands, or first ones of its call that change nothing
IsRight g r repo NoMemory places it = (it ≡ no_memory)
    × ((places ≡ []) ⊎ ((c : Call) × IsCallOf r g.names (Ok c) × (repo ≡ repo_of g.names c) × (left : List Entry) × (part : IsPart g repo c places left)
    × AreUnchanging g repo places part.made))

-- the first bytes of b are a request, and this is its turn
pub record IsTurn (g : Ground) (b : List ℕ) (t : Turn) : Type 0 where
  pub request : SeenRequest
  pub rest : List ℕ
  pub repo : ℕ
  pub places : List ℕ
  pub answer : SeenResponse
  pub is_request : IsRequest b request rest
  pub count : t.marks ≡ length places
  pub right : IsRight g request repo t.outcome places answer

-- the marks of a turn
abbrev pub turn_marks : {g : Ground} {b : List ℕ} {t : Turn} → IsTurn g b t → List Mark
turn_marks one = map (mark_at one.repo) one.places

-- what a turn writes: `100 Continue` where it is due, and the response
abbrev pub turn_text : {g : Ground} {b : List ℕ} {t : Turn} → IsTurn g b t → List ℕ
turn_text one = continue_of one.request.head ++ sent one.request.head one.answer

-- behind a turn that met a full journal no mark stands in that repository
abbrev pub StaysFull : Outcome → ℕ → List Mark → Type 0
StaysFull Answered repo later = Unit {0}
StaysFull FormRefused repo later = Unit {0}
StaysFull JournalFull repo later = places_in repo later ≡ []
StaysFull NoMemory repo later = Unit {0}

-- The turns of the requests at the front of b, one after another, with their marks and what they write; rest is left. No request comes after one that
-- closes: `was` says that the request before b closes, and `closed` that the one before rest does.
abbrev pub Turns : Ground → Bool → List ℕ → List Turn → List Mark → List ℕ → Bool → List ℕ → Type 0
Turns g was b [] marks text closed rest = (marks ≡ []) × (text ≡ []) × (closed ≡ was) × (rest ≡ b)
Turns g was b (t ∷ ts) marks text closed rest = (was ≡ false) × (one : IsTurn g b t) × (marks' : List Mark) × (text' : List ℕ)
    × (marks ≡ turn_marks one ++ marks') × (text ≡ turn_text one ++ text') × StaysFull t.outcome one.repo marks'
    × Turns g one.request.head.closes one.rest ts marks' text' closed rest
