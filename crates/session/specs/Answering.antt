-- The answer to a request. No contract of a public call cites it.
use Rattle.std.specs.Prelude.{◌≡◌, ◌⊎◌, ℕ, ◌<◌, List, [], ◌++◌, map, length, Option, Some, None, Result, Ok, Err, slice_get}
use Rattle.rdf_term.specs.Buffer.{Buffer}
use Rattle.journal.specs.declared.ask.Ask.{Ask}
use Rattle.journal.specs.declared.entry.Mark.{Mark}
use Rattle.journal.specs.declared.op.Op.{Op}
use Rattle.journal.specs.declared.op.Op.TheVariants.{Begin, Read, Step, Write, Commit, Rollback, Ping, Names}
use Rattle.media.specs.declared.form.Form.{Form}
use Rattle.http_frame.specs.Messages.{SeenRequest, SeenResponse}
use Rattle.http_frame.specs.declared.message.Head.{Head}
use Rattle.api_calls.specs.declared.call.Call.{Call}
use Rattle.api_calls.specs.declared.call.Call.TheVariants.{Protocol, Repositories, On}
use Rattle.repo_api.specs.Calls.{IsCallOf}
use Rattle.api_replies.specs.Fits.{Fits}
use Rattle.api_replies.specs.Shorts.{short_response}
use Rattle.api_replies.specs.declared.short.Short.TheVariants.{OutOfMemory}
use Rattle.repo_store.specs.Stores.{answered}
use Rattle.session.specs.Entering.{Asks, IsEntered}
use Rattle.session.specs.Marks.{Journals, Below, Moves, mark_at}
use Rattle.session.specs.Turns.{Ground, IsRight, repo_of, sent}
use Rattle.session.specs.declared.answer.Answered.{Answered as AnsweredRequest}
use Rattle.session.specs.declared.answer.Written.{Written}
use Rattle.session.specs.declared.answer.Written.TheVariants.{Short, Whole}
use Rattle.session.specs.declared.enter.Entered.{Entered}
use Rattle.session.specs.declared.enter.Entered.TheVariants.{Replied, Pinned, Full, NoMemory}
use Rattle.session.specs.declared.report.Outcome.{Outcome}
use Rattle.session.specs.declared.report.Outcome.TheVariants.{Answered, NoMemory as OutcomeNoMemory}

-- the ask of an op, where it asks
abbrev pub ask_of : Op → Option Ask
ask_of (Begin level) = None
ask_of (Read txn ask) = Some ask
ask_of (Step t query number) = None
ask_of (Write txn changes) = None
ask_of (Commit t) = None
ask_of (Rollback t) = None
ask_of (Ping t) = None
ask_of (Names names) = None

-- the call is this op on a repository
abbrev pub IsOn : Call → Op → Type 0
IsOn c op = (id : List ℕ) × (form : Form) × (c ≡ On id op form)

-- what came of the entries of a call has a reply that fits it
abbrev pub FitsEntered : Call → Entered → Type 0
FitsEntered c (Replied x) = Fits c x
FitsEntered c (Pinned p) = (ask : Ask) × Asks c ask × Fits c (answered p ask)
FitsEntered c Full = Unit {0}
FitsEntered c NoMemory = Unit {0}

-- what is written for a request of this head, to a repository of this ID, is this response
abbrev pub IsWritten : List ℕ → Head → Written → SeenResponse → Type 0
IsWritten id head (Short it) response = response ≡ short_response id it
IsWritten id head (Whole text) response = text.items ≡ sent head response

-- the text is written, or want of memory
abbrev pub IsWhole : {E : Type 0} → Result Buffer E → Outcome → Written → Type 0
IsWhole (Ok text) outcome w = (outcome ≡ Answered) × (w ≡ Whole text)
IsWhole (Err e) outcome w = (outcome ≡ OutcomeNoMemory) × (w ≡ Short OutOfMemory)

-- the ID of the repository that a call is on
abbrev pub id_of : Call → List ℕ
id_of Protocol = []
id_of (Repositories form) = []
id_of (On id op form) = id

-- By what came of the entries of a call, a request has this outcome, and the response that is written.
abbrev pub Finishes : Head → List (List ℕ) → Call → Entered → Outcome → Written → Type 0
Finishes head names c entered outcome w = (g : Ground) (r : SeenRequest) (repo : ℕ) (places : List ℕ) → IsCallOf r g.names (Ok c) → repo ≡ repo_of g.names c
    → g.names ≡ names → r.head ≡ head → IsEntered g repo c places entered
    → (it : SeenResponse) × IsRight g r repo outcome places it × IsWritten (id_of c) head w it

-- A request was answered: its marks, which name this repository, how the journals went on, its outcome and its response.
pub record Answers (g : Ground) (old : Journals) (r : SeenRequest) (repo : ℕ) (marks marks' : List Mark) (outcome : Outcome) (response : SeenResponse) : Type 0 where
  pub places : List ℕ
  pub marks_are : marks' ≡ marks ++ map (mark_at repo) places
  pub moves : Moves g.seats old g.journals (map (mark_at repo) places)
  pub room : Below g.limits.places (map (mark_at repo) places)
  pub right : IsRight g r repo outcome places response

-- the same, and what is written for it
abbrev pub AnswersBy : Ground → Journals → SeenRequest → List Mark → List Mark → AnsweredRequest → Type 0
AnswersBy g old r marks marks' it = (response : SeenResponse) × Answers g old r it.repo marks marks' it.outcome response
    × (it.repo < length g.names) × ((id : List ℕ) → slice_get g.names it.repo ≡ Some id → IsWritten id r.head it.text response)

-- memory was wanted before any entry was made
abbrev pub IsLack : AnsweredRequest → Type 0
IsLack it = (it.repo ≡ 0) × (it.outcome ≡ OutcomeNoMemory) × (it.text ≡ Short OutOfMemory)

-- this response is written for a request without entries, with this outcome, unless memory was wanted
abbrev pub IsAnswered : Head → SeenResponse → Outcome → AnsweredRequest → Type 0
IsAnswered head response outcome it =
    ((it.repo ≡ 0) × (it.outcome ≡ outcome) × (text : Buffer) × (it.text ≡ Whole text) × (text.items ≡ sent head response)) ⊎ IsLack it
