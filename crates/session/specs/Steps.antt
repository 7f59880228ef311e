-- The steps of a session. No contract of a public call cites it.
use Rattle.std.specs.Prelude.{◌≡◌, ◌⊎◌, ℕ, ◌≤◌, Bool, true, false, List, [], ◌∷◌, ◌++◌, length, map, Option}
use Rattle.rdf_term.specs.Buffer.{Buffer}
use Rattle.journal.specs.declared.entry.Mark.{Mark}
use Rattle.http_frame.specs.Messages.{SeenRequest, SeenResponse}
use Rattle.http_frame.specs.Streams.{IsStream}
use Rattle.http_frame.specs.declared.fault.FrameFault.{FrameFault}
use Rattle.http_frame.specs.declared.fault.FrameFault.TheVariants.{BadHead, BadHost, BadBody, BodyTooLong, Coding, Truncated, ReadFault as ReadFrame, Memory as FrameMemory}
use Rattle.session.specs.Causes.{source_broke, sink_broke}
use Rattle.session.specs.Marks.{Journals, Below, Moves, mark_at}
use Rattle.session.specs.Refusals.{IsRefusal, IsGone, IsCutOff, gone_text, refusal_text}
use Rattle.rdf_io.specs.Sending.{IsPartOf}
use Rattle.session.specs.Turns.{Ground, IsRight, IsTurn, turn_marks, turn_text, sent}
use Rattle.session.specs.declared.report.SessionEnd.{SessionEnd}
use Rattle.session.specs.declared.report.SessionEnd.TheVariants.{Done, Refused, ReadFault, WriteFault, Limit, Memory}
use Rattle.session.specs.declared.report.Turn.{Turn}
use Rattle.session.specs.declared.requests.Step.{Step}
use Rattle.session.specs.declared.requests.Step.TheVariants.{Answered, Closed, Lost, Stopped}

-- the buffer of short answers is empty and has its room
pub record IsRoom (b : Buffer) : Type 0 where
  pub items : b.items ≡ []
  pub spare : 1024 ≤ b.spare

-- the last words of a session without memory, as far as they were written
abbrev pub IsGoing : List ℕ → SessionEnd → Type 0
IsGoing text Memory = text ≡ gone_text
IsGoing text WriteFault = IsPartOf text gone_text
IsGoing text Done = ⊥
IsGoing text Refused = ⊥
IsGoing text ReadFault = ⊥
IsGoing text Limit = ⊥

-- the response to a frame that is refused with this fault, as far as it was written
abbrev pub IsRefusing : FrameFault → List ℕ → SessionEnd → Type 0
IsRefusing fault text Refused = text ≡ refusal_text fault
IsRefusing fault text Memory = text ≡ gone_text
IsRefusing fault text WriteFault = IsPartOf text (refusal_text fault) ⊎ IsPartOf text gone_text
IsRefusing fault text Done = ⊥
IsRefusing fault text ReadFault = ⊥
IsRefusing fault text Limit = ⊥

-- the end at a fault of the frames, and what is written for it
abbrev pub IsStopping : FrameFault → List ℕ → SessionEnd → Type 0
IsStopping ReadFrame text end = (end ≡ ReadFault) × (text ≡ [])
IsStopping FrameMemory text end = IsGoing text end
IsStopping fault text end = IsRefusing fault text end

abbrev pub is_read_fault : FrameFault → Bool
is_read_fault ReadFrame = true
is_read_fault BadHead = false
is_read_fault BadHost = false
is_read_fault BadBody = false
is_read_fault BodyTooLong = false
is_read_fault Coding = false
is_read_fault Truncated = false
is_read_fault FrameMemory = false

-- a turn was made of a request
pub record MakesTurn (g : Ground) (r : SeenRequest) (turns turns' : List Turn) (marks marks' : List Mark) : Type 0 where
  pub turn : Turn
  pub repo : ℕ
  pub places : List ℕ
  pub answer : SeenResponse
  pub turns_are : turns' ≡ turns ++ turn ∷ []
  pub marks_are : marks' ≡ marks ++ map (mark_at repo) places
  pub count : turn.marks ≡ length places
  pub right : IsRight g r repo turn.outcome places answer

-- a framed request was served, and this is written for it
abbrev pub IsServed : Ground → SeenRequest → List Turn → List Turn → List Mark → List Mark → List ℕ → Step → Type 0
IsServed g r turns turns' marks marks' text Answered =
    (made : MakesTurn g r turns turns' marks marks') × (r.head.closes ≡ false) × (text ≡ sent r.head made.answer)
IsServed g r turns turns' marks marks' text Closed =
    (made : MakesTurn g r turns turns' marks marks') × (r.head.closes ≡ true) × (text ≡ sent r.head made.answer)
IsServed g r turns turns' marks marks' text Lost = (made : MakesTurn g r turns turns' marks marks') × IsPartOf text (sent r.head made.answer)
IsServed g r turns turns' marks marks' text (Stopped end) = (turns' ≡ turns) × (marks' ≡ marks) × IsGoing text end

-- a request that has no turn: how the session ends there, and what is written
abbrev pub IsStop : List ℕ → Option (List ℕ) → SessionEnd → List ℕ → Type 0
IsStop b left Done text = (b ≡ []) × (text ≡ [])
IsStop b left Refused text = IsRefusal b text
IsStop b left ReadFault text = IsCutOff b left text
IsStop b left WriteFault text = (whole : List ℕ) × (IsRefusal b whole ⊎ IsGone b whole) × IsPartOf text whole
IsStop b left Memory text = IsGone b text
IsStop b left Limit text = ⊥

-- One step over the stream b: the lists of turns and marks before and after it, what is written, and the stream after it.
abbrev pub IsStep : Ground → List ℕ → List Turn → List Turn → List Mark → List Mark → List ℕ → List ℕ → Option (List ℕ) → Step → Type 0
IsStep g b turns turns' marks marks' text held left Answered = (t : Turn) × (one : IsTurn g b t) × (turns' ≡ turns ++ t ∷ []) × (marks' ≡ marks ++ turn_marks one)
    × (text ≡ turn_text one) × (one.request.head.closes ≡ false) × IsStream held left one.rest
IsStep g b turns turns' marks marks' text held left Closed = (t : Turn) × (one : IsTurn g b t) × (turns' ≡ turns ++ t ∷ []) × (marks' ≡ marks ++ turn_marks one)
    × (text ≡ turn_text one) × (one.request.head.closes ≡ true)
IsStep g b turns turns' marks marks' text held left Lost = (t : Turn) × (one : IsTurn g b t) × (turns' ≡ turns ++ t ∷ []) × (marks' ≡ marks ++ turn_marks one)
    × IsPartOf text (turn_text one)
IsStep g b turns turns' marks marks' text held left (Stopped end) = (turns' ≡ turns) × (marks' ≡ marks) × IsStop b left end text

abbrev pub sink_broke_in : Step → Bool
sink_broke_in Answered = false
sink_broke_in Closed = false
sink_broke_in Lost = true
sink_broke_in (Stopped end) = sink_broke end

abbrev pub source_broke_in : Step → Bool
source_broke_in Answered = false
source_broke_in Closed = false
source_broke_in Lost = false
source_broke_in (Stopped end) = source_broke end

-- some new marks of a seat, each below this place
abbrev pub Marked : ℕ → (ℕ → ℕ) → Journals → Journals → List Mark → List Mark → Type 0
Marked most seats old new marks marks' = (mine : List Mark) × (marks' ≡ marks ++ mine) × Moves seats old new mine × Below most mine
