-- What the bytes of a session fix: whatever stands in the journals, how it ends and how many turns it has, and by what stands there, its turns and its text.
use Rattle.std.specs.Prelude.{◌≡◌, ℕ, zero, suc, ◌≤◌, ◌<◌, Bool, true, false, IsTrue, List, [], length, Option}
use Rattle.std.specs.List.{list_all}
use Rattle.journal.specs.declared.entry.Mark.{Mark}
use Rattle.journal.specs.declared.limits.Limits.{Limits}
use Rattle.http_frame.specs.Frames.{IsRequest}
use Rattle.http_frame.specs.Messages.{SeenRequest}
use Rattle.session.specs.Ends.{IsSession}
use Rattle.session.specs.Marks.{Journals, AllGrowBy}
use Rattle.session.specs.Turns.{Ground, ground}
use Rattle.session.specs.declared.report.Outcome.{Outcome}
use Rattle.session.specs.declared.report.Outcome.TheVariants.{Answered, FormRefused, JournalFull, NoMemory}
use Rattle.session.specs.declared.report.SessionEnd.{SessionEnd}
use Rattle.session.specs.declared.report.SessionEnd.TheVariants.{Done, Refused, ReadFault, WriteFault, Limit, Memory}
use Rattle.session.specs.declared.report.Turn.{Turn}

-- neither a fault nor want of memory ended the session
abbrev pub is_sound : SessionEnd → Bool
is_sound Done = true
is_sound Refused = true
is_sound ReadFault = false
is_sound WriteFault = false
is_sound Limit = true
is_sound Memory = false

-- two sessions over the same bytes that neither a fault nor want of memory ended have the same end and as many turns
abbrev pub SoundSessionsEndAlike : Type 0
SoundSessionsEndAlike = (g g' : Ground) (b : List ℕ) (left left' : Option (List ℕ)) (end end' : SessionEnd) (turns turns' : List Turn) (marks marks' : List Mark)
    (text text' : List ℕ) → IsTrue (is_sound end) → IsTrue (is_sound end') → IsSession g b left end turns marks text → IsSession g' b left' end' turns' marks' text'
    → (end ≡ end') × (length turns ≡ length turns')

-- b is so many requests, one after another, of which none but perhaps the last closes
abbrev pub AreRequests : ℕ → List ℕ → Type 0
AreRequests zero b = b ≡ []
AreRequests (suc n) b = (r : SeenRequest) × (rest : List ℕ) × IsRequest b r rest × (r.head.closes ≡ true → n ≡ 0) × AreRequests n rest

-- a session over fewer than 100,000 requests that neither a fault nor want of memory ended is done, and has a turn for each
abbrev pub WholeStreamsEndDone : Type 0
WholeStreamsEndDone = (g : Ground) (n : ℕ) (b : List ℕ) (left : Option (List ℕ)) (end : SessionEnd) (turns : List Turn) (marks : List Mark) (text : List ℕ)
    → AreRequests n b → n < 100000 → IsTrue (is_sound end) → IsSession g b left end turns marks text → (end ≡ Done) × (length turns ≡ n)

-- no want of memory answered the request
abbrev pub found_memory : Outcome → Bool
found_memory Answered = true
found_memory FormRefused = true
found_memory JournalFull = true
found_memory NoMemory = false

-- A session over the bytes b on repositories of these IDs and limits, with these seat numbers, that neither a fault nor want of memory ended, in which want
-- of memory answered no request, and whose entries alone made of the old journals the new ones, none of which has more entries than the limits allow.
pub record IsUndisturbed (names : List (List ℕ)) (limits : Limits) (seats : ℕ → ℕ) (old new : Journals) (b : List ℕ) (left : Option (List ℕ)) (end : SessionEnd)
    (turns : List Turn) (marks : List Mark) (text : List ℕ) : Type 0 where
  pub sound : IsTrue (is_sound end)
  pub memory : IsTrue (list_all (λ (t : Turn). found_memory t.outcome) turns)
  pub grow : AllGrowBy old new marks
  pub room : (repo : ℕ) → length (new repo) ≤ limits.places
  pub session : IsSession (ground names limits new seats) b left end turns marks text

-- two such sessions over the same bytes, from the same journals: what comes of them is the same
pub record AreAlike (new new' : Journals) (end end' : SessionEnd) (turns turns' : List Turn) (marks marks' : List Mark) (text text' : List ℕ) : Type 0 where
  pub same_end : end ≡ end'
  pub same_turns : turns ≡ turns'
  pub same_marks : marks ≡ marks'
  pub same_text : text ≡ text'
  pub same_journals : (repo : ℕ) → new repo ≡ new' repo

-- So the turns of an undisturbed session, its marks, its end, the journals behind it and the text that it writes are a function of the bytes.
abbrev pub UndisturbedSessionsAreAlike : Type 0
UndisturbedSessionsAreAlike = (names : List (List ℕ)) (limits : Limits) (seats : ℕ → ℕ) (old old' new new' : Journals) (b : List ℕ) (left left' : Option (List ℕ))
    (end end' : SessionEnd) (turns turns' : List Turn) (marks marks' : List Mark) (text text' : List ℕ) → ((repo : ℕ) → old repo ≡ old' repo)
    → IsUndisturbed names limits seats old new b left end turns marks text → IsUndisturbed names limits seats old' new' b left' end' turns' marks' text'
    → AreAlike new new' end end' turns turns' marks marks' text text'
