-- How a session ends, and all that it writes.
use Rattle.std.specs.Prelude.{◌≡◌, ◌⊎◌, ℕ, ◌≤◌, ◌<◌, Bool, true, false, List, [], ◌++◌, length, Option}
use Rattle.journal.specs.declared.entry.Mark.{Mark}
use Rattle.session.specs.Refusals.{IsRefusal, IsGone, IsCutOff}
use Rattle.rdf_io.specs.Sending.{IsPartOf}
use Rattle.session.specs.Turns.{Ground, Turns}
use Rattle.session.specs.declared.report.SessionEnd.{SessionEnd}
use Rattle.session.specs.declared.report.SessionEnd.TheVariants.{Done, Refused, ReadFault, WriteFault, Limit, Memory}
use Rattle.session.specs.declared.report.Turn.{Turn}

-- How a session ends behind these turns, which wrote body, where rest is behind them and the source has left these bytes, and all that it wrote.
abbrev pub Ends : (turns : List Turn) → (body : List ℕ) → (closed : Bool) → (rest : List ℕ) → (left : Option (List ℕ)) → SessionEnd → List ℕ → Type 0
-- the last request closes, or the bytes end between two requests
Ends turns body true rest left Done text = (text ≡ body) × (length turns ≤ 100000)
Ends turns body false rest left Done text = (text ≡ body) × (length turns < 100000) × (rest ≡ [])
-- as many requests were answered as a session may have, and none closes
Ends turns body closed rest left Limit text = (text ≡ body) × (closed ≡ false) × (length turns ≡ 100000)
-- a frame is refused
Ends turns body closed rest left Refused text = (closed ≡ false) × (length turns < 100000) × (tail : List ℕ) × IsRefusal rest tail × (text ≡ body ++ tail)
-- the source failed
Ends turns body closed rest left ReadFault text = (closed ≡ false) × (length turns < 100000) × (tail : List ℕ) × IsCutOff rest left tail × (text ≡ body ++ tail)
-- the sink failed: a first part went out of what the turns write, of that with a refusal, or of that with the last words of a session without memory
Ends turns body closed rest left WriteFault text = ((length turns ≤ 100000) × IsPartOf text body)
    ⊎ ((closed ≡ false) × (length turns < 100000) × (tail : List ℕ) × (IsRefusal rest tail ⊎ IsGone rest tail) × IsPartOf text (body ++ tail))
-- memory was wanted: for the buffers of the session, and then nothing is written; or later
Ends turns body closed rest left Memory text = (closed ≡ false) × (length turns < 100000)
    × (((turns ≡ []) × (text ≡ [])) ⊎ ((tail : List ℕ) × IsGone rest tail × (text ≡ body ++ tail)))

-- a session over the bytes b, of which the source has left these: how it ended, its turns and marks, and what it wrote
pub record IsSession (g : Ground) (b : List ℕ) (left : Option (List ℕ)) (end : SessionEnd) (turns : List Turn) (marks : List Mark) (text : List ℕ) : Type 0 where
  pub body : List ℕ
  pub closed : Bool
  pub rest : List ℕ
  pub all : Turns g false b turns marks body closed rest
  pub ends : Ends turns body closed rest left end text
