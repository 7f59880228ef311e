-- The steps of the search for the head of a request. No contract of a public call cites them.
use Rattle.std.specs.Prelude.{◌≡◌, ℕ, ◌≤◌, ◌<◌, ◌==◌, ◌||◌, Bool, true, false, List, [], ◌∷◌, ◌++◌, length, fold, Option, Some, None, if◌then◌else◌}
use Rattle.httparse.specs.Spans.{IsRequestWithin, IsRequestOf}
use Rattle.httparse.specs.declared.spans.HeaderSpan.{HeaderSpan}
use Rattle.httparse.specs.declared.spans.RequestSpans.{RequestSpans}
use Rattle.http_frame.specs.Heads.{HasNoHead}
use Rattle.http_frame.specs.Limits.{most_head, most_fields}
use Rattle.http_frame.specs.Streams.{IsStream}
use Rattle.http_frame.specs.declared.lines.Line.{Line}
use Rattle.http_frame.specs.declared.lines.Line.TheVariants.{Blank, First, Start, Return, Inside}
use Rattle.http_frame.specs.declared.lines.Mark.{Mark}
use Rattle.http_frame.specs.declared.lines.Mark.TheVariants.{FirstLine, Section}
use Rattle.http_frame.specs.declared.search.Front.{Front}
use Rattle.http_frame.specs.declared.search.Front.TheVariants.{Head as FrontHead, Open, Bad}
use Rattle.http_frame.specs.declared.search.Wait.{Wait}
use Rattle.http_frame.specs.declared.search.Wait.TheVariants.{Marked, Full, Ended}
use Rattle.http_frame.specs.declared.search.Search.{Search}
use Rattle.http_frame.specs.declared.search.Search.TheVariants.{Found, End as SearchEnd, Bad as SearchBad}

-- where one more byte leaves a reader of lines
abbrev pub line_after : Line → ℕ → Line
line_after Blank b = if b == 10 || b == 13 then Blank else First
line_after First b = if b == 10 then Start else First
line_after Start b = if b == 10 then Start else if b == 13 then Return else Inside
line_after Return b = if b == 10 then Start else Inside
line_after Inside b = if b == 10 then Start else Inside

-- the byte ends the first line that is not empty, or an empty line behind it
abbrev pub is_mark : Mark → Line → ℕ → Bool
is_mark FirstLine First b = b == 10
is_mark FirstLine Blank b = false
is_mark FirstLine Start b = false
is_mark FirstLine Return b = false
is_mark FirstLine Inside b = false
is_mark Section Start b = b == 10
is_mark Section Return b = b == 10
is_mark Section Blank b = false
is_mark Section First b = false
is_mark Section Inside b = false

-- where more bytes leave a reader of lines
abbrev pub line_behind : Line → List ℕ → Line
line_behind line bytes = fold line_after line bytes

-- the bytes hold such a mark
abbrev pub has_mark : Mark → Line → List ℕ → Bool
has_mark mark line [] = false
has_mark mark line (b ∷ bytes) = is_mark mark line b || has_mark mark (line_after line b) bytes

-- whether bytes hold a mark, and where else they leave a reader of lines
abbrev pub IsScan : Mark → Line → List ℕ → Option Line → Type 0
IsScan mark line bytes None = has_mark mark line bytes ≡ true
IsScan mark line bytes (Some behind) = (has_mark mark line bytes ≡ false) × (behind ≡ line_behind line bytes)

-- what a look at the bytes that are there says of each stream that begins with them
abbrev pub IsFront : List ℕ → List HeaderSpan → Front RequestSpans → Type 0
IsFront buf spans (FrontHead r) = IsRequestOf buf spans r × IsRequestWithin buf spans r × (r.headers ≤ most_fields)
IsFront buf spans Open = HasNoHead buf
IsFront buf spans Bad = (0 < length buf) × ((more : List ℕ) → HasNoHead (buf ++ more))

-- how a wait for a mark ended
abbrev pub Waits : Mark → List ℕ → Option (List ℕ) → Wait → Type 0
Waits mark held left Marked = has_mark mark Blank held ≡ true
Waits mark held left Full = (has_mark mark Blank held ≡ false) × (most_head ≤ length held)
Waits mark held left Ended = (has_mark mark Blank held ≡ false) × ((rest : List ℕ) → left ≡ Some rest → rest ≡ [])

-- how the search for a head ended, where the stream is held and then left
abbrev pub IsSearch : List ℕ → Option (List ℕ) → List HeaderSpan → Search RequestSpans → Type 0
IsSearch held left spans (Found r) = IsFront held spans (FrontHead r)
IsSearch held left spans SearchEnd = (b : List ℕ) → IsStream held left b → b ≡ []
IsSearch held left spans SearchBad = (b : List ℕ) → IsStream held left b → (0 < length b) × HasNoHead b

-- how the search at a mark ended; it goes on where the mark is there, and no head
abbrev pub IsSearchAt : Mark → List ℕ → Option (List ℕ) → List HeaderSpan → Option (Search RequestSpans) → Type 0
IsSearchAt mark held left spans (Some search) = IsSearch held left spans search
IsSearchAt mark held left spans None = (has_mark mark Blank held ≡ true) × HasNoHead held
