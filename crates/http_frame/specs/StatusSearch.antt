-- The steps of the search for the head of a response. No contract of a public call cites them.
use Rattle.std.specs.Prelude.{◌≡◌, ℕ, ◌≤◌, ◌<◌, true, List, [], ◌++◌, length, Option, Some, None}
use Rattle.httparse.specs.Spans.{IsResponseWithin, IsResponseOf}
use Rattle.httparse.specs.declared.spans.HeaderSpan.{HeaderSpan}
use Rattle.httparse.specs.declared.spans.ResponseSpans.{ResponseSpans}
use Rattle.http_frame.specs.Limits.{most_fields}
use Rattle.http_frame.specs.Search.{has_mark}
use Rattle.http_frame.specs.StatusHeads.{HasNoStatusHead}
use Rattle.http_frame.specs.Streams.{IsStream}
use Rattle.http_frame.specs.declared.lines.Line.TheVariants.{Blank}
use Rattle.http_frame.specs.declared.lines.Mark.{Mark}
use Rattle.http_frame.specs.declared.search.Front.{Front}
use Rattle.http_frame.specs.declared.search.Front.TheVariants.{Head as FrontHead, Open, Bad}
use Rattle.http_frame.specs.declared.search.Search.{Search}
use Rattle.http_frame.specs.declared.search.Search.TheVariants.{Found, End as SearchEnd, Bad as SearchBad}

-- what a look at the bytes that are there says of each stream that begins with them
abbrev pub IsStatusFront : List ℕ → List HeaderSpan → Front ResponseSpans → Type 0
IsStatusFront buf spans (FrontHead r) = IsResponseOf buf spans r × IsResponseWithin buf spans r × (r.headers ≤ most_fields)
IsStatusFront buf spans Open = HasNoStatusHead buf
IsStatusFront buf spans Bad = (0 < length buf) × ((more : List ℕ) → HasNoStatusHead (buf ++ more))

-- how the search for a head ended, where the stream is held and then left
abbrev pub IsStatusSearch : List ℕ → Option (List ℕ) → List HeaderSpan → Search ResponseSpans → Type 0
IsStatusSearch held left spans (Found r) = IsStatusFront held spans (FrontHead r)
IsStatusSearch held left spans SearchEnd = (b : List ℕ) → IsStream held left b → b ≡ []
IsStatusSearch held left spans SearchBad = (b : List ℕ) → IsStream held left b → (0 < length b) × HasNoStatusHead b

-- how the search at a mark ended; it goes on where the mark is there, and no head
abbrev pub IsStatusSearchAt : Mark → List ℕ → Option (List ℕ) → List HeaderSpan → Option (Search ResponseSpans) → Type 0
IsStatusSearchAt mark held left spans (Some search) = IsStatusSearch held left spans search
IsStatusSearchAt mark held left spans None = (has_mark mark Blank held ≡ true) × HasNoStatusHead held
