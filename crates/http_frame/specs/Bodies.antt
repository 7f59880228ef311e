-- Bodies (RFC 9112, sections 6 and 7.1).
use Rattle.std.specs.Prelude.{◌≡◌, ℕ, ◌<◌, List, ◌++◌, length}
use Rattle.http_frame.specs.Chunks.{IsChunkedAt, IsChunkedRefused}
use Rattle.http_frame.specs.Limits.{most_body}
use Rattle.http_frame.specs.declared.fault.FrameFault.{FrameFault}
use Rattle.http_frame.specs.declared.fault.FrameFault.TheVariants.{Truncated}
use Rattle.http_frame.specs.declared.framing.Framing.{Framing}
use Rattle.http_frame.specs.declared.framing.Framing.TheVariants.{Length, Chunked}

-- the body that is so framed stands at the front of b, and rest follows; a chunked one has no more than the most bytes
abbrev pub IsBodyWithin : ℕ → Framing → List ℕ → List ℕ → List ℕ → Type 0
IsBodyWithin most (Length n) b body rest = (length body ≡ n) × (b ≡ body ++ rest)
IsBodyWithin most Chunked b body rest = IsChunkedAt most b body rest

-- b begins with no body that is so framed, by this fault
abbrev pub IsRefusedWithin : ℕ → Framing → List ℕ → FrameFault → Type 0
IsRefusedWithin most (Length n) b fault = (fault ≡ Truncated) × (length b < n)
IsRefusedWithin most Chunked b fault = IsChunkedRefused most b fault

-- the body of a request that is so framed stands at the front of b, and rest follows
abbrev pub IsBody : Framing → List ℕ → List ℕ → List ℕ → Type 0
IsBody framed_as b body rest = IsBodyWithin most_body framed_as b body rest

-- b begins with no body of a request that is so framed, by this fault
abbrev pub IsBodyRefused : Framing → List ℕ → FrameFault → Type 0
IsBodyRefused framed_as b fault = IsRefusedWithin most_body framed_as b fault
