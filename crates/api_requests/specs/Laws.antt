-- What holds of the requests that are written: each is read as its call, as it is and in bytes, and each call that a request gives can be written.
use Rattle.std.specs.Prelude.{ℕ, ◌<◌, ◌^◌, List, [], length, Ok, Contains, ◌↔◌}
use Rattle.http_frame.specs.Frames.{request, IsFrame}
use Rattle.http_frame.specs.Messages.{SeenRequest}
use Rattle.http_frame.specs.RequestWire.{request_wire, IsSpelled, KeepsLimits}
use Rattle.api_calls.specs.declared.call.Call.{Call}
use Rattle.api_calls.specs.declared.call.Call.TheVariants.{Protocol, Repositories, On}
use Rattle.repo_api.specs.Calls.{IsCallOf}
use Rattle.api_requests.specs.Requests.{request_of}
use Rattle.api_requests.specs.Spellable.{IsHost, IsSpellable}

-- the repository of a call is one of these
abbrev pub IsAmongRepositories : List (List ℕ) → Call → Type 0
IsAmongRepositories repos Protocol = Unit {0}
IsAmongRepositories repos (Repositories form) = Unit {0}
IsAmongRepositories repos (On repo op form) = Contains repos repo

-- the request that is written for a spellable call is read as that call
abbrev pub WrittenIsReadBack : Type 0
WrittenIsReadBack = (call : Call) (host : List ℕ) (repos : List (List ℕ)) → IsSpellable call → IsAmongRepositories repos call
    → IsCallOf (request_of call host) repos (Ok call)

-- some request gives the call, where some repositories are there
abbrev pub IsGivenByRequest : Call → Type 0
IsGivenByRequest call = (r : SeenRequest) × (repos : List (List ℕ)) × IsCallOf r repos (Ok call)

-- a call that a request gives is spellable
abbrev pub GivenIsSpellable : Type 0
GivenIsSpellable = (r : SeenRequest) (repos : List (List ℕ)) (call : Call) → IsCallOf r repos (Ok call) → IsSpellable call

-- a call is spellable exactly where some request gives it
abbrev pub SpellableWhereGiven : Type 0
SpellableWhereGiven = (call : Call) → IsSpellable call ↔ IsGivenByRequest call

-- some bytes spell the request that is written for a call, where the length of its body is a number of 64 bits
abbrev pub RequestsAreSpelled : Type 0
RequestsAreSpelled = (call : Call) (host : List ℕ) → IsHost host → length (request_of call host).body < 2 ^ 64 → IsSpelled (request_of call host)

-- the bytes are those of one request and no more, and it is read as the call, where these repositories are there
abbrev pub IsCallInBytes : List ℕ → List (List ℕ) → Call → Type 0
IsCallInBytes b repos call = (r : SeenRequest) × IsFrame b (request r []) × IsCallOf r repos (Ok call)

-- what is written of the request for a spellable call is read as that call, where it keeps the limits
abbrev pub WrittenBytesAreReadBack : Type 0
WrittenBytesAreReadBack = (call : Call) (host : List ℕ) (repos : List (List ℕ)) → IsSpellable call → IsHost host → KeepsLimits (request_of call host)
    → IsAmongRepositories repos call → IsCallInBytes (request_wire (request_of call host)) repos call
