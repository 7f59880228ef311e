-- The sessions of the workload.
use Rattle.std.specs.Prelude.{ℕ, zero, suc, ◌%◌, ◌==◌, List, [], ◌∷◌, ◌++◌, if◌then◌else◌}
use Rattle.std.specs.List.{flat_map}
use Rattle.workload.specs.Requests.{request_bytes}
use Rattle.workload.specs.declared.requests.RequestKind.{RequestKind}
use Rattle.workload.specs.declared.requests.RequestKind.TheVariants.{Begin, Add, Commit, Copy, Delete}

-- The requests of a round: a transaction that adds the round's line, the same line once more for all, and every fourth round the subject of that line
-- is deleted there.
abbrev pub requests_in : ℕ → List RequestKind
requests_in round = Begin ∷ Add ∷ Commit ∷ Copy ∷ (if round % 4 == 3 then Delete ∷ [] else [])

unfoldable pub round_bytes : ℕ → ℕ → List ℕ
round_bytes session round = flat_map (request_bytes session round) (requests_in round)

-- the bytes of a session: those of its rounds, from 0 on
abbrev pub session_bytes : (session rounds : ℕ) → List ℕ
session_bytes session zero = []
session_bytes session (suc rounds) = session_bytes session rounds ++ round_bytes session rounds
