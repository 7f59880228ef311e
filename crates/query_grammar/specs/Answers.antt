-- What a call answers: the query that the tokens are, or the fault at their first refused token; or want of memory, at any time.
use Rattle.std.specs.Prelude.{◌≡◌, ℕ, List, ◌∷◌, map, Option, Some, None, slice_get}
use Rattle.std.specs.declared.result.Result.{Result}
use Rattle.std.specs.declared.result.Result.TheVariants.{Ok, Err}
use Rattle.query_tokens.specs.declared.token.Token.{Token}
use Rattle.query_tokens.specs.declared.token.Placed.{Placed}
use Rattle.query_model.specs.declared.query.Query.{Query}
use Rattle.query_grammar.specs.declared.fault.Kind.{Kind}
use Rattle.query_grammar.specs.declared.fault.Kind.TheVariants as kind
use Rattle.query_grammar.specs.declared.fault.Stop.{Stop}
use Rattle.query_grammar.specs.declared.fault.Stop.TheVariants as stop
use Rattle.query_grammar.specs.declared.fault.QueryFault.{QueryFault}
use Rattle.query_grammar.specs.declared.fault.QueryFault.TheVariants as fault
use Rattle.query_grammar.specs.declared.mode.Mode.{Mode}
use Rattle.query_grammar.specs.declared.built.Built.{Built}
use Rattle.query_grammar.specs.Runs.{run, later}

-- the tokens without their places
abbrev pub tokens_of : List Placed → List Token
tokens_of ps = map (λ (p : Placed). p.token) ps

-- the byte at which the token of this number begins, from 0; the end of the text behind the last one
abbrev pub start_or : ℕ → Option Placed → ℕ
start_or end None = end
start_or end (Some p) = p.start

abbrev pub start_of : List Placed → ℕ → ℕ → ℕ
start_of ps end n = start_or end (slice_get ps n)

abbrev pub fault_at : Kind → ℕ → QueryFault
fault_at kind.BadAt at = fault.BadAt at
fault_at kind.Unsupported at = fault.Unsupported at
fault_at kind.UnknownPrefix at = fault.UnknownPrefix at

-- unless memory ran out, the answer is this query
abbrev pub GivesQuery : Result Query QueryFault → Query → Type 0
GivesQuery (Ok p) q = p ≡ q
GivesQuery (Err e) q = e ≡ fault.Memory

-- unless memory ran out, the answer is this fault
abbrev pub IsOrMemory : QueryFault → QueryFault → Type 0
IsOrMemory fault.Memory e = Unit {0}
IsOrMemory f e = f ≡ e

abbrev pub GivesFault : Result Query QueryFault → QueryFault → Type 0
GivesFault (Ok q) e = ⊥
GivesFault (Err f) e = IsOrMemory f e

-- where it stops, by the byte at which the token begins
abbrev pub located : List Placed → ℕ → Result Query (ℕ × Kind) → Result Query (ℕ × Kind)
located ps end (Ok q) = Ok q
located ps end (Err e) = Err (start_of ps end e.0, e.1)

-- unless memory ran out, the code stops so
abbrev pub Stops : Stop → Result Query (ℕ × Kind) → Type 0
Stops stop.Memory r = Unit {0}
Stops (stop.Refused at k) r = r ≡ Err (at, k)

abbrev pub Gives : Result Query Stop → Result Query (ℕ × Kind) → Type 0
Gives (Ok q) r = r ≡ Ok q
Gives (Err e) r = Stops e r

-- unless memory ran out, a token leads there, or the reading stops at it, whatever stands behind it
abbrev pub Leads : Mode → Built → Placed → Result Mode Stop → Built → Type 0
Leads m b p (Ok m') b' = (ts : List Token) → run m b (p.token ∷ ts) ≡ later (run m' b' ts)
Leads m b p (Err stop.Memory) b' = Unit {0}
Leads m b p (Err (stop.Refused at k)) b' = (at ≡ p.start) × ((ts : List Token) → run m b (p.token ∷ ts) ≡ Err (0, k))
