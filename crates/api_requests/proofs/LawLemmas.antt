-- A call is spellable exactly where some request gives it, and what is written of its request is read as it.
use Rattle.std.proofs.Common.{◌≡◌, ◌<◌, ◌≤◌, ◌^◌, ℕ, List, [], ◌∷◌, Ok, refl, sym, ap, ◌∙◌, subst, arith, length}
use Rattle.api_calls.specs.declared.call.Call.{Call}
use Rattle.api_calls.specs.declared.call.Call.TheVariants.{Protocol, Repositories, On}
use Rattle.http_frame.specs.Laws.{WrittenIsFrame}
use Rattle.http_frame.specs.Messages.{SeenRequest}
use Rattle.http_frame.specs.RequestWire.{IsSpelled}
use Rattle.api_requests.specs.Laws.{IsAmongRepositories, GivenIsSpellable, RequestsAreSpelled, SpellableWhereGiven, WrittenBytesAreReadBack, WrittenIsReadBack}
use Rattle.api_requests.specs.Requests.{SeenSending, request_of, request_with, sent}
use Rattle.api_requests.specs.Spellable.{IsHost}

-- the repository of a call, where it has one
abbrev repositories_of : Call → List (List ℕ)
repositories_of Protocol = []
repositories_of (Repositories form) = []
repositories_of (On repo op form) = repo ∷ []

among : (call : Call) → IsAmongRepositories (repositories_of call) call
among Protocol = tt
among (Repositories form) = tt
among (On repo op form) = (0, omega arith, refl)

pub where_given : WrittenIsReadBack → GivenIsSpellable → SpellableWhereGiven
where_given read given call =
    (λ x. (request_of call [], repositories_of call, read call [] (repositories_of call) x (among call)), λ y. given y.0 y.1 call y.2)

-- what holds of the request of a call holds of the one that is written
pub of_written : (P : SeenRequest → Type 0) (call : Call) (host : List ℕ) (sending : SeenSending) (it : SeenRequest) → sending ≡ sent call → it ≡ request_with host sending
    → P (request_of call host) → P it
of_written P call host sending it same is p = subst P (sym (is ∙ ap (request_with host) same)) p

-- and it is spelled
pub spelled_of : RequestsAreSpelled → (call : Call) (host : List ℕ) → IsHost host → (sending : SeenSending) (it : SeenRequest) → sending ≡ sent call → it ≡ request_with host sending
    → length it.body < 2 ^ 64 → IsSpelled it
spelled_of spelled call host to sending it same is fits =
    let few : length (request_of call host).body < 2 ^ 64 = subst (λ (r : SeenRequest). length r.body < 2 ^ 64) (is ∙ ap (request_with host) same) fits in
    of_written IsSpelled call host sending it same is (spelled call host to few)

-- a call is read from the bytes of its request
pub in_bytes : WrittenIsReadBack → RequestsAreSpelled → WrittenIsFrame → WrittenBytesAreReadBack
in_bytes read spelled frame call host repos is to keeps there =
    let few = keeps.body in
    (request_of call host, frame (request_of call host) (spelled call host to (omega arith)) keeps, read call host repos is there)
