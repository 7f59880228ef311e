-- Worked cases of the definitions, by computation.
use Rattle.std.proofs.Common.{◌≡◌, refl, [], ◌∷◌, true, false, Some, None, Ok, Err, codes}
use Rattle.httparse.specs.Grammar.{trim_ows}
use Rattle.journal.specs.declared.level.Level.TheVariants.{SnapshotRead, Snapshot}
use Rattle.journal.specs.declared.txn.Txn.{Txn}
use Rattle.nquads_line.specs.declared.kind.Kind.TheVariants.{Triples}
use Rattle.api_calls.specs.declared.fault.ApiFault.TheVariants as faults
use Rattle.api_calls.specs.declared.fault.Allow.TheVariants as allow
use Rattle.repo_api.specs.declared.resource.Part.TheVariants.{Namespaces, Size}
use Rattle.repo_api.specs.declared.resource.Resource.TheVariants.{Of}
use Rattle.repo_api.specs.declared.method.Method.TheVariants.{Get, Put}
use Rattle.repo_api.specs.declared.task.Task.TheVariants as tasks
use Rattle.repo_api.specs.Accepts.{accept_of}
use Rattle.repo_api.specs.Content.{is_coded, type_of, kind_of}
use Rattle.repo_api.specs.Parameters.{level_by, is_sparql}
use Rattle.repo_api.specs.Queries.{only}
use Rattle.repo_api.specs.Resources.{segments_of, method_of}
use Rattle.repo_api.specs.Tasks.{bad, task_at, task_of_actions}

-- the path of a repository's namespaces, and what methods ask of it
paths : segments_of (Of (codes "r") Namespaces) ≡ [] ∷ codes "rdf4j-server" ∷ codes "repositories" ∷ codes "r" ∷ codes "namespaces" ∷ []
paths = refl

asked : (task_at Namespaces (Some Get) ≡ Ok tasks.ListNames) × (task_at Namespaces (Some Put) ≡ Err (faults.Method allow.GetDelete))
    × (task_at Size None ≡ Err (faults.Method allow.Get))
asked = (refl, refl, refl)

-- methods tell their case apart
methods : (method_of (codes "PUT") ≡ Some Put) × (method_of (codes "put") ≡ None)
unfolding lib.Utf8.encode
methods = (refl, refl)

abbrev txn : Txn
txn = record { place = 3; level = Snapshot }

-- an action stands exactly once, in capitals
actions : (task_of_actions txn (codes "COMMIT" ∷ []) ≡ Ok (tasks.Commit txn)) × (task_of_actions txn (codes "commit" ∷ []) ≡ Err (bad (codes "action")))
    × (task_of_actions txn [] ≡ Err (bad (codes "action"))) × (task_of_actions txn (codes "PING" ∷ codes "PING" ∷ []) ≡ Err (bad (codes "action")))
actions = (refl, refl, refl, refl)

-- identity is no coding, in any case and number
codings : (is_coded ((codes "content-encoding", codes "identity, Identity") ∷ []) ≡ false)
    × (is_coded ((codes "Content-Encoding", codes "identity, gzip") ∷ []) ≡ true)
unfolding trim_ows
codings = (refl, refl)

-- parameters of a media type don't count, and two fields say none
types : (kind_of (type_of ((codes "Content-Type", codes "text/plain ;charset=UTF-8") ∷ [])) ≡ Ok Triples)
    × (kind_of (type_of ((codes "Content-Type", codes "text/plain") ∷ (codes "content-type", codes "text/plain") ∷ [])) ≡ Err faults.Media)
unfolding trim_ows
types = (refl, refl)

-- several Accept fields are one value
joined : accept_of ((codes "Accept", codes "text/csv") ∷ (codes "Host", codes "h") ∷ (codes "ACCEPT", codes "text/plain") ∷ []) ≡ codes "text/csv,text/plain"
joined = refl

-- what is absent, and what stands twice
levels : (level_by [] ≡ Ok SnapshotRead) × (level_by (codes "NONE" ∷ codes "NONE" ∷ []) ≡ Err (bad (codes "isolation-level")))
levels = (refl, refl)

queries : (is_sparql [] ≡ true) × (is_sparql (codes "SPARQL" ∷ []) ≡ true) × (only (codes "ASK{}" ∷ codes "ASK{}" ∷ []) ≡ Err (bad (codes "query")))
queries = (refl, refl, refl)
