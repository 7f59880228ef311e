-- The resources of the interface, by their paths, and the methods of requests.
use Rattle.std.specs.Prelude.{◌≡◌, ℕ, Bool, List, [], ◌∷◌, Option, Some, None, Result, Ok, Err, if◌then◌else◌, codes, encode_utf8_all, Contains}
use Rattle.std.specs.Str.{bytes_eq}
use Rattle.api_calls.specs.declared.fault.ApiFault.{ApiFault}
use Rattle.api_calls.specs.declared.fault.ApiFault.TheVariants as faults
use Rattle.api_parts.specs.Parameters.{path_of}
use Rattle.api_paths.specs.Targets.{origin_form, segments}
use Rattle.repo_api.specs.declared.resource.Part.{Part}
use Rattle.repo_api.specs.declared.resource.Part.TheVariants.{Queries, Statements, Contexts, Size, Namespaces, Namespace, Transactions}
use Rattle.repo_api.specs.declared.resource.Resource.{Resource}
use Rattle.repo_api.specs.declared.resource.Resource.TheVariants.{Protocol, Repositories, Of, Transaction}
use Rattle.repo_api.specs.declared.method.Method.{Method}
use Rattle.repo_api.specs.declared.method.Method.TheVariants.{Get, Post, Put, Delete}

-- the segments below a repository
abbrev pub segments_below : Part → List (List ℕ)
segments_below Queries = []
segments_below Statements = codes "statements" ∷ []
segments_below Contexts = codes "contexts" ∷ []
segments_below Size = codes "size" ∷ []
segments_below Namespaces = codes "namespaces" ∷ []
segments_below (Namespace prefix) = codes "namespaces" ∷ prefix ∷ []
segments_below Transactions = codes "transactions" ∷ []

-- those of /rdf4j-server/repositories and behind it
abbrev pub behind_repositories : List (List ℕ) → List (List ℕ)
behind_repositories more = [] ∷ codes "rdf4j-server" ∷ codes "repositories" ∷ more

-- the segments of each resource's path; the one in front of the first `/` is empty
abbrev pub segments_of : Resource → List (List ℕ)
segments_of Protocol = [] ∷ codes "rdf4j-server" ∷ codes "protocol" ∷ []
segments_of Repositories = behind_repositories []
segments_of (Of id part) = behind_repositories (id ∷ segments_below part)
segments_of (Transaction id name) = behind_repositories (id ∷ codes "transactions" ∷ name ∷ [])

-- the segments of a target's path
abbrev pub path_segments : List ℕ → Option (List (List ℕ))
path_segments target = segments (path_of (origin_form target))

-- the target is the resource's
abbrev pub Names : List ℕ → Resource → Type 0
Names target resource = path_segments target ≡ Some (segments_of resource)

-- the resource that a target names
abbrev pub IsResource : List ℕ → Result Resource ApiFault → Type 0
IsResource target (Ok resource) = Names target resource
IsResource target (Err fault) = ((resource : Resource) → Names target resource → ⊥) × (fault ≡ faults.NoResource)

-- the repository is one of these
abbrev pub IsThere : List (List ℕ) → List ℕ → Result (Unit {0}) ApiFault → Type 0
IsThere repos id (Ok it) = Contains repos id
IsThere repos id (Err fault) = (Contains repos id → ⊥) × (fault ≡ faults.NoRepository)

-- the text is written so in UTF-8
abbrev pub is_text : List ℕ → List ℕ → Bool
is_text text wanted = bytes_eq (encode_utf8_all text) wanted

-- a method that some resource has, in capitals
abbrev pub method_of : List ℕ → Option Method
method_of method =
    if is_text method (codes "GET") then Some Get
    else if is_text method (codes "POST") then Some Post
    else if is_text method (codes "PUT") then Some Put
    else if is_text method (codes "DELETE") then Some Delete
    else None
