-- Resources as their segments are read, from the front. No contract of a public call cites it.
use Rattle.std.specs.Prelude.{ℕ, List, [], ◌∷◌, Option, Some, None, if◌then◌else◌, codes}
use Rattle.repo_api.specs.declared.resource.Part.{Part}
use Rattle.repo_api.specs.declared.resource.Part.TheVariants.{Queries, Statements, Contexts, Size, Namespaces, Namespace, Transactions}
use Rattle.repo_api.specs.declared.resource.Resource.{Resource}
use Rattle.repo_api.specs.declared.resource.Resource.TheVariants.{Protocol, Repositories, Of, Transaction}
use Rattle.repo_api.specs.Resources.{is_text}

-- the part of a name
abbrev pub part_named : List ℕ → Option Part
part_named name =
    if is_text name (codes "statements") then Some Statements
    else if is_text name (codes "contexts") then Some Contexts
    else if is_text name (codes "size") then Some Size
    else if is_text name (codes "namespaces") then Some Namespaces
    else if is_text name (codes "transactions") then Some Transactions
    else None

abbrev pub of_part : List ℕ → Option Part → Option Resource
of_part id None = None
of_part id (Some part) = Some (Of id part)

-- what two segments behind a repository's name
abbrev pub nested : List ℕ → List ℕ → List ℕ → Option Resource
nested id name inner =
    if is_text name (codes "namespaces") then Some (Of id (Namespace inner))
    else if is_text name (codes "transactions") then Some (Transaction id inner)
    else None

-- what the segments behind a repository's ID name
abbrev pub in_repository : List ℕ → List (List ℕ) → Option Resource
in_repository id [] = Some (Of id Queries)
in_repository id (name ∷ []) = of_part id (part_named name)
in_repository id (name ∷ inner ∷ []) = nested id name inner
in_repository id (name ∷ inner ∷ more ∷ rest) = None

-- what one segment behind /rdf4j-server names
abbrev pub top : List ℕ → Option Resource
top name =
    if is_text name (codes "protocol") then Some Protocol
    else if is_text name (codes "repositories") then Some Repositories
    else None

-- what the segments behind /rdf4j-server name
abbrev pub in_server : List (List ℕ) → Option Resource
in_server [] = None
in_server (name ∷ []) = top name
in_server (name ∷ id ∷ rest) = if is_text name (codes "repositories") then in_repository id rest else None

-- the first segment is empty, and the second one is the server's
abbrev pub below : List ℕ → List ℕ → List (List ℕ) → Option Resource
below front server rest =
    if is_text front [] then (if is_text server (codes "rdf4j-server") then in_server rest else None) else None

abbrev pub resource_at : List (List ℕ) → Option Resource
resource_at [] = None
resource_at (front ∷ []) = None
resource_at (front ∷ server ∷ rest) = below front server rest
