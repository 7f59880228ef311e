-- The parameters of a request, and what they say.
use Rattle.std.specs.Prelude.{◌≡◌, ℕ, Bool, true, false, List, [], ◌∷◌, ◌++◌, Option, Some, None, Result, Ok, Err, if◌then◌else◌, codes, encode_utf8_all, find, nat_eq}
use Rattle.std.specs.List.{starts_with}
use Rattle.rdf_term.specs.declared.graph.Graph.{Graph}
use Rattle.journal.specs.declared.level.Level.{Level}
use Rattle.journal.specs.declared.level.Level.TheVariants.{SnapshotRead}
use Rattle.http_frame.specs.Fields.{same_name}
use Rattle.http_frame.specs.Messages.{SeenRequest}
use Rattle.api_parts.specs.declared.selection.Selection.{Selection}
use Rattle.api_parts.specs.declared.selection.Parameter.{Parameter}
use Rattle.api_parts.specs.declared.selection.Parameter.TheVariants.{Context}
use Rattle.api_parts.specs.Parameters.{query_of, parameters, values_of}
use Rattle.api_parts.specs.Selections.{name_of, IsSelection, IsContexts, IsBad, IsFirstBad}
use Rattle.api_paths.specs.Targets.{origin_form}
use Rattle.api_paths.specs.Levels.{level_of}
use Rattle.api_calls.specs.declared.fault.ApiFault.{ApiFault}
use Rattle.repo_api.specs.Content.{type_of, is_form}
use Rattle.repo_api.specs.Tasks.{bad}

-- the parameters of the target
abbrev pub target_parameters : SeenRequest → List (List ℕ × List ℕ)
target_parameters r = parameters (query_of (origin_form (encode_utf8_all r.head.target)))

-- those of a body that is a form
abbrev pub form_parameters : SeenRequest → List (List ℕ × List ℕ)
form_parameters r = if is_form (type_of r.head.fields) then parameters r.body else []

-- both, where a request may have a form
abbrev pub all_parameters : SeenRequest → List (List ℕ × List ℕ)
all_parameters r = target_parameters r ++ form_parameters r

-- what subj, pred, obj and context select
abbrev pub IsSelected : List (List ℕ × List ℕ) → Result Selection ApiFault → Type 0
IsSelected pairs (Ok it) = IsSelection pairs it
IsSelected pairs (Err fault) = (parameter : Parameter) × IsFirstBad pairs parameter × (fault ≡ bad (name_of parameter))

-- the graphs that context names
abbrev pub AreInContexts : List (List ℕ × List ℕ) → Result (List Graph) ApiFault → Type 0
AreInContexts pairs (Ok contexts) = IsContexts pairs contexts
AreInContexts pairs (Err fault) = IsBad pairs Context × (fault ≡ bad (name_of Context))

-- the level by the value of isolation-level
abbrev pub level_by_value : Option Level → Result Level ApiFault
level_by_value (Some level) = Ok level
level_by_value None = Err (bad (codes "isolation-level"))

-- the same by its values: SNAPSHOT_READ where there is none
abbrev pub level_by : List (List ℕ) → Result Level ApiFault
level_by [] = Ok SnapshotRead
level_by (value ∷ []) = level_by_value (level_of value)
level_by (value ∷ other ∷ values) = Err (bad (codes "isolation-level"))

abbrev pub level_in : List (List ℕ × List ℕ) → Result Level ApiFault
level_in pairs = level_by (values_of (codes "isolation-level") pairs)

-- queryLn is absent, or SPARQL in any case
abbrev pub is_sparql : List (List ℕ) → Bool
is_sparql [] = true
is_sparql (value ∷ []) = same_name value (codes "sparql")
is_sparql (value ∷ other ∷ values) = false

-- the parameter binds a variable: its name begins with `$`
abbrev pub is_binding : (List ℕ × List ℕ) → Bool
is_binding pair = starts_with nat_eq pair.0 (codes "$")

-- no parameter binds a variable; else the first that does is named
abbrev pub HasNoBinding : List (List ℕ × List ℕ) → Result (Unit {0}) ApiFault → Type 0
HasNoBinding pairs (Ok it) = find is_binding pairs ≡ None
HasNoBinding pairs (Err fault) =
    (pair : List ℕ × List ℕ) × (find is_binding pairs ≡ Some pair)
    × (name : List ℕ) × (encode_utf8_all name ≡ pair.0) × (fault ≡ bad name)
