-- Where a request has its query, and what query that is.
use Rattle.std.specs.Prelude.{◌≡◌, ℕ, Bool, ◌&&◌, ◌||◌, not, List, [], ◌∷◌, ◌++◌, Result, Ok, Err, if◌then◌else◌, codes}
use Rattle.std.specs.Str.{is_utf8}
use Rattle.query_model.specs.declared.query.Query.{Query}
use Rattle.query_model.specs.declared.query.Query.TheVariants.{Select, Ask, Construct}
use Rattle.query_grammar.specs.declared.fault.QueryFault.{QueryFault}
use Rattle.query_grammar.specs.QueryText.{IsQueryText, IsQueryFault}
use Rattle.media.specs.declared.form.Form.{Form}
use Rattle.http_frame.specs.Messages.{SeenRequest}
use Rattle.api_parts.specs.Parameters.{values_of}
use Rattle.api_calls.specs.declared.fault.ApiFault.{ApiFault}
use Rattle.api_calls.specs.declared.fault.ApiFault.TheVariants as faults
use Rattle.repo_api.specs.Accepts.{table_forms, truth_forms, quad_forms}
use Rattle.repo_api.specs.Content.{is_empty, type_of, is_form, is_query_text}
use Rattle.repo_api.specs.Resources.{is_text}
use Rattle.repo_api.specs.Tasks.{bad}

-- a body that isn't empty is a form or the text of a query, but for GET, where another one isn't looked at
abbrev pub may_query : SeenRequest → Bool
may_query r =
    is_text r.head.method (codes "GET") || is_empty r.body || is_form (type_of r.head.fields) || is_query_text (type_of r.head.fields)

-- the body is the text of a query: of that type, in UTF-8, and not empty
abbrev pub is_query_body : SeenRequest → Bool
is_query_body r = is_query_text (type_of r.head.fields) && not (is_empty r.body) && is_utf8 r.body

abbrev pub query_bodies : SeenRequest → List (List ℕ)
query_bodies r = if is_query_body r then r.body ∷ [] else []

-- there is exactly one
abbrev pub only : List (List ℕ) → Result (List ℕ) ApiFault
only [] = Err (bad (codes "query"))
only (text ∷ []) = Ok text
only (text ∷ other ∷ texts) = Err (bad (codes "query"))

-- the text of the query: a parameter `query`, or the body
abbrev pub query_text : SeenRequest → List (List ℕ × List ℕ) → Result (List ℕ) ApiFault
query_text r pairs = only (values_of (codes "query") pairs ++ query_bodies r)

-- the text is this query, or it is none and this is the fault at its first refused token
abbrev pub IsQueryOf : List ℕ → Result Query ApiFault → Type 0
IsQueryOf text (Ok query) = IsQueryText text query
IsQueryOf text (Err fault) =
    ((query : Query) → IsQueryText text query → ⊥) × (bad : QueryFault) × IsQueryFault text bad × (fault ≡ faults.Query bad)

-- the forms on offer for the answer of a query
abbrev pub forms_of : Query → List Form
forms_of (Select distinct vars group cut) = table_forms
forms_of (Ask group) = truth_forms
forms_of (Construct template group cut) = quad_forms
