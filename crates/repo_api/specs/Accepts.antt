-- The choice of a reply's form (RFC 9110, section 12.5.1).
use Rattle.std.specs.Prelude.{ℕ, List, [], ◌∷◌, Option, Some, None, Result, Ok, Err, codes}
use Rattle.std.specs.List.{join_with_byte}
use Rattle.media.specs.declared.form.Form.{Form}
use Rattle.media.specs.declared.form.Form.TheVariants.{NQuads, XNQuads, NTriples, PlainTriples, ResultsJson, Json, Boolean}
use Rattle.media.specs.Choice.{chosen}
use Rattle.http_frame.specs.Fields.{values_of}
use Rattle.api_calls.specs.declared.fault.ApiFault.{ApiFault}
use Rattle.api_calls.specs.declared.fault.ApiFault.TheVariants as faults

-- the forms in which quads are offered, and tables, and truth values
abbrev pub quad_forms : List Form
quad_forms = NQuads ∷ NTriples ∷ XNQuads ∷ PlainTriples ∷ []

abbrev pub table_forms : List Form
table_forms = ResultsJson ∷ Json ∷ []

abbrev pub truth_forms : List Form
truth_forms = ResultsJson ∷ Boolean ∷ Json ∷ []

-- the values of the fields Accept, with commas between them
abbrev pub accept_of : List (List ℕ × List ℕ) → List ℕ
accept_of fields = join_with_byte 44 (values_of (codes "accept") fields)

abbrev pub accepted : Option Form → Result Form ApiFault
accepted (Some form) = Ok form
accepted None = Err faults.NotAcceptable

-- the form that is chosen among these
abbrev pub form_among : List (List ℕ × List ℕ) → List Form → Result Form ApiFault
form_among fields offers = accepted (chosen (accept_of fields) offers)
