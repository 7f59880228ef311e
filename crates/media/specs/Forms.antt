-- The media types of the forms (RFC 9110, section 8.3.1).
use Rattle.std.specs.Prelude.{ℕ, List, ◌++◌, codes}
use Rattle.media.specs.declared.form.Form.{Form}
use Rattle.media.specs.declared.form.Form.TheVariants.{NQuads, XNQuads, NTriples, PlainTriples, ResultsJson, Json, Boolean, PlainText}

-- the type of a form's media type
abbrev pub main_type_of : Form → List ℕ
main_type_of NQuads = codes "application"
main_type_of XNQuads = codes "text"
main_type_of NTriples = codes "application"
main_type_of PlainTriples = codes "text"
main_type_of ResultsJson = codes "application"
main_type_of Json = codes "application"
main_type_of Boolean = codes "text"
main_type_of PlainText = codes "text"

-- its subtype
abbrev pub subtype_of : Form → List ℕ
subtype_of NQuads = codes "n-quads"
subtype_of XNQuads = codes "x-nquads"
subtype_of NTriples = codes "n-triples"
subtype_of PlainTriples = codes "plain"
subtype_of ResultsJson = codes "sparql-results+json"
subtype_of Json = codes "json"
subtype_of Boolean = codes "boolean"
subtype_of PlainText = codes "plain"

-- media-type = type "/" subtype parameters, without the parameters
abbrev pub media_type_of : Form → List ℕ
media_type_of form = main_type_of form ++ codes "/" ++ subtype_of form

-- the parameters of a form's media type: plain text is in UTF-8
abbrev pub parameters_of : Form → List ℕ
parameters_of PlainTriples = codes ";charset=UTF-8"
parameters_of PlainText = codes ";charset=UTF-8"
parameters_of _ = codes ""

-- the value of the field Content-Type (section 8.3)
abbrev pub content_type_of : Form → List ℕ
content_type_of form = media_type_of form ++ parameters_of form
