-- The kinds of responses: without a body, with one in a form, and refusals (RFC 9110, sections 8.3, 10.2 and 15).
use Rattle.std.specs.Prelude.{ℕ, Bool, true, false, List, [], ◌∷◌, codes}
use Rattle.nquads_line.specs.declared.kind.Kind.{Kind}
use Rattle.nquads_line.specs.declared.kind.Kind.TheVariants.{Triples, Quads}
use Rattle.media.specs.declared.form.Form.{Form}
use Rattle.media.specs.declared.form.Form.TheVariants.{NQuads, XNQuads, NTriples, PlainTriples, ResultsJson, Json, Boolean, PlainText}
use Rattle.media.specs.Forms.{content_type_of}
use Rattle.results_json.specs.Tables.{truth_text}
use Rattle.journal.specs.declared.txn.Txn.{Txn}
use Rattle.http_frame.specs.Messages.{SeenResponse}
use Rattle.api_replies.specs.Ids.{path_of}

-- the field Content-Type of a body in this form
abbrev pub type_field : Form → List ℕ × List ℕ
type_field form = (codes "Content-Type", content_type_of form)

-- no field of its own and no body
abbrev pub bare : ℕ → SeenResponse
bare status = record { status = status; fields = []; body = [] }

-- a body in this form
abbrev pub with_body : ℕ → Form → List ℕ → SeenResponse
with_body status form body = record { status = status; fields = type_field form ∷ []; body = body }

-- what was asked for, in this form
abbrev pub in_form : Form → List ℕ → SeenResponse
in_form form body = with_body 200 form body

-- a refusal says its cause in plain text
abbrev pub refused : ℕ → List ℕ → SeenResponse
refused status text = with_body status PlainText text

-- the transaction that is named isn't open, or its name is none
abbrev pub no_transaction : SeenResponse
no_transaction = refused 404 (codes "no such transaction")

-- as many transactions are open as may be
abbrev pub too_many_open : SeenResponse
too_many_open = refused 429 (codes "too many transactions")

-- more would be kept than may be
abbrev pub too_large : SeenResponse
too_large = refused 507 (codes "repository full")

-- the journal has as many entries as it may have
abbrev pub journal_full : SeenResponse
journal_full = refused 507 (codes "journal full")

-- want of memory
abbrev pub no_memory : SeenResponse
no_memory = refused 503 (codes "out of memory")

-- a transaction was begun in the repository: the field Location has its path
abbrev pub created : List ℕ → Txn → SeenResponse
created repo t = record { status = 201; fields = (codes "Location", path_of repo t) ∷ []; body = [] }

-- what was asked for is done: a commit has the status 200, anything else 204
abbrev pub done : Bool → SeenResponse
done true = bare 200
done false = bare 204

-- a body of quads in this form leaves the graphs off, or names them
abbrev pub kind_of : Form → Kind
kind_of NQuads = Quads
kind_of XNQuads = Quads
kind_of NTriples = Triples
kind_of PlainTriples = Triples
kind_of ResultsJson = Quads
kind_of Json = Quads
kind_of Boolean = Quads
kind_of PlainText = Quads

abbrev pub truth_word : Bool → List ℕ
truth_word true = codes "true"
truth_word false = codes "false"

-- a truth value in this form: a word, or JSON
abbrev pub truth_body : Form → Bool → List ℕ
truth_body NQuads b = truth_text b
truth_body XNQuads b = truth_text b
truth_body NTriples b = truth_text b
truth_body PlainTriples b = truth_text b
truth_body ResultsJson b = truth_text b
truth_body Json b = truth_text b
truth_body Boolean b = truth_word b
truth_body PlainText b = truth_text b
