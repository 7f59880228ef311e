-- Worked cases of the definitions, by computation.
use Rattle.std.proofs.Common.{◌≡◌, refl, [], ◌∷◌, Some, None, codes}
use Rattle.std.specs.Fmt.{digits}
use Rattle.percent_encoding.specs.AsciiSet.{should_percent_encode}
use Rattle.percent_encoding.specs.Percent.{percent_encode, percent_encode_byte}
use Rattle.form_urlencoded.specs.Form.{byte_serialize}
use Rattle.rdf_term.specs.declared.term.Term.TheVariants.{Iri}
use Rattle.rdf_term.specs.declared.graph.Graph.TheVariants.{Absent}
use Rattle.change_set.specs.declared.change.Change.TheVariants.{RemoveMatching}
use Rattle.rdf_term.specs.declared.pattern.GraphPick.TheVariants as picks
use Rattle.journal.specs.declared.level.Level.TheVariants.{Serializable}
use Rattle.journal.specs.declared.ask.Ask.TheVariants as asks
use Rattle.journal.specs.declared.op.Op.TheVariants as ops
use Rattle.journal.specs.declared.op.NamesOp.TheVariants as names
use Rattle.media.specs.declared.form.Form.TheVariants.{PlainText, ResultsJson}
use Rattle.api_calls.specs.declared.call.Call.TheVariants.{Repositories, On}
use Rattle.api_requests.specs.Requests.{target_text, sent, fields_of}

-- a transaction begins by POST with the name of its level
begin_target : target_text (sent (On (codes "w0") (ops.Begin Serializable) PlainText)) ≡ codes "/rdf4j-server/repositories/w0/transactions?isolation-level=SERIALIZABLE"
unfolding percent_encode percent_encode_byte should_percent_encode byte_serialize digits lib.Utf8.encode
begin_target = refl

-- what is removed by a subject
removal_target :
    target_text (sent (On (codes "all") (ops.Write None (RemoveMatching (record { s = Some (Iri (codes "http://w/s0/3")); p = None; o = None; c = picks.Any }) ∷ [])) PlainText))
    ≡ codes "/rdf4j-server/repositories/all/statements?subj=%3Chttp%3A%2F%2Fw%2Fs0%2F3%3E"
unfolding percent_encode percent_encode_byte should_percent_encode byte_serialize digits lib.Utf8.encode
removal_target = refl

-- an action in a transaction
commit_target : target_text (sent (On (codes "w0") (ops.Commit (record { place = 12; level = Serializable })) PlainText)) ≡ codes "/rdf4j-server/repositories/w0/transactions/12-5?action=COMMIT"
unfolding percent_encode percent_encode_byte should_percent_encode byte_serialize digits lib.Utf8.encode
commit_target = refl

-- a repository with a slash and a space in its ID
size_target : target_text (sent (On (codes "a/b c") (ops.Read None (asks.Size (Absent ∷ []))) PlainText)) ≡ codes "/rdf4j-server/repositories/a%2Fb%20c/size?context=null"
unfolding percent_encode percent_encode_byte should_percent_encode byte_serialize digits lib.Utf8.encode
size_target = refl

-- the fields in order
fields : fields_of (codes "h:1") (sent (On (codes "r") (ops.Names (names.Put (codes "ex") (codes "http://e/"))) PlainText))
    ≡ (codes "Host", codes "h:1") ∷ (codes "Content-Type", codes "text/plain;charset=UTF-8") ∷ (codes "Content-Length", codes "9") ∷ []
unfolding digits lib.Utf8.encode
fields = refl

list_fields : fields_of (codes "h:1") (sent (Repositories ResultsJson)) ≡ (codes "Host", codes "h:1") ∷ (codes "Accept", codes "application/sparql-results+json") ∷ []
unfolding lib.Utf8.encode
list_fields = refl
