-- Worked cases, by computation on the definitions.
use Rattle.std.proofs.Common.{◌≡◌, ℕ, List, [], ◌∷◌, None, true, false, refl, codes}
use Rattle.std.specs.Fmt.{digits}
use Rattle.rdf_term.specs.declared.term.Term.TheVariants.{Iri, Plain}
use Rattle.rdf_term.specs.declared.graph.Graph.TheVariants.{Absent, Named}
use Rattle.rdf_term.specs.declared.pattern.GraphPick.TheVariants as picks
use Rattle.rdf_term.specs.Statement.{Statement}
use Rattle.journal.specs.declared.level.Level.TheVariants.{Snapshot, Serializable}
use Rattle.journal.specs.declared.txn.Txn.{Txn}
use Rattle.journal.specs.declared.ask.Ask.TheVariants as ask
use Rattle.journal.specs.declared.op.NamesOp.TheVariants as name
use Rattle.journal.specs.declared.op.Op.{Op}
use Rattle.journal.specs.declared.op.Op.TheVariants.{Begin, Read, Commit, Rollback, Names}
use Rattle.journal.specs.declared.reply.Reply.TheVariants as reply
use Rattle.media.specs.declared.form.Form.{Form}
use Rattle.media.specs.declared.form.Form.TheVariants.{NQuads, NTriples, PlainText}
use Rattle.http_frame.specs.Wire.{wire}
use Rattle.api_calls.specs.declared.call.Call.{Call}
use Rattle.api_calls.specs.declared.call.Call.TheVariants.{On}
use Rattle.api_calls.specs.declared.fault.Allow.TheVariants.{Get}
use Rattle.api_calls.specs.declared.fault.ApiFault.TheVariants as fault
use Rattle.api_replies.specs.Ids.{is_id}
use Rattle.api_replies.specs.Responses.{refusal, refusal_bytes, response, response_bytes}

abbrev on : Op → Form → Call
on op form = On (codes "r") op form

abbrev t : Txn
t = record { place = 4; level = Serializable }

-- a quad with this object, in the absent graph and in a named one
abbrev absent : List ℕ → Statement
absent o = record { s = Iri (codes "http://e/s"); p = Iri (codes "http://e/p"); o = Plain o; c = Absent }

abbrev named : List ℕ → Statement
named o = record { s = Iri (codes "http://e/s"); p = Iri (codes "http://e/p"); o = Plain o; c = Named (Iri (codes "http://e/g")) }

-- the size of an empty repository
size : response_bytes (on (Read None (ask.Size [])) PlainText) [] (reply.Count 0) 1 false false
    ≡ codes "HTTP/1.1 200 OK\r\nContent-Type: text/plain;charset=UTF-8\r\nContent-Length: 1\r\n\r\n0"
unfolding wire response digits
size = refl

-- a begin names the transaction by its place and the number of its level
begun : response_bytes (on (Begin Snapshot) PlainText) [] (reply.Begun (record { place = 10; level = Snapshot })) 1 false false
    ≡ codes "HTTP/1.1 201 Created\r\nLocation: /rdf4j-server/repositories/r/transactions/10-4\r\nContent-Length: 0\r\n\r\n"
unfolding wire response digits lib.Utf8.encode
begun = refl

-- a commit is told apart from what else is done
committed : response_bytes (on (Commit t) PlainText) [] reply.Done 1 true false
    ≡ codes "HTTP/1.1 200 OK\r\nContent-Length: 0\r\nConnection: close\r\n\r\n"
unfolding wire response digits
committed = refl

rolled_back : response_bytes (on (Rollback t) PlainText) [] reply.Done 1 false false ≡ codes "HTTP/1.1 204 No Content\r\n\r\n"
unfolding wire response digits
rolled_back = refl

-- the line of a conflict has its line end
conflict : (response (on (Commit t) PlainText) [] (reply.Conflict (record { s = None; p = None; o = None; c = picks.Any }) (absent (codes "1")))).body
    ≡ codes "<http://e/s> <http://e/p> \"1\" .\n"
unfolding response lib.Utf8.encode
conflict = refl

-- triples have no graphs, and equal neighbours have one line
triples : (response (on (Read None (ask.List None None None [])) NTriples) [] (reply.Quads (absent (codes "1") ∷ named (codes "1") ∷ []))).body
    ≡ codes "<http://e/s> <http://e/p> \"1\" .\n"
unfolding response lib.Utf8.encode
triples = refl

quads : (response (on (Read None (ask.List None None None [])) NQuads) [] (reply.Quads (absent (codes "1") ∷ named (codes "1") ∷ []))).body
    ≡ codes "<http://e/s> <http://e/p> \"1\" .\n<http://e/s> <http://e/p> \"1\" <http://e/g> .\n"
unfolding response lib.Utf8.encode
quads = refl

-- a method that a resource has not, where the response is to have no body
head : refusal_bytes (fault.Method Get) 1 false true
    ≡ codes "HTTP/1.1 405 Method Not Allowed\r\nContent-Type: text/plain;charset=UTF-8\r\nAllow: GET\r\n\r\n"
unfolding wire refusal digits
head = refl

-- a prefix that stands for nothing
no_prefix : response_bytes (on (Names (name.Get (codes "ex"))) PlainText) [] reply.NoPrefix 1 false false
    ≡ codes "HTTP/1.1 404 Not Found\r\nContent-Type: text/plain;charset=UTF-8\r\nContent-Length: 14\r\n\r\nno such prefix"
unfolding wire response digits
no_prefix = refl

ids : (is_id (codes "r-1_x") ≡ true) × (is_id (codes "-r") ≡ false) × (is_id [] ≡ false) × (is_id (codes "r.x") ≡ false)
ids = (refl, refl, refl, refl)
