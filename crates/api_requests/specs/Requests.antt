-- The one request that is written for a call: its method, its target, its fields in order and its body (RDF4J REST API; RFC 9110 and 9112).
use Rattle.std.specs.Prelude.{ℕ, false, List, [], ◌∷◌, ◌++◌, Option, Some, None, map, codes, decimal, encode_utf8_all, length}
use Rattle.std.specs.List.{flat_map}
use Rattle.std.specs.Str.{chars}
use Rattle.percent_encoding.specs.Percent.{percent_encode}
use Rattle.form_urlencoded.specs.Form.{extend_pairs}
use Rattle.rdf_term.specs.declared.term.Term.{Term}
use Rattle.rdf_term.specs.declared.graph.Graph.{Graph}
use Rattle.rdf_term.specs.declared.graph.Graph.TheVariants.{Absent, Named}
use Rattle.rdf_term.specs.Statement.{Statement}
use Rattle.rdf_term.specs.Canonical.{term_text}
use Rattle.nquads_line.specs.declared.kind.Kind.TheVariants.{Quads}
use Rattle.nquads.specs.Written.{document_text}
use Rattle.change_set.specs.declared.change.Change.{Change}
use Rattle.change_set.specs.declared.change.Change.TheVariants.{Add, Remove, RemoveMatching}
use Rattle.query_model.specs.declared.query.Query.{Query}
use Rattle.query_print.specs.Printed.{printed}
use Rattle.journal.specs.declared.level.Level.{Level}
use Rattle.journal.specs.declared.level.Level.TheVariants.{NoIsolation, ReadUncommitted, ReadCommitted, SnapshotRead, Snapshot, Serializable}
use Rattle.journal.specs.declared.txn.Txn.{Txn}
use Rattle.journal.specs.declared.ask.Ask.{Ask}
use Rattle.journal.specs.declared.ask.Ask.TheVariants as asks
use Rattle.journal.specs.declared.op.Op.{Op}
use Rattle.journal.specs.declared.op.Op.TheVariants as ops
use Rattle.journal.specs.declared.op.NamesOp.{NamesOp}
use Rattle.journal.specs.declared.op.NamesOp.TheVariants as names
use Rattle.media.specs.declared.form.Form.{Form}
use Rattle.media.specs.declared.form.Form.TheVariants.{PlainText}
use Rattle.media.specs.Forms.{content_type_of}
use Rattle.http_frame.specs.Messages.{SeenRequest}
use Rattle.api_parts.specs.declared.selection.Selection.{Selection}
use Rattle.api_paths.specs.TransactionNames.{name_of}
use Rattle.api_calls.specs.declared.call.Call.{Call}
use Rattle.api_calls.specs.declared.call.Call.TheVariants.{Protocol, Repositories, On}
use Rattle.api_requests.specs.declared.sending.Verb.{Verb}
use Rattle.api_requests.specs.declared.sending.Verb.TheVariants.{Get, Post, Put, Delete}
use Rattle.api_requests.specs.declared.target.TheConstants.{ESCAPED}
use Rattle.api_requests.specs.Changes.{quads_in, graphs_in, selection_in, sources_in}

-- what a request is written of: its method, its path, the names and values of its parameters in UTF-8, the form that is asked for, and the
-- media type of a body and the body
pub record SeenSending : Type 0 where
  pub verb : Verb
  pub path : List ℕ
  pub pairs : List (List ℕ × List ℕ)
  pub accept : Option Form
  pub content : Option (List ℕ × List ℕ)

-- the method (RFC 9110, section 9)
abbrev pub verb_text : Verb → List ℕ
verb_text Get = codes "GET"
verb_text Post = codes "POST"
verb_text Put = codes "PUT"
verb_text Delete = codes "DELETE"

-- a slash and a segment, in which each byte but the unreserved characters is escaped (RFC 3986, sections 2.3 and 3.3)
abbrev pub segment_text : List ℕ → List ℕ
segment_text segment = codes "/" ++ percent_encode ESCAPED segment

abbrev pub path_text : List (List ℕ) → List ℕ
path_text segments = flat_map segment_text segments

-- the parameters behind a question mark, where there are any (URL Standard, section 5.2)
abbrev pub query_text : List (List ℕ × List ℕ) → List ℕ
query_text [] = []
query_text (pair ∷ pairs) = codes "?" ++ extend_pairs [] (pair ∷ pairs)

-- the target in origin form (RFC 9112, section 3.2.1)
abbrev pub target_text : SeenSending → List ℕ
target_text sending = sending.path ++ query_text sending.pairs

-- the field Accept with one media type (RFC 9110, section 12.5.1)
abbrev pub accept_fields : Option Form → List (List ℕ × List ℕ)
accept_fields None = []
accept_fields (Some form) = (codes "Accept", content_type_of form) ∷ []

-- the type and the length of a body (RFC 9110, sections 8.3 and 8.6); a request without a body has neither
abbrev pub content_fields : Option (List ℕ × List ℕ) → List (List ℕ × List ℕ)
content_fields None = []
content_fields (Some content) = (codes "Content-Type", content.0) ∷ (codes "Content-Length", decimal (length content.1)) ∷ []

abbrev pub body_of : Option (List ℕ × List ℕ) → List ℕ
body_of None = []
body_of (Some content) = content.1

-- Host stands first (RFC 9110, section 7.2)
abbrev pub fields_of : List ℕ → SeenSending → List (List ℕ × List ℕ)
fields_of host sending = (codes "Host", encode_utf8_all host) ∷ accept_fields sending.accept ++ content_fields sending.content

-- the request in version 1.1, which neither waits for `100 Continue` nor closes
abbrev pub request_with : List ℕ → SeenSending → SeenRequest
request_with host sending =
    record {
      head = record {
        method = verb_text sending.verb;
        target = chars (target_text sending);
        minor = 1;
        fields = fields_of host sending;
        expects = false;
        closes = false;
      };
      body = body_of sending.content;
    }

-- the paths of the interface
abbrev pub in_server : List (List ℕ) → List (List ℕ)
in_server segments = codes "rdf4j-server" ∷ segments

abbrev pub in_repository : List ℕ → List (List ℕ) → List (List ℕ)
in_repository repo segments = in_server (codes "repositories" ∷ encode_utf8_all repo ∷ segments)

abbrev pub in_transaction : List ℕ → Txn → List (List ℕ)
in_transaction repo txn = in_repository repo (codes "transactions" ∷ name_of txn ∷ [])

abbrev pub in_namespace : List ℕ → List ℕ → List (List ℕ)
in_namespace repo prefix = in_repository repo (codes "namespaces" ∷ encode_utf8_all prefix ∷ [])

-- the name of a level
abbrev pub level_text : Level → List ℕ
level_text NoIsolation = codes "NONE"
level_text ReadUncommitted = codes "READ_UNCOMMITTED"
level_text ReadCommitted = codes "READ_COMMITTED"
level_text SnapshotRead = codes "SNAPSHOT_READ"
level_text Snapshot = codes "SNAPSHOT"
level_text Serializable = codes "SERIALIZABLE"

-- a term is its text of RDF 1.1 N-Triples, and the absent graph is `null`
abbrev pub term_value : Term → List ℕ
term_value term = encode_utf8_all (term_text term)

abbrev pub part_pairs : List ℕ → Option Term → List (List ℕ × List ℕ)
part_pairs name None = []
part_pairs name (Some term) = (name, term_value term) ∷ []

abbrev pub graph_value : Graph → List ℕ
graph_value Absent = codes "null"
graph_value (Named name) = term_value name

abbrev pub graph_pair : Graph → List ℕ × List ℕ
graph_pair graph = (codes "context", graph_value graph)

abbrev pub context_pairs : List Graph → List (List ℕ × List ℕ)
context_pairs contexts = map graph_pair contexts

abbrev pub selection_pairs : Selection → List (List ℕ × List ℕ)
selection_pairs it = part_pairs (codes "subj") it.s ++ part_pairs (codes "pred") it.p ++ part_pairs (codes "obj") it.o ++ context_pairs it.contexts

-- an action in a transaction
abbrev pub action_pairs : List ℕ → List (List ℕ × List ℕ) → List (List ℕ × List ℕ)
action_pairs word pairs = (codes "action", word) ∷ pairs

-- the body that is a query, in the syntax of SPARQL 1.1 (SPARQL 1.1 Protocol, section 2.1.3)
abbrev pub query_content : Query → Option (List ℕ × List ℕ)
query_content query = Some (codes "application/sparql-query", encode_utf8_all (printed query))

-- a body of statements, each as its canonical line of RDF 1.1 N-Quads
abbrev pub document_content : List Statement → Option (List ℕ × List ℕ)
document_content quads = Some (codes "application/n-quads", encode_utf8_all (document_text Quads quads))

-- a request for something, which has no body
abbrev pub got : List (List ℕ) → List (List ℕ × List ℕ) → Option Form → SeenSending
got segments pairs accept = record { verb = Get; path = path_text segments; pairs = pairs; accept = accept; content = None }

-- an action: PUT on the transaction
abbrev pub acted : List ℕ → Txn → List ℕ → List (List ℕ × List ℕ) → Option Form → Option (List ℕ × List ℕ) → SeenSending
acted repo txn word pairs accept content =
    record { verb = Put; path = path_text (in_transaction repo txn); pairs = action_pairs word pairs; accept = accept; content = content }

-- a write outside transactions
abbrev pub written : List ℕ → Verb → List (List ℕ × List ℕ) → Option (List ℕ × List ℕ) → SeenSending
written repo verb pairs content =
    record { verb = verb; path = path_text (in_repository repo (codes "statements" ∷ [])); pairs = pairs; accept = None; content = content }

-- a query: POST on the repository, or the action QUERY
abbrev pub sent_query : List ℕ → Option Txn → Query → Form → SeenSending
sent_query repo None query form =
    record { verb = Post; path = path_text (in_repository repo []); pairs = []; accept = Some form; content = query_content query }
sent_query repo (Some t) query form = acted repo t (codes "QUERY") [] (Some form) (query_content query)

-- quads that are selected
abbrev pub listed : List ℕ → Option Txn → List (List ℕ × List ℕ) → Form → SeenSending
listed repo None pairs form = got (in_repository repo (codes "statements" ∷ [])) pairs (Some form)
listed repo (Some t) pairs form = acted repo t (codes "GET") pairs (Some form) None

abbrev pub sent_list : List ℕ → Option Txn → Selection → Form → SeenSending
sent_list repo txn it form = listed repo txn (selection_pairs it) form

-- a number of quads
abbrev pub sent_size : List ℕ → Option Txn → List Graph → SeenSending
sent_size repo None contexts = got (in_repository repo (codes "size" ∷ [])) (context_pairs contexts) None
sent_size repo (Some t) contexts = acted repo t (codes "SIZE") (context_pairs contexts) None None

abbrev pub sent_read : List ℕ → Option Txn → Ask → Form → SeenSending
sent_read repo txn (asks.Query query) form = sent_query repo txn query form
sent_read repo txn (asks.List s p o contexts) form = sent_list repo txn (record { s = s; p = p; o = o; contexts = contexts }) form
sent_read repo txn (asks.Size contexts) form = sent_size repo txn contexts
sent_read repo txn asks.Contexts form = got (in_repository repo (codes "contexts" ∷ [])) [] (Some form)

-- what removes first and then adds: DELETE where nothing is added, else PUT
abbrev pub sent_removal : List ℕ → List Change → List Statement → SeenSending
sent_removal repo changes [] = written repo Delete (selection_pairs (selection_in changes)) None
sent_removal repo changes (q ∷ quads) = written repo Put (context_pairs (graphs_in changes)) (document_content (sources_in changes))

-- a write by its first change: POST adds
abbrev pub sent_alone : List ℕ → List Change → SeenSending
sent_alone repo [] = written repo Post [] (document_content [])
sent_alone repo (Add q ∷ changes) = written repo Post [] (document_content (quads_in (Add q ∷ changes)))
sent_alone repo (Remove q ∷ changes) = written repo Post [] (document_content (quads_in (Remove q ∷ changes)))
sent_alone repo (RemoveMatching p ∷ changes) = sent_removal repo (RemoveMatching p ∷ changes) (quads_in changes)

-- the action of a write in a transaction
abbrev pub write_word : List Change → List ℕ
write_word [] = codes "ADD"
write_word (Add q ∷ changes) = codes "ADD"
write_word (Remove q ∷ changes) = codes "DELETE"
write_word (RemoveMatching p ∷ changes) = codes "DELETE"

abbrev pub sent_write : List ℕ → Option Txn → List Change → SeenSending
sent_write repo None changes = sent_alone repo changes
sent_write repo (Some t) changes = acted repo t (write_word changes) [] None (document_content (quads_in changes))

-- namespaces
abbrev pub sent_names : List ℕ → NamesOp → Form → SeenSending
sent_names repo names.List form = got (in_repository repo (codes "namespaces" ∷ [])) [] (Some form)
sent_names repo names.Clear form =
    record { verb = Delete; path = path_text (in_repository repo (codes "namespaces" ∷ [])); pairs = []; accept = None; content = None }
sent_names repo (names.Get prefix) form = got (in_namespace repo prefix) [] None
sent_names repo (names.Put prefix name) form =
    record {
      verb = Put;
      path = path_text (in_namespace repo prefix);
      pairs = [];
      accept = None;
      content = Some (content_type_of PlainText, encode_utf8_all name);
    }
sent_names repo (names.Remove prefix) form =
    record { verb = Delete; path = path_text (in_namespace repo prefix); pairs = []; accept = None; content = None }

-- an op on a repository; a Step, which is no call, is sent as its query
abbrev pub sent_op : List ℕ → Op → Form → SeenSending
sent_op repo (ops.Begin level) form =
    record {
      verb = Post;
      path = path_text (in_repository repo (codes "transactions" ∷ []));
      pairs = (codes "isolation-level", level_text level) ∷ [];
      accept = None;
      content = None;
    }
sent_op repo (ops.Read txn ask) form = sent_read repo txn ask form
sent_op repo (ops.Step t query number) form = sent_query repo (Some t) query form
sent_op repo (ops.Write txn changes) form = sent_write repo txn changes
sent_op repo (ops.Commit t) form = acted repo t (codes "COMMIT") [] None None
sent_op repo (ops.Rollback t) form =
    record { verb = Delete; path = path_text (in_transaction repo t); pairs = []; accept = None; content = None }
sent_op repo (ops.Ping t) form = acted repo t (codes "PING") [] None None
sent_op repo (ops.Names op) form = sent_names repo op form

abbrev pub sent : Call → SeenSending
sent Protocol = got (in_server (codes "protocol" ∷ [])) [] None
sent (Repositories form) = got (in_server (codes "repositories" ∷ [])) [] (Some form)
sent (On repo op form) = sent_op repo op form

-- the request that is written for a call to a host
abbrev pub request_of : Call → List ℕ → SeenRequest
request_of call host = request_with host (sent call)
