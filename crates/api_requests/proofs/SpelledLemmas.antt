-- Some bytes spell the request that is written for a call: its head is one of HTTP's grammar, and its fields say the length of its body.
use Rattle.std.proofs.Common.{◌≡◌, ◌<◌, ◌^◌, ◌&&◌, ◌++◌, ◌∷◌, ◌∙◌, ℕ, List, [], Bool, false, true, nat_lt, length, length-append, map, All, IsTrue, Option, Some, None, codes, decimal, encode_utf8_all, refl, sym, ap, ap₂, subst, arith}
use Rattle.std.specs.Str.{chars}
use Rattle.std.proofs.lemmas.Bool.Decides.{nat_tests}
use Rattle.std.proofs.lemmas.List.Elements.{All-nil, All-cons, All-head, All-tail, All-append}
use Rattle.std.proofs.lemmas.List.Sums.{AllPass-from_list_all}
use Rattle.std.proofs.lemmas.Str.{encodes-chars, IsUtf8-from_ascii}
use Rattle.percent_encoding.specs.Percent.{percent_encode}
use Rattle.httparse.specs.Grammar.{crlf, Field, IsField, IsToken, is_token_byte, is_value_byte, RequestHead, IsRequestHead}
use Rattle.httparse.specs.Spans.{name_and_value}
use Rattle.rdf_term.specs.declared.graph.Graph.{Graph}
use Rattle.rdf_term.specs.Statement.{Statement}
use Rattle.change_set.specs.declared.change.Change.{Change}
use Rattle.change_set.specs.declared.change.Change.TheVariants.{Add, Remove, RemoveMatching}
use Rattle.query_model.specs.declared.query.Query.{Query}
use Rattle.journal.specs.declared.txn.Txn.{Txn}
use Rattle.journal.specs.declared.ask.Ask.{Ask}
use Rattle.journal.specs.declared.ask.Ask.TheVariants as asks
use Rattle.journal.specs.declared.op.Op.{Op}
use Rattle.journal.specs.declared.op.Op.TheVariants as ops
use Rattle.journal.specs.declared.op.NamesOp.{NamesOp}
use Rattle.journal.specs.declared.op.NamesOp.TheVariants as names
use Rattle.media.specs.declared.form.Form.{Form}
use Rattle.media.specs.declared.form.Form.TheVariants.{NQuads, XNQuads, NTriples, PlainTriples, ResultsJson, Json, Boolean, PlainText}
use Rattle.media.specs.Forms.{content_type_of}
use Rattle.http_frame.specs.Fields.{closes, values_of}
use Rattle.http_frame.specs.Framing.{lacks_host, expects}
use Rattle.http_frame.specs.Heads.{Shows}
use Rattle.http_frame.specs.RequestWire.{IsLengthSaid, IsSpelled}
use Rattle.http_frame.proofs.DecimalLemmas.{writes}
use Rattle.api_paths.specs.TransactionNames.{name_of}
use Rattle.api_calls.specs.declared.call.Call.{Call}
use Rattle.api_calls.specs.declared.call.Call.TheVariants.{Protocol, Repositories, On}
use Rattle.api_requests.specs.declared.sending.Verb.{Verb}
use Rattle.api_requests.specs.declared.sending.Verb.TheVariants as verbs
use Rattle.api_requests.specs.declared.target.TheConstants.{ESCAPED}
use Rattle.api_requests.specs.Changes.{quads_in, graphs_in, selection_in, sources_in}
use Rattle.api_requests.specs.Laws.{RequestsAreSpelled}
use Rattle.api_requests.specs.Requests.{SeenSending, verb_text, path_text, query_text, target_text, accept_fields, content_fields, body_of, fields_of, request_with, in_server, in_repository, level_text, context_pairs, selection_pairs, action_pairs, query_content, document_content, acted, written, sent_query, listed, sent_size, sent_read, sent_removal, sent_alone, sent_write, write_word, sent_names, sent_op, sent}
use Rattle.api_requests.proofs.SendingLemmas.{own_bytes}
use Rattle.api_requests.proofs.VisibleLemmas.{IsVisible, tested, visible_target, visible_value, visible_trimmed, visible_ascii, visible_bytes, path_visible, query_visible, number_visible}

-- fields whose names are tokens and whose values are of visible characters

record IsVisibleField (field : List ℕ × List ℕ) : Type 0 where
  name : IsToken field.0
  value : All IsVisible field.1

as_field : List ℕ × List ℕ → Field
as_field field = record { name = field.0; raw = 32 ∷ field.1; end = crlf }

values_are : (fs : List (List ℕ × List ℕ)) → All IsVisibleField fs → map name_and_value (map as_field fs) ≡ fs
unfolding as_field
values_are [] v = refl
values_are (f ∷ fs) v =
    let it = All-head IsVisibleField f fs v in
    ap₂ (λ (value : List ℕ) (rest : List (List ℕ × List ℕ)). (f.0, value) ∷ rest) (visible_trimmed f.1 it.value) (values_are fs (All-tail IsVisibleField f fs v))

fields_are : (fs : List (List ℕ × List ℕ)) → All IsVisibleField fs → All IsField (map as_field fs)
unfolding as_field
fields_are [] v = All-nil IsField
fields_are (f ∷ fs) v =
    let it = All-head IsVisibleField f fs v in
    All-cons IsField (as_field f) (map as_field fs)
    (record { name = it.name; raw = All-cons (λ b. IsTrue (is_value_byte b)) 32 f.1 refl (visible_value f.1 it.value) })
    (fields_are fs (All-tail IsVisibleField f fs v))

-- the names of fields and the methods are tokens

host_token : IsToken (codes "Host")
unfolding is_token_byte
host_token = (omega arith, AllPass-from_list_all is_token_byte (codes "Host") refl)

accept_token : IsToken (codes "Accept")
unfolding is_token_byte
accept_token = (omega arith, AllPass-from_list_all is_token_byte (codes "Accept") refl)

type_token : IsToken (codes "Content-Type")
unfolding is_token_byte
type_token = (omega arith, AllPass-from_list_all is_token_byte (codes "Content-Type") refl)

length_token : IsToken (codes "Content-Length")
unfolding is_token_byte
length_token = (omega arith, AllPass-from_list_all is_token_byte (codes "Content-Length") refl)

verb_token : (verb : Verb) → IsToken (verb_text verb)
unfolding is_token_byte
verb_token verbs.Get = (omega arith, AllPass-from_list_all is_token_byte (codes "GET") refl)
verb_token verbs.Post = (omega arith, AllPass-from_list_all is_token_byte (codes "POST") refl)
verb_token verbs.Put = (omega arith, AllPass-from_list_all is_token_byte (codes "PUT") refl)
verb_token verbs.Delete = (omega arith, AllPass-from_list_all is_token_byte (codes "DELETE") refl)

-- the fields of a request

type_visible : (form : Form) → All IsVisible (content_type_of form)
type_visible NQuads = tested (content_type_of NQuads) refl
type_visible XNQuads = tested (content_type_of XNQuads) refl
type_visible NTriples = tested (content_type_of NTriples) refl
type_visible PlainTriples = tested (content_type_of PlainTriples) refl
type_visible ResultsJson = tested (content_type_of ResultsJson) refl
type_visible Json = tested (content_type_of Json) refl
type_visible Boolean = tested (content_type_of Boolean) refl
type_visible PlainText = tested (content_type_of PlainText) refl

-- the type of a body, where there is one
abbrev IsVisibleType : Option (List ℕ × List ℕ) → Type 0
IsVisibleType None = Unit {0}
IsVisibleType (Some content) = All IsVisible content.0

host_visible : (host : List ℕ) → All IsVisible host → All IsVisible (encode_utf8_all host)
host_visible host v = subst (All IsVisible) (sym (visible_bytes host v)) v

accept_visible : (accept : Option Form) → All IsVisibleField (accept_fields accept)
accept_visible None = All-nil IsVisibleField
accept_visible (Some form) = All-cons IsVisibleField (codes "Accept", content_type_of form) [] (record { name = accept_token; value = type_visible form }) (All-nil IsVisibleField)

content_visible : (content : Option (List ℕ × List ℕ)) → IsVisibleType content → length (body_of content) < 2 ^ 64 → All IsVisibleField (content_fields content)
content_visible None typed few = All-nil IsVisibleField
content_visible (Some c) typed few =
    All-cons IsVisibleField (codes "Content-Type", c.0) ((codes "Content-Length", decimal (length c.1)) ∷ []) (record { name = type_token; value = typed })
    (All-cons IsVisibleField (codes "Content-Length", decimal (length c.1)) [] (record { name = length_token; value = number_visible (length c.1) few }) (All-nil IsVisibleField))

-- what a request is written of: a path of visible characters, and a body of such a type
record IsVisibleSending (sending : SeenSending) : Type 0 where
  path : All IsVisible sending.path
  some : 0 < length sending.path
  content : IsVisibleType sending.content

fields_visible : (host : List ℕ) (sending : SeenSending) → All IsVisible host → IsVisibleSending sending → length (body_of sending.content) < 2 ^ 64
    → All IsVisibleField (fields_of host sending)
fields_visible host sending v s few =
    All-cons IsVisibleField (codes "Host", encode_utf8_all host) (accept_fields sending.accept ++ content_fields sending.content)
    (record { name = host_token; value = host_visible host v })
    (All-append IsVisibleField (accept_fields sending.accept) (content_fields sending.content) (accept_visible sending.accept) (content_visible sending.content s.content few))

-- what the fields say

abbrev FieldsWith : List ℕ → Option Form → Option (List ℕ × List ℕ) → List (List ℕ × List ℕ)
FieldsWith host accept content = (codes "Host", encode_utf8_all host) ∷ accept_fields accept ++ content_fields content

has_host : (host : List ℕ) (accept : Option Form) (content : Option (List ℕ × List ℕ)) → lacks_host 1 (FieldsWith host accept content) ≡ false
has_host host None None = refl
has_host host None (Some c) = refl
has_host host (Some f) None = refl
has_host host (Some f) (Some c) = refl

has_no_coding : (host : List ℕ) (accept : Option Form) (content : Option (List ℕ × List ℕ)) → values_of (codes "transfer-encoding") (FieldsWith host accept content) ≡ []
has_no_coding host None None = refl
has_no_coding host None (Some c) = refl
has_no_coding host (Some f) None = refl
has_no_coding host (Some f) (Some c) = refl

expects_nothing : (host : List ℕ) (accept : Option Form) (content : Option (List ℕ × List ℕ)) → expects 1 (FieldsWith host accept content) ≡ false
expects_nothing host None None = refl
expects_nothing host None (Some c) = refl
expects_nothing host (Some f) None = refl
expects_nothing host (Some f) (Some c) = refl

stays_open : (host : List ℕ) (accept : Option Form) (content : Option (List ℕ × List ℕ)) → closes 1 (FieldsWith host accept content) ≡ false
stays_open host None None = refl
stays_open host None (Some c) = refl
stays_open host (Some f) None = refl
stays_open host (Some f) (Some c) = refl

above : (n : ℕ) → 0 < n → nat_lt 0 n ≡ true
above n h = grind (arith, nat_tests)

number_said : (n : ℕ) → n < 2 ^ 64 → IsLengthSaid (decimal n ∷ []) n
number_said n h = let w = writes n h in (ap₂ (λ t u. t && u) (above (length (decimal n)) w.some) w.all, w.value)

length_said : (host : List ℕ) (accept : Option Form) (content : Option (List ℕ × List ℕ)) → length (body_of content) < 2 ^ 64
    → IsLengthSaid (values_of (codes "content-length") (FieldsWith host accept content)) (length (body_of content))
length_said host None None few = refl
length_said host None (Some c) few = number_said (length c.1) few
length_said host (Some f) None few = refl
length_said host (Some f) (Some c) few = number_said (length c.1) few

-- the head

head_for : List ℕ → SeenSending → RequestHead
head_for host sending =
    record { blank = []; method = verb_text sending.verb; target = target_text sending; minor = 1; line_end = crlf; fields = map as_field (fields_of host sending); last = crlf }

target_visible : (sending : SeenSending) → IsVisibleSending sending → All IsVisible (target_text sending)
target_visible sending s = All-append IsVisible sending.path (query_text sending.pairs) s.path (query_visible sending.pairs)

target_is_there : (sending : SeenSending) → IsVisibleSending sending → 0 < length (target_text sending)
target_is_there sending s = let some = s.some in let size = length-append sending.path (query_text sending.pairs) in omega arith

target_bytes : (sending : SeenSending) → IsVisibleSending sending → encode_utf8_all (chars (target_text sending)) ≡ target_text sending
target_bytes sending s = encodes-chars (target_text sending) (IsUtf8-from_ascii (target_text sending) (visible_ascii (target_text sending) (target_visible sending s)))

is_head : (host : List ℕ) (sending : SeenSending) → All IsVisible host → IsVisibleSending sending → length (body_of sending.content) < 2 ^ 64 → IsRequestHead (head_for host sending)
unfolding head_for
is_head host sending v s few =
    let target = target_visible sending s in
    record {
      method = verb_token sending.verb;
      target = (target_is_there sending s, visible_target (target_text sending) target);
      target_text = IsUtf8-from_ascii (target_text sending) (visible_ascii (target_text sending) target);
      minor = omega arith;
      fields = fields_are (fields_of host sending) (fields_visible host sending v s few);
    }

shows_head : (host : List ℕ) (sending : SeenSending) → All IsVisible host → IsVisibleSending sending → length (body_of sending.content) < 2 ^ 64
    → Shows (head_for host sending) (request_with host sending).head
unfolding head_for
shows_head host sending v s few =
    let same = sym (values_are (fields_of host sending) (fields_visible host sending v s few)) in
    record {
      method = own_bytes sending.verb;
      target = target_bytes sending s;
      minor = refl;
      fields = same;
      expects = sym (expects_nothing host sending.accept sending.content) ∙ ap (expects 1) same;
      closes = sym (stays_open host sending.accept sending.content) ∙ ap (closes 1) same;
    }

sending_is_spelled : (host : List ℕ) (sending : SeenSending) → All IsVisible host → IsVisibleSending sending → length (body_of sending.content) < 2 ^ 64
    → IsSpelled (request_with host sending)
sending_is_spelled host sending v s few =
    record {
      head = head_for host sending;
      is_head = is_head host sending v s few;
      shows = shows_head host sending v s few;
      host = has_host host sending.accept sending.content;
      no_coding = has_no_coding host sending.accept sending.content;
      length_is = length_said host sending.accept sending.content few;
    }

-- each call is written of such parts

some_bytes : (c : ℕ) (cs : List ℕ) → 0 < length (c ∷ cs)
some_bytes c cs = omega arith

to_server : (segments : List (List ℕ)) (verb : Verb) (pairs : List (List ℕ × List ℕ)) (accept : Option Form) (content : Option (List ℕ × List ℕ)) → IsVisibleType content
    → IsVisibleSending (record { verb = verb; path = path_text (in_server segments); pairs = pairs; accept = accept; content = content })
to_server segments verb pairs accept content typed =
    record {
      path = path_visible (in_server segments);
      some = some_bytes 47 (percent_encode ESCAPED (codes "rdf4j-server") ++ path_text segments);
      content = typed;
    }

to_repository : (repo : List ℕ) (more : List (List ℕ)) (verb : Verb) (pairs : List (List ℕ × List ℕ)) (accept : Option Form) (content : Option (List ℕ × List ℕ)) → IsVisibleType content
    → IsVisibleSending (record { verb = verb; path = path_text (in_repository repo more); pairs = pairs; accept = accept; content = content })
to_repository repo more verb pairs accept content typed = to_server (codes "repositories" ∷ encode_utf8_all repo ∷ more) verb pairs accept content typed

to_transaction : (repo : List ℕ) (t : Txn) (word : List ℕ) (pairs : List (List ℕ × List ℕ)) (accept : Option Form) (content : Option (List ℕ × List ℕ)) → IsVisibleType content
    → IsVisibleSending (acted repo t word pairs accept content)
to_transaction repo t word pairs accept content typed = to_repository repo (codes "transactions" ∷ name_of t ∷ []) verbs.Put (action_pairs word pairs) accept content typed

query_typed : (q : Query) → IsVisibleType (query_content q)
query_typed q = tested (codes "application/sparql-query") refl

document_typed : (quads : List Statement) → IsVisibleType (document_content quads)
document_typed quads = tested (codes "application/n-quads") refl

of_query : (repo : List ℕ) (txn : Option Txn) (q : Query) (form : Form) → IsVisibleSending (sent_query repo txn q form)
of_query repo None q form = to_repository repo [] verbs.Post [] (Some form) (query_content q) (query_typed q)
of_query repo (Some t) q form = to_transaction repo t (codes "QUERY") [] (Some form) (query_content q) (query_typed q)

of_list : (repo : List ℕ) (txn : Option Txn) (pairs : List (List ℕ × List ℕ)) (form : Form) → IsVisibleSending (listed repo txn pairs form)
of_list repo None pairs form = to_repository repo (codes "statements" ∷ []) verbs.Get pairs (Some form) None tt
of_list repo (Some t) pairs form = to_transaction repo t (codes "GET") pairs (Some form) None tt

of_size : (repo : List ℕ) (txn : Option Txn) (contexts : List Graph) → IsVisibleSending (sent_size repo txn contexts)
of_size repo None contexts = to_repository repo (codes "size" ∷ []) verbs.Get (context_pairs contexts) None None tt
of_size repo (Some t) contexts = to_transaction repo t (codes "SIZE") (context_pairs contexts) None None tt

of_read : (repo : List ℕ) (txn : Option Txn) (ask : Ask) (form : Form) → IsVisibleSending (sent_read repo txn ask form)
of_read repo txn (asks.Query q) form = of_query repo txn q form
of_read repo txn (asks.List s p o contexts) form = of_list repo txn (selection_pairs (record { s = s; p = p; o = o; contexts = contexts })) form
of_read repo txn (asks.Size contexts) form = of_size repo txn contexts
of_read repo txn asks.Contexts form = to_repository repo (codes "contexts" ∷ []) verbs.Get [] (Some form) None tt

of_written : (repo : List ℕ) (verb : Verb) (pairs : List (List ℕ × List ℕ)) (content : Option (List ℕ × List ℕ)) → IsVisibleType content
    → IsVisibleSending (written repo verb pairs content)
of_written repo verb pairs content typed = to_repository repo (codes "statements" ∷ []) verb pairs None content typed

of_addition : (repo : List ℕ) (quads : List Statement) → IsVisibleSending (written repo verbs.Post [] (document_content quads))
of_addition repo quads = of_written repo verbs.Post [] (document_content quads) (document_typed quads)

of_removal : (repo : List ℕ) (changes : List Change) (quads : List Statement) → IsVisibleSending (sent_removal repo changes quads)
of_removal repo changes [] = of_written repo verbs.Delete (selection_pairs (selection_in changes)) None tt
of_removal repo changes (q ∷ quads) =
    of_written repo verbs.Put (context_pairs (graphs_in changes)) (document_content (sources_in changes)) (document_typed (sources_in changes))

of_alone : (repo : List ℕ) (changes : List Change) → IsVisibleSending (sent_alone repo changes)
of_alone repo [] = of_addition repo []
of_alone repo (Add q ∷ changes) = of_addition repo (quads_in (Add q ∷ changes))
of_alone repo (Remove q ∷ changes) = of_addition repo (quads_in (Remove q ∷ changes))
of_alone repo (RemoveMatching p ∷ changes) = of_removal repo (RemoveMatching p ∷ changes) (quads_in changes)

of_write : (repo : List ℕ) (txn : Option Txn) (changes : List Change) → IsVisibleSending (sent_write repo txn changes)
of_write repo None changes = of_alone repo changes
of_write repo (Some t) changes = to_transaction repo t (write_word changes) [] None (document_content (quads_in changes)) (document_typed (quads_in changes))

of_names : (repo : List ℕ) (op : NamesOp) (form : Form) → IsVisibleSending (sent_names repo op form)
of_names repo names.List form = to_repository repo (codes "namespaces" ∷ []) verbs.Get [] (Some form) None tt
of_names repo names.Clear form = to_repository repo (codes "namespaces" ∷ []) verbs.Delete [] None None tt
of_names repo (names.Get prefix) form = to_repository repo (codes "namespaces" ∷ encode_utf8_all prefix ∷ []) verbs.Get [] None None tt
of_names repo (names.Put prefix name) form =
    to_repository repo (codes "namespaces" ∷ encode_utf8_all prefix ∷ []) verbs.Put [] None (Some (content_type_of PlainText, encode_utf8_all name)) (type_visible PlainText)
of_names repo (names.Remove prefix) form = to_repository repo (codes "namespaces" ∷ encode_utf8_all prefix ∷ []) verbs.Delete [] None None tt

of_op : (repo : List ℕ) (op : Op) (form : Form) → IsVisibleSending (sent_op repo op form)
of_op repo (ops.Begin level) form = to_repository repo (codes "transactions" ∷ []) verbs.Post ((codes "isolation-level", level_text level) ∷ []) None None tt
of_op repo (ops.Read txn ask) form = of_read repo txn ask form
of_op repo (ops.Step t q number) form = of_query repo (Some t) q form
of_op repo (ops.Write txn changes) form = of_write repo txn changes
of_op repo (ops.Commit t) form = to_transaction repo t (codes "COMMIT") [] None None tt
of_op repo (ops.Rollback t) form = to_repository repo (codes "transactions" ∷ name_of t ∷ []) verbs.Delete [] None None tt
of_op repo (ops.Ping t) form = to_transaction repo t (codes "PING") [] None None tt
of_op repo (ops.Names op) form = of_names repo op form

of_call : (call : Call) → IsVisibleSending (sent call)
of_call Protocol = to_server (codes "protocol" ∷ []) verbs.Get [] None None tt
of_call (Repositories form) = to_server (codes "repositories" ∷ []) verbs.Get [] (Some form) None tt
of_call (On repo op form) = of_op repo op form

pub requests_are_spelled : RequestsAreSpelled
requests_are_spelled call host to few = sending_is_spelled host (sent call) to (of_call call) few
