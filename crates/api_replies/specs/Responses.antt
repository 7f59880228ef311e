-- The responses to calls, by their replies, and to requests that are refused by their form.
use Rattle.std.specs.Prelude.{ℕ, Bool, List, [], ◌∷◌, ◌++◌, codes, decimal, encode_utf8_all}
use Rattle.rdf_term.specs.Canonical.{canonical_line}
use Rattle.nquads.specs.Written.{document_text}
use Rattle.query_grammar.specs.declared.fault.QueryFault.{QueryFault}
use Rattle.query_grammar.specs.declared.fault.QueryFault.TheVariants as query
use Rattle.results_json.specs.Tables.{table_text}
use Rattle.journal.specs.declared.op.Op.{Op}
use Rattle.journal.specs.declared.reply.Reply.{Reply}
use Rattle.journal.specs.declared.reply.Reply.TheVariants as reply
use Rattle.journal.specs.Journal.{is_commit}
use Rattle.media.specs.declared.form.Form.{Form}
use Rattle.media.specs.declared.form.Form.TheVariants.{PlainText}
use Rattle.http_frame.specs.Messages.{SeenResponse}
use Rattle.http_frame.specs.Wire.{wire}
use Rattle.api_calls.specs.declared.call.Call.{Call}
use Rattle.api_calls.specs.declared.call.Call.TheVariants.{Protocol, Repositories, On}
use Rattle.api_calls.specs.declared.fault.Allow.{Allow}
use Rattle.api_calls.specs.declared.fault.ApiFault.{ApiFault}
use Rattle.api_calls.specs.declared.fault.ApiFault.TheVariants as fault
use Rattle.api_calls.specs.Methods.{methods_of}
use Rattle.api_replies.specs.Parts.{type_field, in_form, refused, no_transaction, too_many_open, too_large, no_memory, created, done, kind_of, truth_body}
use Rattle.api_replies.specs.Tables.{repositories_table, contexts_table, namespaces_table}

-- Refusals by form

-- another method of the resource is asked for than it has; the field Allow lists those (RFC 9110, section 15.5.6)
abbrev pub not_allowed : Allow → SeenResponse
not_allowed allow =
    record { status = 405; fields = type_field PlainText ∷ (codes "Allow", methods_of allow) ∷ []; body = codes "method not allowed" }

-- a query is refused at a byte
abbrev pub query_refusal : QueryFault → SeenResponse
query_refusal (query.BadAt n) = refused 400 (codes "bad query at " ++ decimal n)
query_refusal (query.Unsupported n) = refused 400 (codes "unsupported at " ++ decimal n)
query_refusal (query.UnknownPrefix n) = refused 400 (codes "unknown prefix at " ++ decimal n)
query_refusal query.Memory = no_memory

-- the response to a request that is refused by its form
unfoldable pub refusal : ApiFault → SeenResponse
refusal fault.NoResource = refused 404 (codes "no such resource")
refusal fault.NoRepository = refused 404 (codes "no such repository")
refusal fault.BadName = no_transaction
refusal (fault.Method allow) = not_allowed allow
refusal fault.Media = refused 415 (codes "unsupported media type")
refusal (fault.Parameter name) = refused 400 (codes "bad parameter " ++ encode_utf8_all name)
refusal (fault.Line n) = refused 400 (codes "bad line " ++ decimal n)
refusal (fault.LongLine n) = refused 400 (codes "long line " ++ decimal n)
refusal (fault.Query why) = query_refusal why
refusal fault.Namespace = refused 400 (codes "bad namespace")
refusal fault.NotAcceptable = refused 406 (codes "not acceptable")
refusal fault.Memory = no_memory

-- Replies

-- the response to an op on a repository, by its reply: in the form of the call where the reply has one
abbrev pub reply_response : List ℕ → Op → Form → Reply → SeenResponse
reply_response repo op form (reply.Begun t) = created repo t
reply_response repo op form reply.Done = done (is_commit op)
reply_response repo op form (reply.Table table) = in_form form (table_text table)
reply_response repo op form (reply.Truth truth) = in_form form (truth_body form truth)
reply_response repo op form (reply.Quads quads) = in_form form (encode_utf8_all (document_text (kind_of form) quads))
reply_response repo op form (reply.Count count) = in_form PlainText (decimal count)
reply_response repo op form (reply.Contexts names) = in_form form (table_text (contexts_table names))
reply_response repo op form (reply.Prefixes pairs) = in_form form (table_text (namespaces_table pairs))
reply_response repo op form (reply.Prefix name) = in_form PlainText (encode_utf8_all name)
reply_response repo op form reply.NoPrefix = refused 404 (codes "no such prefix")
reply_response repo op form reply.NoTransaction = no_transaction
reply_response repo op form reply.TooManyOpen = too_many_open
reply_response repo op form (reply.Conflict pattern quad) = refused 409 (encode_utf8_all (canonical_line quad))
reply_response repo op form reply.TooLarge = too_large
reply_response repo op form reply.TooManyRows = refused 507 (codes "too many rows")

-- The response to a call, by its reply. The protocol's version and the list of the repositories of these IDs need none.
unfoldable pub response : Call → List (List ℕ) → Reply → SeenResponse
response Protocol repos r = in_form PlainText (codes "12")
response (Repositories form) repos r = in_form form (table_text (repositories_table repos))
response (On repo op form) repos r = reply_response repo op form r

-- Their bytes, by the minor version of the request, whether the connection ends after them, and whether they are to have no body

abbrev pub refusal_bytes : ApiFault → ℕ → Bool → Bool → List ℕ
refusal_bytes why minor closes bodiless = wire (refusal why) minor closes bodiless

abbrev pub response_bytes : Call → List (List ℕ) → Reply → ℕ → Bool → Bool → List ℕ
response_bytes call repos r minor closes bodiless = wire (response call repos r) minor closes bodiless
