-- The request that is written for a spellable call is read as that call, resource by resource.
use Rattle.std.proofs.Common.{◌≡◌, ◌<◌, ◌^◌, ℕ, zero, suc, List, [], ◌∷◌, ◌++◌, Bool, true, false, ◌||◌, ◌&&◌, not, if◌then◌else◌, Option, Some, None, Ok, Err, map, refl, sym, ap, ◌∙◌, subst, arith, codes, encode_utf8_all, Contains, length, All, inl, inr, find, decimal, IsAscii}
use Rattle.std.specs.List.{AllByRecursion}
use Rattle.std.specs.Str.{IsUtf8, is_utf8, all_scalars, chars}
use Rattle.std.proofs.lemmas.Bool.{ne_eqb}
use Rattle.std.proofs.lemmas.Fmt.{IsAscii-decimal}
use Rattle.std.proofs.lemmas.List.Elements.{All-nil}
use Rattle.std.proofs.lemmas.Str.{chars-encodes, encodes-chars, encode_ascii, is_utf8-from_IsUtf8, IsUtf8-from_ascii, IsAscii-append}
use Rattle.rdf_term.specs.Statement.{Statement}
use Rattle.rdf_term.specs.Validity.{IsValidTerm, is_part, is_iri_text, is_short}
use Rattle.rdf_term.specs.declared.term.Term.{Term}
use Rattle.rdf_term.specs.declared.term.Term.TheVariants.{Iri}
use Rattle.rdf_term.specs.declared.graph.Graph.{Graph}
use Rattle.nquads_line.specs.Laws.{TermsReadAgain}
use Rattle.nquads_line.specs.declared.kind.Kind.TheVariants.{Quads}
use Rattle.nquads.specs.Laws.{DocumentsReadAgain}
use Rattle.nquads.specs.Written.{IsWritable, document_text}
use Rattle.change_set.specs.declared.change.Change.{Change}
use Rattle.change_set.specs.declared.change.Change.TheVariants.{Add, Remove}
use Rattle.query_model.specs.declared.query.Query.{Query}
use Rattle.query_model.specs.declared.query.Query.TheVariants as queries
use Rattle.query_model.specs.WellFormed.{IsWellFormed}
use Rattle.query_print.specs.Laws.{PrintedAreReadAgain}
use Rattle.query_print.specs.Printed.{printed, spaced, distinct_words, projection_words, group_words, cut_words}
use Rattle.journal.specs.Levels.{level_number}
use Rattle.journal.specs.declared.level.Level.{Level}
use Rattle.journal.specs.declared.level.Level.TheVariants.{NoIsolation, ReadUncommitted, ReadCommitted, SnapshotRead, Snapshot, Serializable}
use Rattle.journal.specs.declared.txn.Txn.{Txn}
use Rattle.journal.specs.declared.ask.Ask.{Ask}
use Rattle.journal.specs.declared.ask.Ask.TheVariants as asks
use Rattle.journal.specs.declared.op.Op.{Op}
use Rattle.journal.specs.declared.op.Op.TheVariants as ops
use Rattle.journal.specs.declared.op.NamesOp.{NamesOp}
use Rattle.journal.specs.declared.op.NamesOp.TheVariants as names
use Rattle.media.specs.declared.form.Form.{Form}
use Rattle.media.specs.declared.form.Form.TheVariants.{PlainText}
use Rattle.media.specs.Forms.{content_type_of}
use Rattle.api_parts.specs.declared.selection.Selection.{Selection}
use Rattle.api_parts.specs.Parameters.{values_of}
use Rattle.api_parts.specs.Selections.{IsContexts, IsSelection}
use Rattle.api_parts.specs.Writes.{additions, deletions, removals, everything_in, replacements}
use Rattle.api_paths.specs.Prefixes.{is_prefix}
use Rattle.api_paths.specs.TransactionNames.{IsTransactionName, name_of}
use Rattle.api_calls.specs.declared.call.Call.TheVariants.{Protocol, Repositories, On}
use Rattle.api_calls.specs.declared.fault.ApiFault.{ApiFault}
use Rattle.api_calls.specs.declared.fault.ApiFault.TheVariants as faults
use Rattle.api_calls.specs.declared.fault.Allow.TheVariants as allow
use Rattle.repo_api.specs.declared.method.Method.TheVariants.{Get, Post, Put, Delete}
use Rattle.repo_api.specs.declared.resource.Part.{Part}
use Rattle.repo_api.specs.declared.resource.Part.TheVariants as parts
use Rattle.repo_api.specs.declared.resource.Resource.TheVariants as resources
use Rattle.repo_api.specs.declared.task.Task.{Task}
use Rattle.repo_api.specs.declared.task.Task.TheVariants as tasks
use Rattle.repo_api.specs.declared.task.Writing.{Writing}
use Rattle.repo_api.specs.declared.task.Writing.TheVariants.{Adds, Replaces, Removes}
use Rattle.repo_api.specs.Accepts.{quad_forms, table_forms}
use Rattle.repo_api.specs.Calls.{Asks, QueryIn, Queries, changes_of, IsCallOf}
use Rattle.repo_api.specs.Checks.{passed, tested}
use Rattle.repo_api.specs.Content.{is_coded, is_empty, is_namespace, namespace_of}
use Rattle.repo_api.specs.Parameters.{target_parameters, is_sparql, is_binding, level_in}
use Rattle.repo_api.specs.Queries.{is_query_body, query_bodies, query_text, only, forms_of}
use Rattle.repo_api.specs.Resources.{segments_below, behind_repositories, segments_of, method_of, is_text}
use Rattle.repo_api.specs.Tasks.{bad, task_at, task_of_actions}
use Rattle.api_requests.specs.declared.sending.Verb.{Verb}
use Rattle.api_requests.specs.declared.sending.Verb.TheVariants as verbs
use Rattle.api_requests.specs.Laws.{WrittenIsReadBack}
use Rattle.api_requests.specs.Requests.{SeenSending, verb_text, path_text, request_with, sent_op, sent_alone, sent_query, sent_list, sent_size, sent_write, sent_names, in_server, in_repository, acted, got, written, context_pairs, selection_pairs, part_pairs, action_pairs, level_text, query_content, document_content}
use Rattle.api_requests.specs.Spellable.{IsAmong, IsText, IsNamed, IsNamedOrNone, IsContextGraph, AreContextGraphs, IsSelectable, IsAskable, IsWriting, IsPrefixText, IsNaming, IsSpellableOp}
use Rattle.api_requests.proofs.ByteLemmas.{first_of, second_of, text_utf8}
use Rattle.api_requests.proofs.ChangeLemmas.{added_quads, removed_quads, sent_removals, sent_additions, sources, sources_writable, same_replacement, sent_replacements, replaced_by_nothing, placed_alone, add_word}
use Rattle.api_requests.proofs.FormLemmas.{IsChosen, chosen_table, chosen_truth, chosen_quad}
use Rattle.api_requests.proofs.GraphLemmas.{graphs_by, contexts_are, selection_is, context_pairs_utf8, selection_pairs_utf8, values_of_contexts}
use Rattle.api_requests.proofs.ParameterLemmas.{IsTextPair}
use Rattle.api_requests.proofs.ReadLemmas.{FieldsOf, is_uncoded, form_found, gets_among, document_kind, no_form, query_is_no_form, query_is_query, all_are, on_part, on_transaction, rolled_back}
use Rattle.api_requests.proofs.TargetLemmas.{target_names, target_parameters_are}

-- the laws of the crates below
pub record Facts : Type 0 where
  pub terms : TermsReadAgain
  pub documents : DocumentsReadAgain
  pub queries : PrintedAreReadAgain
  pub scalars : (q : Query) → IsWellFormed q → all_scalars (printed q) ≡ true

-- a request to a repository that is there
pub record IsTo (repos : List (List ℕ)) (repo : List ℕ) : Type 0 where
  pub there : Contains repos repo
  pub text : IsText repo

-- the segments of paths

abbrev AreSegments : List (List ℕ) → Type 0
AreSegments = AllByRecursion IsUtf8

server_utf8 : IsUtf8 (codes "rdf4j-server")
unfolding lib.Utf8.encode
server_utf8 = (codes "rdf4j-server", (refl, refl))

repositories_utf8 : IsUtf8 (codes "repositories")
unfolding lib.Utf8.encode
repositories_utf8 = (codes "repositories", (refl, refl))

-- the behind part of a path, as bytes and as texts
record Behind (more texts : List (List ℕ)) : Type 0 where
  utf8 : AreSegments more
  read : map chars more ≡ texts

segments_utf8 : (repo : List ℕ) → IsText repo → (more texts : List (List ℕ)) → Behind more texts → AreSegments (in_repository repo more)
segments_utf8 repo text more texts behind = (server_utf8, (repositories_utf8, (text_utf8 repo text, behind.utf8)))

segments_read : (repo : List ℕ) → IsText repo → (more texts : List (List ℕ)) → Behind more texts → [] ∷ map chars (in_repository repo more) ≡ behind_repositories (repo ∷ texts)
unfolding chars
segments_read repo text more texts behind = λ i. [] ∷ codes "rdf4j-server" ∷ codes "repositories" ∷ chars-encodes repo text i ∷ behind.read i

nothing_behind : Behind [] []
nothing_behind = record { utf8 = tt; read = refl }

statements_behind : Behind (codes "statements" ∷ []) (codes "statements" ∷ [])
unfolding lib.Utf8.encode chars
statements_behind = record { utf8 = ((codes "statements", (refl, refl)), tt); read = refl }

contexts_behind : Behind (codes "contexts" ∷ []) (codes "contexts" ∷ [])
unfolding lib.Utf8.encode chars
contexts_behind = record { utf8 = ((codes "contexts", (refl, refl)), tt); read = refl }

size_behind : Behind (codes "size" ∷ []) (codes "size" ∷ [])
unfolding lib.Utf8.encode chars
size_behind = record { utf8 = ((codes "size", (refl, refl)), tt); read = refl }

namespaces_behind : Behind (codes "namespaces" ∷ []) (codes "namespaces" ∷ [])
unfolding lib.Utf8.encode chars
namespaces_behind = record { utf8 = ((codes "namespaces", (refl, refl)), tt); read = refl }

transactions_behind : Behind (codes "transactions" ∷ []) (codes "transactions" ∷ [])
unfolding lib.Utf8.encode chars
transactions_behind = record { utf8 = ((codes "transactions", (refl, refl)), tt); read = refl }

namespace_behind : (prefix : List ℕ) → IsText prefix → Behind (codes "namespaces" ∷ encode_utf8_all prefix ∷ []) (codes "namespaces" ∷ prefix ∷ [])
namespace_behind prefix text =
    record {
      utf8 = (namespaces_behind.utf8.0, (text_utf8 prefix text, tt));
      read = (λ i. namespaces_behind.read i ++ chars-encodes prefix text i ∷ []);
    }

-- the name of a transaction

small_level : (level : Level) → level_number level < 2 ^ 64
small_level NoIsolation = omega arith
small_level ReadUncommitted = omega arith
small_level ReadCommitted = omega arith
small_level SnapshotRead = omega arith
small_level Snapshot = omega arith
small_level Serializable = omega arith

hyphen_ascii : IsAscii (45 ∷ [])
hyphen_ascii zero = omega arith
hyphen_ascii (suc n) = omega arith

name_utf8 : (t : Txn) → IsNamed t → IsUtf8 (name_of t)
name_utf8 t named =
    IsUtf8-from_ascii (name_of t)
    (IsAscii-append (decimal t.place) (45 ∷ decimal (level_number t.level)) (IsAscii-decimal t.place (omega (arith, named)))
    (IsAscii-append (45 ∷ []) (decimal (level_number t.level)) hyphen_ascii (IsAscii-decimal (level_number t.level) (small_level t.level))))

name_behind : (t : Txn) → IsNamed t → Behind (codes "transactions" ∷ name_of t ∷ []) (codes "transactions" ∷ chars (name_of t) ∷ [])
name_behind t named =
    record { utf8 = (transactions_behind.utf8.0, (name_utf8 t named, tt)); read = (λ i. transactions_behind.read i ++ chars (name_of t) ∷ []) }

name_is : (t : Txn) → IsNamed t → IsTransactionName (chars (name_of t)) t
name_is t named = (encodes-chars (name_of t) (name_utf8 t named), named)

-- methods

get_is : method_of (verb_text verbs.Get) ≡ Some Get
unfolding lib.Utf8.encode
get_is = refl

post_is : method_of (verb_text verbs.Post) ≡ Some Post
unfolding lib.Utf8.encode
post_is = refl

put_is : method_of (verb_text verbs.Put) ≡ Some Put
unfolding lib.Utf8.encode
put_is = refl

delete_is : method_of (verb_text verbs.Delete) ≡ Some Delete
unfolding lib.Utf8.encode
delete_is = refl

-- a request to a part of a repository

abbrev SendingTo : List ℕ → List (List ℕ) → Verb → List (List ℕ × List ℕ) → Option Form → Option (List ℕ × List ℕ) → SeenSending
SendingTo repo more verb pairs accept content = record { verb = verb; path = path_text (in_repository repo more); pairs = pairs; accept = accept; content = content }

to_part : (host repo : List ℕ) (repos : List (List ℕ)) → IsTo repos repo → (part : Part) (more : List (List ℕ)) → Behind more (segments_below part)
    → (verb : Verb) (pairs : List (List ℕ × List ℕ)) (accept : Option Form) (content : Option (List ℕ × List ℕ)) (task : Task) (op : Op) (form : Form)
    → Ok task ≡ task_at part (method_of (verb_text verb))
    → Asks (request_with host (SendingTo repo more verb pairs accept content)) task (Ok (op, form))
    → IsCallOf (request_with host (SendingTo repo more verb pairs accept content)) repos (Ok (On repo op form))
to_part host repo repos to part more behind verb pairs accept content task op form at asked =
    on_part (request_with host (SendingTo repo more verb pairs accept content)) repos repo part task op form
    (target_names (codes "rdf4j-server") (codes "repositories" ∷ encode_utf8_all repo ∷ more) pairs (resources.Of repo part) (segments_utf8 repo to.text more (segments_below part) behind)
    (segments_read repo to.text more (segments_below part) behind))
    to.there at (is_uncoded host accept content) asked

-- its parameters
pairs_read : (host repo : List ℕ) (more : List (List ℕ)) (verb : Verb) (pairs : List (List ℕ × List ℕ)) (accept : Option Form) (content : Option (List ℕ × List ℕ))
    → AllByRecursion IsTextPair pairs → target_parameters (request_with host (SendingTo repo more verb pairs accept content)) ≡ pairs
pairs_read host repo more verb pairs accept content all = target_parameters_are (codes "rdf4j-server") (codes "repositories" ∷ encode_utf8_all repo ∷ more) pairs all

-- an action

action_utf8 : IsUtf8 (codes "action")
unfolding lib.Utf8.encode
action_utf8 = (codes "action", (refl, refl))

to_transaction : (host repo : List ℕ) (repos : List (List ℕ)) → IsTo repos repo → (t : Txn) → IsNamed t → (word : List ℕ) (pairs : List (List ℕ × List ℕ)) (accept : Option Form)
    (content : Option (List ℕ × List ℕ)) (task : Task) (op : Op) (form : Form) → AllByRecursion IsTextPair (action_pairs word pairs)
    → Ok task ≡ task_of_actions t (values_of (codes "action") (action_pairs word pairs))
    → Asks (request_with host (acted repo t word pairs accept content)) task (Ok (op, form))
    → IsCallOf (request_with host (acted repo t word pairs accept content)) repos (Ok (On repo op form))
to_transaction host repo repos to t named word pairs accept content task op form all acts asked =
    on_transaction (request_with host (acted repo t word pairs accept content)) repos repo (chars (name_of t)) t task op form
    (target_names (codes "rdf4j-server") (codes "repositories" ∷ encode_utf8_all repo ∷ codes "transactions" ∷ name_of t ∷ []) (action_pairs word pairs)
    (resources.Transaction repo (chars (name_of t))) (segments_utf8 repo to.text _ _ (name_behind t named)) (segments_read repo to.text _ _ (name_behind t named)))
    to.there (name_is t named) put_is (is_uncoded host accept content)
    (acts ∙ ap (λ (found : List (List ℕ × List ℕ)). task_of_actions t (values_of (codes "action") found))
    (sym (pairs_read host repo (codes "transactions" ∷ name_of t ∷ []) verbs.Put (action_pairs word pairs) accept content all)))
    asked

-- no action among the parameters that select

no_action : (gs : List Graph) → values_of (codes "action") (context_pairs gs) ≡ []
no_action [] = refl
no_action (g ∷ gs) = no_action gs

no_action_selected : (s p o : Option Term) (gs : List Graph)
    → values_of (codes "action") (part_pairs (codes "subj") s ++ part_pairs (codes "pred") p ++ part_pairs (codes "obj") o ++ context_pairs gs) ≡ []
no_action_selected None None None gs = no_action gs
no_action_selected None None (Some o) gs = no_action gs
no_action_selected None (Some p) None gs = no_action gs
no_action_selected None (Some p) (Some o) gs = no_action gs
no_action_selected (Some s) None None gs = no_action gs
no_action_selected (Some s) None (Some o) gs = no_action gs
no_action_selected (Some s) (Some p) None gs = no_action gs
no_action_selected (Some s) (Some p) (Some o) gs = no_action gs

one_word : (word : List ℕ) (pairs : List (List ℕ × List ℕ)) → values_of (codes "action") pairs ≡ [] → values_of (codes "action") (action_pairs word pairs) ≡ word ∷ []
one_word word pairs e = ap (λ (words : List (List ℕ)). word ∷ words) e

-- ---- size

size_word : IsUtf8 (codes "SIZE")
unfolding lib.Utf8.encode
size_word = (codes "SIZE", (refl, refl))

size_read : Facts → (host repo : List ℕ) (repos : List (List ℕ)) → IsTo repos repo → (txn : Option Txn) → IsNamedOrNone txn → (contexts : List Graph) → AreContextGraphs contexts
    → IsCallOf (request_with host (sent_size repo txn contexts)) repos (Ok (On repo (ops.Read txn (asks.Size contexts)) PlainText))
size_read facts host repo repos to None named contexts are =
    to_part host repo repos to parts.Size (codes "size" ∷ []) size_behind verbs.Get (context_pairs contexts) None None (tasks.Size None) (ops.Read None (asks.Size contexts)) PlainText
    (ap (task_at parts.Size) (sym get_is))
    (passed contexts
    (subst (λ (pairs : List (List ℕ × List ℕ)). IsContexts pairs contexts)
    (sym (pairs_read host repo (codes "size" ∷ []) verbs.Get (context_pairs contexts) None None (context_pairs_utf8 facts.terms contexts are))) (contexts_are facts.terms contexts are))
    refl)
size_read facts host repo repos to (Some t) named contexts are =
    let all : AllByRecursion IsTextPair (action_pairs (codes "SIZE") (context_pairs contexts)) = ((action_utf8, size_word), context_pairs_utf8 facts.terms contexts are) in
    to_transaction host repo repos to t named (codes "SIZE") (context_pairs contexts) None None (tasks.Size (Some t)) (ops.Read (Some t) (asks.Size contexts)) PlainText all
    (ap (task_of_actions t) (sym (one_word (codes "SIZE") (context_pairs contexts) (no_action contexts))))
    (passed contexts
    (subst (λ (pairs : List (List ℕ × List ℕ)). IsContexts pairs contexts)
    (sym (pairs_read host repo (codes "transactions" ∷ name_of t ∷ []) verbs.Put (action_pairs (codes "SIZE") (context_pairs contexts)) None None all))
    (graphs_by facts.terms (action_pairs (codes "SIZE") (context_pairs contexts)) contexts are (values_of_contexts contexts)))
    refl)

-- ---- contexts

contexts_read : (host repo : List ℕ) (repos : List (List ℕ)) → IsTo repos repo → (form : Form) → IsAmong table_forms form
    → IsCallOf (request_with host (got (in_repository repo (codes "contexts" ∷ [])) [] (Some form))) repos (Ok (On repo (ops.Read None asks.Contexts) form))
contexts_read host repo repos to form among =
    to_part host repo repos to parts.Contexts (codes "contexts" ∷ []) contexts_behind verbs.Get [] (Some form) None tasks.Contexts (ops.Read None asks.Contexts) form
    (ap (task_at parts.Contexts) (sym get_is))
    (gets_among host form None (request_with host (SendingTo repo (codes "contexts" ∷ []) verbs.Get [] (Some form) None)) table_forms (ops.Read None asks.Contexts) refl (chosen_table form among))

-- ---- statements that are listed

list_word : IsUtf8 (codes "GET")
unfolding lib.Utf8.encode
list_word = (codes "GET", (refl, refl))

behind_action : (word : List ℕ) (pairs : List (List ℕ × List ℕ)) (it : Selection) → IsSelection pairs it → IsSelection (action_pairs word pairs) it
behind_action word pairs it x = record { s = x.s; p = x.p; o = x.o; contexts = x.contexts }

list_read : Facts → (host repo : List ℕ) (repos : List (List ℕ)) → IsTo repos repo → (txn : Option Txn) → IsNamedOrNone txn → (it : Selection) → IsSelectable it → (form : Form)
    → IsAmong quad_forms form → IsCallOf (request_with host (sent_list repo txn it form)) repos (Ok (On repo (ops.Read txn (asks.List it.s it.p it.o it.contexts)) form))
list_read facts host repo repos to None named it is form among =
    to_part host repo repos to parts.Statements (codes "statements" ∷ []) statements_behind verbs.Get (selection_pairs it) (Some form) None (tasks.List None)
    (ops.Read None (asks.List it.s it.p it.o it.contexts)) form (ap (task_at parts.Statements) (sym get_is))
    (passed it
    (subst (λ (pairs : List (List ℕ × List ℕ)). IsSelection pairs it)
    (sym (pairs_read host repo (codes "statements" ∷ []) verbs.Get (selection_pairs it) (Some form) None (selection_pairs_utf8 facts.terms it is))) (selection_is facts.terms it is))
    (gets_among host form None (request_with host (SendingTo repo (codes "statements" ∷ []) verbs.Get (selection_pairs it) (Some form) None)) quad_forms (ops.Read None (asks.List it.s it.p it.o it.contexts)) refl (chosen_quad form among)))
list_read facts host repo repos to (Some t) named it is form among =
    let all : AllByRecursion IsTextPair (action_pairs (codes "GET") (selection_pairs it)) = ((action_utf8, list_word), selection_pairs_utf8 facts.terms it is) in
    to_transaction host repo repos to t named (codes "GET") (selection_pairs it) (Some form) None (tasks.List (Some t)) (ops.Read (Some t) (asks.List it.s it.p it.o it.contexts)) form all
    (ap (task_of_actions t) (sym (one_word (codes "GET") (selection_pairs it) (no_action_selected it.s it.p it.o it.contexts))))
    (passed it
    (subst (λ (pairs : List (List ℕ × List ℕ)). IsSelection pairs it)
    (sym (pairs_read host repo (codes "transactions" ∷ name_of t ∷ []) verbs.Put (action_pairs (codes "GET") (selection_pairs it)) (Some form) None all))
    (behind_action (codes "GET") (selection_pairs it) it (selection_is facts.terms it is)))
    (gets_among host form None (request_with host (acted repo t (codes "GET") (selection_pairs it) (Some form) None)) quad_forms (ops.Read (Some t) (asks.List it.s it.p it.o it.contexts)) refl (chosen_quad form among)))

-- ---- queries

or_true : (a b : Bool) → b ≡ true → (a || b) ≡ true
or_true true b e = refl
or_true false b e = e

three_true : (a b c : Bool) → a ≡ true → b ≡ false → c ≡ true → (a && not b && c) ≡ true
three_true true false true x y z = refl
three_true true false false x y z = cc
three_true true true c x y z = cc
three_true false b c x y z = cc

some_bytes : (c : ℕ) (cs : List ℕ) → is_empty (c ∷ cs) ≡ false
some_bytes c cs = ne_eqb (length (c ∷ cs)) 0 (λ e. omega arith)

front_bytes : (c : ℕ) (cs : List ℕ) → c < 128 → is_empty (encode_utf8_all (c ∷ cs)) ≡ false
front_bytes c cs h = ap (λ (front : List ℕ). is_empty (front ++ encode_utf8_all cs)) (encode_ascii c h) ∙ some_bytes c (encode_utf8_all cs)

printed_bytes : (q : Query) → is_empty (encode_utf8_all (printed q)) ≡ false
printed_bytes (queries.Select distinct vars group cut) =
    front_bytes 83 (codes "ELECT" ++ spaced (distinct_words distinct ++ projection_words vars ++ codes "WHERE" ∷ group_words group ++ cut_words cut)) (omega arith)
printed_bytes (queries.Ask group) = front_bytes 65 (codes "SK" ++ spaced (codes "WHERE" ∷ group_words group)) (omega arith)
printed_bytes (queries.Construct template group cut) =
    front_bytes 67 (codes "ONSTRUCT" ++ spaced (group_words template ++ codes "WHERE" ∷ group_words group ++ cut_words cut)) (omega arith)

chosen_answer : (q : Query) (form : Form) → IsAmong (forms_of q) form → IsChosen (forms_of q) form
chosen_answer (queries.Select distinct vars group cut) form among = chosen_table form among
chosen_answer (queries.Ask group) form among = chosen_truth form among
chosen_answer (queries.Construct template group cut) form among = chosen_quad form among

-- parameters that say nothing of a query
record AreSilent (pairs : List (List ℕ × List ℕ)) : Type 0 where
  language : values_of (codes "queryLn") pairs ≡ []
  query : values_of (codes "query") pairs ≡ []
  binding : find is_binding pairs ≡ None

query_asked : Facts → (host repo : List ℕ) (more : List (List ℕ)) (verb : Verb) (pairs : List (List ℕ × List ℕ)) (txn : Option Txn) (q : Query) (form : Form) → IsWellFormed q
    → IsAmong (forms_of q) form → AllByRecursion IsTextPair pairs → AreSilent pairs
    → Asks (request_with host (SendingTo repo more verb pairs (Some form) (query_content q))) (tasks.Query txn) (Ok (ops.Read txn (asks.Query q), form))
query_asked facts host repo more verb pairs txn q form well among all silent =
    let body = encode_utf8_all (printed q) in
    let r = request_with host (SendingTo repo more verb pairs (Some form) (query_content q)) in
    let is_query = query_is_query host (Some form) body in
    let is_body : is_query_body r ≡ true = three_true _ (is_empty body) (is_utf8 body) is_query (printed_bytes q) (is_utf8-from_IsUtf8 body (text_utf8 (printed q) (facts.scalars q well))) in
    let text : Ok body ≡ query_text r pairs =
    sym (ap (λ (values : List (List ℕ)). only (values ++ query_bodies r)) silent.query ∙ ap (λ (test : Bool). only (if test then body ∷ [] else [])) is_body) in
    let asked : QueryIn r pairs (Ok q) =
    passed tt (ap (λ (values : List (List ℕ)). tested (bad (codes "queryLn")) (is_sparql values)) (sym silent.language))
    (passed body text (passed tt silent.binding (facts.queries q well))) in
    let answered : Queries r txn pairs (Ok (ops.Read txn (asks.Query q), form)) =
    passed q asked (gets_among host form (query_content q) r (forms_of q) (ops.Read txn (asks.Query q)) refl (chosen_answer q form among)) in
    passed tt (ap (tested faults.Media) (sym (or_true _ _ is_query)))
    (subst (λ (found : List (List ℕ × List ℕ)). Queries r txn found (Ok (ops.Read txn (asks.Query q), form)))
    (sym (all_are r pairs (query_is_no_form host (Some form) body) (pairs_read host repo more verb pairs (Some form) (query_content q) all))) answered)

query_word : IsUtf8 (codes "QUERY")
unfolding lib.Utf8.encode
query_word = (codes "QUERY", (refl, refl))

query_read : Facts → (host repo : List ℕ) (repos : List (List ℕ)) → IsTo repos repo → (txn : Option Txn) → IsNamedOrNone txn → (q : Query) → IsWellFormed q → (form : Form)
    → IsAmong (forms_of q) form → IsCallOf (request_with host (sent_query repo txn q form)) repos (Ok (On repo (ops.Read txn (asks.Query q)) form))
query_read facts host repo repos to None named q well form among =
    to_part host repo repos to parts.Queries [] nothing_behind verbs.Post [] (Some form) (query_content q) (tasks.Query None) (ops.Read None (asks.Query q)) form
    (ap (task_at parts.Queries) (sym post_is))
    (query_asked facts host repo [] verbs.Post [] None q form well among tt (record { language = refl; query = refl; binding = refl }))
query_read facts host repo repos to (Some t) named q well form among =
    let all : AllByRecursion IsTextPair (action_pairs (codes "QUERY") []) = ((action_utf8, query_word), tt) in
    to_transaction host repo repos to t named (codes "QUERY") [] (Some form) (query_content q) (tasks.Query (Some t)) (ops.Read (Some t) (asks.Query q)) form all refl
    (query_asked facts host repo (codes "transactions" ∷ name_of t ∷ []) verbs.Put (action_pairs (codes "QUERY") []) (Some t) q form well among all
    (record { language = refl; query = refl; binding = refl }))

-- ---- writes

no_contexts : AreContextGraphs []
no_contexts = record { each = All-nil IsContextGraph; once = (λ i j d less within e. absurd (omega (arith, within))) }

-- a document in contexts
document_asked : Facts → (host repo : List ℕ) (more : List (List ℕ)) (verb : Verb) (pairs : List (List ℕ × List ℕ)) (txn : Option Txn) (writing : Writing) (contexts : List Graph)
    (quads : List Statement) → AreContextGraphs contexts → All IsWritable quads → AllByRecursion IsTextPair pairs → IsContexts pairs contexts
    → Asks (request_with host (SendingTo repo more verb pairs None (document_content quads))) (tasks.Write txn writing) (Ok (ops.Write txn (changes_of writing contexts quads), PlainText))
document_asked facts host repo more verb pairs txn writing contexts quads are writable all is =
    passed Quads (document_kind host None (encode_utf8_all (document_text Quads quads)))
    (passed contexts
    (subst (λ (found : List (List ℕ × List ℕ)). IsContexts found contexts) (sym (pairs_read host repo more verb pairs None (document_content quads) all)) is)
    (passed quads (facts.documents Quads quads writable) refl))

abbrev Wrote : List ℕ → List (List ℕ) → List ℕ → Option Txn → SeenSending → List Change → Type 0
Wrote host repos repo txn sending changes = IsCallOf (request_with host sending) repos (Ok (On repo (ops.Write txn changes) PlainText))

as_changes : (host : List ℕ) (repos : List (List ℕ)) (repo : List ℕ) (txn : Option Txn) (sending other : SeenSending) (changes wanted : List Change)
    → other ≡ sending → changes ≡ wanted → Wrote host repos repo txn sending changes → Wrote host repos repo txn other wanted
as_changes host repos repo txn sending other changes wanted e f x =
    subst (λ (s : SeenSending). Wrote host repos repo txn s wanted) (sym e) (subst (λ (cs : List Change). Wrote host repos repo txn sending cs) f x)

addition_read : Facts → (host repo : List ℕ) (repos : List (List ℕ)) → IsTo repos repo → (quads : List Statement) → All IsWritable quads
    → Wrote host repos repo None (sent_alone repo (map Add quads)) (map Add quads)
addition_read facts host repo repos to quads writable =
    as_changes host repos repo None (written repo verbs.Post [] (document_content quads)) (sent_alone repo (map Add quads)) (additions [] quads) (map Add quads)
    (sent_additions repo quads) (ap (map Add) (placed_alone quads))
    (to_part host repo repos to parts.Statements (codes "statements" ∷ []) statements_behind verbs.Post [] None (document_content quads) (tasks.Write None Adds)
    (ops.Write None (additions [] quads)) PlainText (ap (task_at parts.Statements) (sym post_is))
    (document_asked facts host repo (codes "statements" ∷ []) verbs.Post [] None Adds [] quads no_contexts writable tt (contexts_are facts.terms [] no_contexts)))

removal_read : Facts → (host repo : List ℕ) (repos : List (List ℕ)) → IsTo repos repo → (it : Selection) → IsSelectable it
    → Wrote host repos repo None (sent_alone repo (removals it)) (removals it)
removal_read facts host repo repos to it is =
    as_changes host repos repo None (written repo verbs.Delete (selection_pairs it) None) (sent_alone repo (removals it)) (removals it) (removals it) (sent_removals repo it) refl
    (to_part host repo repos to parts.Statements (codes "statements" ∷ []) statements_behind verbs.Delete (selection_pairs it) None None tasks.Remove
    (ops.Write None (removals it)) PlainText (ap (task_at parts.Statements) (sym delete_is))
    (passed it
    (subst (λ (pairs : List (List ℕ × List ℕ)). IsSelection pairs it)
    (sym (pairs_read host repo (codes "statements" ∷ []) verbs.Delete (selection_pairs it) None None (selection_pairs_utf8 facts.terms it is))) (selection_is facts.terms it is))
    refl))

everything_selectable : (contexts : List Graph) → AreContextGraphs contexts → IsSelectable (everything_in contexts)
everything_selectable contexts are = record { s = tt; p = tt; o = tt; contexts = are }

replacement_read : Facts → (host repo : List ℕ) (repos : List (List ℕ)) → IsTo repos repo → (contexts : List Graph) (quads : List Statement) → AreContextGraphs contexts → All IsWritable quads
    → Wrote host repos repo None (sent_alone repo (replacements contexts quads)) (replacements contexts quads)
replacement_read facts host repo repos to contexts [] are writable =
    subst (λ (changes : List Change). Wrote host repos repo None (sent_alone repo changes) changes) (sym (replaced_by_nothing contexts))
    (removal_read facts host repo repos to (everything_in contexts) (everything_selectable contexts are))
replacement_read facts host repo repos to contexts (q ∷ qs) are writable =
    let quads = sources contexts (q ∷ qs) in
    as_changes host repos repo None (written repo verbs.Put (context_pairs contexts) (document_content quads)) (sent_alone repo (replacements contexts (q ∷ qs)))
    (replacements contexts quads) (replacements contexts (q ∷ qs)) (sent_replacements repo contexts q qs) (same_replacement contexts (q ∷ qs))
    (to_part host repo repos to parts.Statements (codes "statements" ∷ []) statements_behind verbs.Put (context_pairs contexts) None (document_content quads)
    (tasks.Write None Replaces) (ops.Write None (replacements contexts quads)) PlainText (ap (task_at parts.Statements) (sym put_is))
    (document_asked facts host repo (codes "statements" ∷ []) verbs.Put (context_pairs contexts) None Replaces contexts quads are (sources_writable contexts (q ∷ qs) are writable)
    (context_pairs_utf8 facts.terms contexts are) (contexts_are facts.terms contexts are)))

-- in a transaction

add_utf8 : IsUtf8 (codes "ADD")
unfolding lib.Utf8.encode
add_utf8 = (codes "ADD", (refl, refl))

delete_utf8 : IsUtf8 (codes "DELETE")
unfolding lib.Utf8.encode
delete_utf8 = (codes "DELETE", (refl, refl))

abbrev SentBy : List ℕ → Txn → List ℕ → List Statement → SeenSending
SentBy repo t word quads = acted repo t word [] None (document_content quads)

action_read : Facts → (host repo : List ℕ) (repos : List (List ℕ)) → IsTo repos repo → (t : Txn) → IsNamed t → (word : List ℕ) (writing : Writing) (quads : List Statement) → IsUtf8 word
    → Ok (tasks.Write (Some t) writing) ≡ task_of_actions t (word ∷ []) → All IsWritable quads
    → Wrote host repos repo (Some t) (SentBy repo t word quads) (changes_of writing [] quads)
action_read facts host repo repos to t named word writing quads utf8 acts writable =
    let all : AllByRecursion IsTextPair (action_pairs word []) = ((action_utf8, utf8), tt) in
    to_transaction host repo repos to t named word [] None (document_content quads) (tasks.Write (Some t) writing) (ops.Write (Some t) (changes_of writing [] quads)) PlainText all acts
    (document_asked facts host repo (codes "transactions" ∷ name_of t ∷ []) verbs.Put (action_pairs word []) (Some t) writing [] quads no_contexts writable all
    (graphs_by facts.terms (action_pairs word []) [] no_contexts refl))

added_read : Facts → (host repo : List ℕ) (repos : List (List ℕ)) → IsTo repos repo → (t : Txn) → IsNamed t → (quads : List Statement) → All IsWritable quads
    → Wrote host repos repo (Some t) (sent_write repo (Some t) (map Add quads)) (map Add quads)
added_read facts host repo repos to t named quads writable =
    as_changes host repos repo (Some t) (SentBy repo t (codes "ADD") quads) (sent_write repo (Some t) (map Add quads)) (additions [] quads) (map Add quads)
    (λ i. SentBy repo t (add_word quads i) (added_quads quads i)) (ap (map Add) (placed_alone quads))
    (action_read facts host repo repos to t named (codes "ADD") Adds quads add_utf8 refl writable)

deleted_read : Facts → (host repo : List ℕ) (repos : List (List ℕ)) → IsTo repos repo → (t : Txn) → IsNamed t → (quads : List Statement) → All IsWritable quads
    → Wrote host repos repo (Some t) (sent_write repo (Some t) (map Remove quads)) (map Remove quads)
deleted_read facts host repo repos to t named [] writable = added_read facts host repo repos to t named [] writable
deleted_read facts host repo repos to t named (q ∷ qs) writable =
    as_changes host repos repo (Some t) (SentBy repo t (codes "DELETE") (q ∷ qs)) (sent_write repo (Some t) (map Remove (q ∷ qs))) (deletions [] (q ∷ qs)) (map Remove (q ∷ qs))
    (ap (SentBy repo t (codes "DELETE")) (removed_quads (q ∷ qs))) (ap (map Remove) (placed_alone (q ∷ qs)))
    (action_read facts host repo repos to t named (codes "DELETE") Removes (q ∷ qs) delete_utf8 refl writable)

write_read : Facts → (host repo : List ℕ) (repos : List (List ℕ)) → IsTo repos repo → (txn : Option Txn) → IsNamedOrNone txn → (changes : List Change) → IsWriting txn changes
    → Wrote host repos repo txn (sent_write repo txn changes) changes
write_read facts host repo repos to None named changes (inl x) =
    subst (λ (cs : List Change). Wrote host repos repo None (sent_alone repo cs) cs) (sym x.are) (addition_read facts host repo repos to x.quads x.writable)
write_read facts host repo repos to None named changes (inr (inl x)) =
    subst (λ (cs : List Change). Wrote host repos repo None (sent_alone repo cs) cs) (sym x.are) (replacement_read facts host repo repos to x.contexts x.quads x.graphs x.writable)
write_read facts host repo repos to None named changes (inr (inr x)) =
    subst (λ (cs : List Change). Wrote host repos repo None (sent_alone repo cs) cs) (sym x.are) (removal_read facts host repo repos to x.it x.selectable)
write_read facts host repo repos to (Some t) named changes (inl x) =
    subst (λ (cs : List Change). Wrote host repos repo (Some t) (sent_write repo (Some t) cs) cs) (sym x.are) (added_read facts host repo repos to t named x.quads x.writable)
write_read facts host repo repos to (Some t) named changes (inr x) =
    subst (λ (cs : List Change). Wrote host repos repo (Some t) (sent_write repo (Some t) cs) cs) (sym x.are) (deleted_read facts host repo repos to t named x.quads x.writable)

-- ---- namespaces

prefix_passes : (prefix : List ℕ) (fault : ApiFault) → IsPrefixText prefix → Ok tt ≡ tested fault (is_prefix prefix)
prefix_passes prefix fault is = ap (tested fault) (sym is.1)

-- the value of a namespace

four_true : (a b c : Bool) → a ≡ true → b ≡ true → c ≡ true → (a && b && c) ≡ true
four_true true true true x y z = refl
four_true true true false x y z = cc
four_true true false c x y z = cc
four_true false b c x y z = cc

namespace_read : (name : List ℕ) → IsValidTerm (Iri name) → Ok name ≡ namespace_of (encode_utf8_all name)
namespace_read name valid =
    let part = first_of (is_part name) (is_iri_text name) valid in
    let scalars = first_of (all_scalars name) (is_short name) part in
    let same = chars-encodes name scalars in
    let passes : is_namespace (encode_utf8_all name) ≡ true =
    four_true _ _ _ (is_utf8-from_IsUtf8 (encode_utf8_all name) (text_utf8 name scalars)) (ap is_iri_text same ∙ second_of (is_part name) (is_iri_text name) valid)
    (ap is_short same ∙ second_of (all_scalars name) (is_short name) part) in
    sym (ap (λ (test : Bool). if test then Ok (chars (encode_utf8_all name)) else Err faults.Namespace) passes ∙ ap Ok same)

names_read : (host repo : List ℕ) (repos : List (List ℕ)) → IsTo repos repo → (op : NamesOp) (form : Form) → IsNaming op form
    → IsCallOf (request_with host (sent_names repo op form)) repos (Ok (On repo (ops.Names op) form))
names_read host repo repos to names.List form is =
    to_part host repo repos to parts.Namespaces (codes "namespaces" ∷ []) namespaces_behind verbs.Get [] (Some form) None tasks.ListNames (ops.Names names.List) form
    (ap (task_at parts.Namespaces) (sym get_is)) (gets_among host form None (request_with host (SendingTo repo (codes "namespaces" ∷ []) verbs.Get [] (Some form) None)) table_forms (ops.Names names.List) refl (chosen_table form is))
names_read host repo repos to names.Clear form is =
    subst (λ (f : Form). IsCallOf (request_with host (sent_names repo names.Clear f)) repos (Ok (On repo (ops.Names names.Clear) f))) (sym is)
    (to_part host repo repos to parts.Namespaces (codes "namespaces" ∷ []) namespaces_behind verbs.Delete [] None None tasks.ClearNames (ops.Names names.Clear) PlainText
    (ap (task_at parts.Namespaces) (sym delete_is)) refl)
names_read host repo repos to (names.Get prefix) form is =
    subst (λ (f : Form). IsCallOf (request_with host (sent_names repo (names.Get prefix) f)) repos (Ok (On repo (ops.Names (names.Get prefix)) f))) (sym is.1)
    (to_part host repo repos to (parts.Namespace prefix) (codes "namespaces" ∷ encode_utf8_all prefix ∷ []) (namespace_behind prefix is.0.0) verbs.Get [] None None
    (tasks.GetName prefix) (ops.Names (names.Get prefix)) PlainText (ap (task_at (parts.Namespace prefix)) (sym get_is)) (passed tt (prefix_passes prefix _ is.0) refl))
names_read host repo repos to (names.Put prefix name) form is =
    subst (λ (f : Form). IsCallOf (request_with host (sent_names repo (names.Put prefix name) f)) repos (Ok (On repo (ops.Names (names.Put prefix name)) f))) (sym is.2)
    (to_part host repo repos to (parts.Namespace prefix) (codes "namespaces" ∷ encode_utf8_all prefix ∷ []) (namespace_behind prefix is.0.0) verbs.Put [] None
    (Some (content_type_of PlainText, encode_utf8_all name)) (tasks.PutName prefix) (ops.Names (names.Put prefix name)) PlainText (ap (task_at (parts.Namespace prefix)) (sym put_is))
    (passed tt (prefix_passes prefix _ is.0) (passed name (namespace_read name is.1) refl)))
names_read host repo repos to (names.Remove prefix) form is =
    subst (λ (f : Form). IsCallOf (request_with host (sent_names repo (names.Remove prefix) f)) repos (Ok (On repo (ops.Names (names.Remove prefix)) f))) (sym is.1)
    (to_part host repo repos to (parts.Namespace prefix) (codes "namespaces" ∷ encode_utf8_all prefix ∷ []) (namespace_behind prefix is.0.0) verbs.Delete [] None None
    (tasks.RemoveName prefix) (ops.Names (names.Remove prefix)) PlainText (ap (task_at (parts.Namespace prefix)) (sym delete_is)) (passed tt (prefix_passes prefix _ is.0) refl))

-- ---- transactions

level_utf8 : (level : Level) → IsUtf8 (level_text level)
unfolding lib.Utf8.encode
level_utf8 NoIsolation = (codes "NONE", (refl, refl))
level_utf8 ReadUncommitted = (codes "READ_UNCOMMITTED", (refl, refl))
level_utf8 ReadCommitted = (codes "READ_COMMITTED", (refl, refl))
level_utf8 SnapshotRead = (codes "SNAPSHOT_READ", (refl, refl))
level_utf8 Snapshot = (codes "SNAPSHOT", (refl, refl))
level_utf8 Serializable = (codes "SERIALIZABLE", (refl, refl))

isolation_utf8 : IsUtf8 (codes "isolation-level")
unfolding lib.Utf8.encode
isolation_utf8 = (codes "isolation-level", (refl, refl))

level_read : (level : Level) → Ok level ≡ level_in ((codes "isolation-level", level_text level) ∷ [])
level_read NoIsolation = refl
level_read ReadUncommitted = refl
level_read ReadCommitted = refl
level_read SnapshotRead = refl
level_read Snapshot = refl
level_read Serializable = refl

begin_read : (host repo : List ℕ) (repos : List (List ℕ)) → IsTo repos repo → (level : Level)
    → IsCallOf (request_with host (sent_op repo (ops.Begin level) PlainText)) repos (Ok (On repo (ops.Begin level) PlainText))
begin_read host repo repos to level =
    let pairs = (codes "isolation-level", level_text level) ∷ [] in
    to_part host repo repos to parts.Transactions (codes "transactions" ∷ []) transactions_behind verbs.Post pairs None None tasks.Begin (ops.Begin level) PlainText
    (ap (task_at parts.Transactions) (sym post_is))
    (passed level
    (level_read level
    ∙ ap level_in (sym (all_are (request_with host (SendingTo repo (codes "transactions" ∷ []) verbs.Post pairs None None)) pairs (no_form host None) (pairs_read host repo (codes "transactions" ∷ []) verbs.Post pairs None None ((isolation_utf8, level_utf8 level), tt)))))
    refl)

commit_utf8 : IsUtf8 (codes "COMMIT") × IsUtf8 (codes "PING")
unfolding lib.Utf8.encode
commit_utf8 = ((codes "COMMIT", (refl, refl)), (codes "PING", (refl, refl)))

commit_read : (host repo : List ℕ) (repos : List (List ℕ)) → IsTo repos repo → (t : Txn) → IsNamed t
    → IsCallOf (request_with host (sent_op repo (ops.Commit t) PlainText)) repos (Ok (On repo (ops.Commit t) PlainText))
commit_read host repo repos to t named =
    to_transaction host repo repos to t named (codes "COMMIT") [] None None (tasks.Commit t) (ops.Commit t) PlainText ((action_utf8, commit_utf8.0), tt) refl refl

ping_read : (host repo : List ℕ) (repos : List (List ℕ)) → IsTo repos repo → (t : Txn) → IsNamed t
    → IsCallOf (request_with host (sent_op repo (ops.Ping t) PlainText)) repos (Ok (On repo (ops.Ping t) PlainText))
ping_read host repo repos to t named =
    to_transaction host repo repos to t named (codes "PING") [] None None (tasks.Ping t) (ops.Ping t) PlainText ((action_utf8, commit_utf8.1), tt) refl refl

rollback_read : (host repo : List ℕ) (repos : List (List ℕ)) → IsTo repos repo → (t : Txn) → IsNamed t
    → IsCallOf (request_with host (sent_op repo (ops.Rollback t) PlainText)) repos (Ok (On repo (ops.Rollback t) PlainText))
rollback_read host repo repos to t named =
    rolled_back (request_with host (sent_op repo (ops.Rollback t) PlainText)) repos repo (chars (name_of t)) t
    (target_names (codes "rdf4j-server") (codes "repositories" ∷ encode_utf8_all repo ∷ codes "transactions" ∷ name_of t ∷ []) [] (resources.Transaction repo (chars (name_of t)))
    (segments_utf8 repo to.text _ _ (name_behind t named)) (segments_read repo to.text _ _ (name_behind t named)))
    to.there (name_is t named) delete_is (is_uncoded host None None)

-- ---- every call

read_read : Facts → (host repo : List ℕ) (repos : List (List ℕ)) → IsTo repos repo → (txn : Option Txn) → IsNamedOrNone txn → (ask : Ask) (form : Form) → IsAskable txn ask form
    → IsCallOf (request_with host (sent_op repo (ops.Read txn ask) form)) repos (Ok (On repo (ops.Read txn ask) form))
read_read facts host repo repos to txn named (asks.Query q) form is = query_read facts host repo repos to txn named q is.0 form is.1
read_read facts host repo repos to txn named (asks.List s p o contexts) form is =
    list_read facts host repo repos to txn named (record { s = s; p = p; o = o; contexts = contexts }) is.0 form is.1
read_read facts host repo repos to txn named (asks.Size contexts) form is =
    subst (λ (f : Form). IsCallOf (request_with host (sent_size repo txn contexts)) repos (Ok (On repo (ops.Read txn (asks.Size contexts)) f))) (sym is.1)
    (size_read facts host repo repos to txn named contexts is.0)
read_read facts host repo repos to None named asks.Contexts form is = contexts_read host repo repos to form is
read_read facts host repo repos to (Some t) named asks.Contexts form is = absurd is

abbrev ReadOn : List ℕ → List (List ℕ) → List ℕ → Op → Form → Type 0
ReadOn host repos repo op form = IsCallOf (request_with host (sent_op repo op form)) repos (Ok (On repo op form))

in_form : (host : List ℕ) (repos : List (List ℕ)) (repo : List ℕ) (op : Op) (form : Form) → form ≡ PlainText → ReadOn host repos repo op PlainText → ReadOn host repos repo op form
in_form host repos repo op form e x = subst (λ (f : Form). ReadOn host repos repo op f) (sym e) x

op_read : Facts → (host repo : List ℕ) (repos : List (List ℕ)) → IsTo repos repo → (op : Op) (form : Form) → IsSpellableOp op form → ReadOn host repos repo op form
op_read facts host repo repos to (ops.Begin level) form is = in_form host repos repo (ops.Begin level) form is (begin_read host repo repos to level)
op_read facts host repo repos to (ops.Read txn ask) form is = read_read facts host repo repos to txn is.0 ask form is.1
op_read facts host repo repos to (ops.Step t query number) form is = absurd is
op_read facts host repo repos to (ops.Write txn changes) form is =
    in_form host repos repo (ops.Write txn changes) form is.2 (write_read facts host repo repos to txn is.0 changes is.1)
op_read facts host repo repos to (ops.Commit t) form is = in_form host repos repo (ops.Commit t) form is.1 (commit_read host repo repos to t is.0)
op_read facts host repo repos to (ops.Rollback t) form is = in_form host repos repo (ops.Rollback t) form is.1 (rollback_read host repo repos to t is.0)
op_read facts host repo repos to (ops.Ping t) form is = in_form host repos repo (ops.Ping t) form is.1 (ping_read host repo repos to t is.0)
op_read facts host repo repos to (ops.Names op) form is = names_read host repo repos to op form is

-- without a repository

got_is : Ok tt ≡ tested (faults.Method allow.Get) (is_text (codes "GET") (codes "GET"))
unfolding lib.Utf8.encode
got_is = refl

top_utf8 : IsUtf8 (codes "protocol")
unfolding lib.Utf8.encode
top_utf8 = (codes "protocol", (refl, refl))

protocol_path : [] ∷ map chars (in_server (codes "protocol" ∷ [])) ≡ segments_of resources.Protocol
unfolding chars
protocol_path = refl

repositories_path : [] ∷ map chars (in_server (codes "repositories" ∷ [])) ≡ segments_of resources.Repositories
unfolding chars
repositories_path = refl

uncoded : (host : List ℕ) (accept : Option Form) → Ok tt ≡ tested faults.Media (not (is_coded (FieldsOf host accept None)))
uncoded host accept = ap (λ (coded : Bool). tested faults.Media (not coded)) (sym (is_uncoded host accept None))

pub written_is_read_back : Facts → WrittenIsReadBack
written_is_read_back facts Protocol host repos is among =
    passed resources.Protocol (target_names (codes "rdf4j-server") (codes "protocol" ∷ []) [] resources.Protocol (server_utf8, (top_utf8, tt)) protocol_path)
    (passed tt got_is (passed tt (uncoded host None) refl))
written_is_read_back facts (Repositories form) host repos is among =
    passed resources.Repositories (target_names (codes "rdf4j-server") (codes "repositories" ∷ []) [] resources.Repositories (server_utf8, (repositories_utf8, tt)) repositories_path)
    (passed tt got_is
    (passed tt (uncoded host (Some form)) (passed form (form_found host form None table_forms (chosen_table form is)) refl)))
written_is_read_back facts (On repo op form) host repos is among = op_read facts host repo repos (record { there = among; text = is.0 }) op form is.1
