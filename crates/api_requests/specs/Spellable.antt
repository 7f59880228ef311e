-- The calls that some request gives. Each part of such a call has a text that is read as it, and each form is one that is on offer there.
use Rattle.std.specs.Prelude.{◌≡◌, ℕ, ◌≤◌, ◌⊎◌, IsTrue, List, [], ◌∷◌, Option, Some, None, All, map}
use Rattle.std.specs.Str.{all_scalars}
use Rattle.rdf_term.specs.declared.term.Term.{Term}
use Rattle.rdf_term.specs.declared.term.Term.TheVariants.{Iri}
use Rattle.rdf_term.specs.declared.graph.Graph.{Graph}
use Rattle.rdf_term.specs.EachOnce.{EachOnce}
use Rattle.rdf_term.specs.Statement.{Statement}
use Rattle.rdf_term.specs.Terms.{IsResource, IsIri, IsGraph}
use Rattle.rdf_term.specs.Validity.{IsValidTerm, IsValidGraph}
use Rattle.nquads.specs.Written.{IsWritable}
use Rattle.change_set.specs.declared.change.Change.{Change}
use Rattle.change_set.specs.declared.change.Change.TheVariants.{Add, Remove}
use Rattle.query_model.specs.WellFormed.{IsWellFormed}
use Rattle.journal.specs.declared.txn.Txn.{Txn}
use Rattle.journal.specs.declared.ask.Ask.{Ask}
use Rattle.journal.specs.declared.ask.Ask.TheVariants as asks
use Rattle.journal.specs.declared.op.Op.{Op}
use Rattle.journal.specs.declared.op.Op.TheVariants as ops
use Rattle.journal.specs.declared.op.NamesOp.{NamesOp}
use Rattle.journal.specs.declared.op.NamesOp.TheVariants as names
use Rattle.media.specs.declared.form.Form.{Form}
use Rattle.media.specs.declared.form.Form.TheVariants.{PlainText}
use Rattle.api_parts.specs.declared.selection.Selection.{Selection}
use Rattle.api_parts.specs.Writes.{removals, replacements}
use Rattle.api_paths.specs.Prefixes.{is_prefix}
use Rattle.api_paths.specs.TransactionNames.{most_place}
use Rattle.api_calls.specs.declared.call.Call.{Call}
use Rattle.api_calls.specs.declared.call.Call.TheVariants.{Protocol, Repositories, On}
use Rattle.repo_api.specs.Accepts.{quad_forms, table_forms}
use Rattle.repo_api.specs.Queries.{forms_of}

-- a host of characters from `!` to `~`
abbrev pub IsHost : List ℕ → Type 0
IsHost host = All (λ c. (33 ≤ c) × (c ≤ 126)) host

-- the form is one of these
abbrev pub IsAmong : List Form → Form → Type 0
IsAmong [] form = ⊥
IsAmong (offer ∷ offers) form = (form ≡ offer) ⊎ IsAmong offers form

-- a text of Unicode characters
abbrev pub IsText : List ℕ → Type 0
IsText text = IsTrue (all_scalars text)

-- the transaction has a place that names have
abbrev pub IsNamed : Txn → Type 0
IsNamed txn = txn.place ≤ most_place

-- the same, where there is one
abbrev pub IsNamedOrNone : Option Txn → Type 0
IsNamedOrNone None = Unit {0}
IsNamedOrNone (Some txn) = IsNamed txn

-- a part of a selection, where it is given: a valid term that may stand there
abbrev pub IsGiven : (Term → Type 0) → Option Term → Type 0
IsGiven MayStand None = Unit {0}
IsGiven MayStand (Some t) = IsValidTerm t × MayStand t

abbrev pub IsAnyTerm : Term → Type 0
IsAnyTerm t = Unit {0}

-- the absent graph, or one that a valid IRI or blank node names
abbrev pub IsContextGraph : Graph → Type 0
IsContextGraph g = IsValidGraph g × IsGraph g

-- distinct graphs of that kind
pub record AreContextGraphs (contexts : List Graph) : Type 0 where
  pub each : All IsContextGraph contexts
  pub once : EachOnce contexts

-- what parameters can select
pub record IsSelectable (it : Selection) : Type 0 where
  pub s : IsGiven IsResource it.s
  pub p : IsGiven IsIri it.p
  pub o : IsGiven IsAnyTerm it.o
  pub contexts : AreContextGraphs it.contexts

-- a read with a form of its answer; Contexts are asked outside transactions alone
abbrev pub IsAskable : Option Txn → Ask → Form → Type 0
IsAskable txn (asks.Query query) form = IsWellFormed query × IsAmong (forms_of query) form
IsAskable txn (asks.List s p o contexts) form = IsSelectable (record { s = s; p = p; o = o; contexts = contexts }) × IsAmong quad_forms form
IsAskable txn (asks.Size contexts) form = AreContextGraphs contexts × (form ≡ PlainText)
IsAskable None asks.Contexts form = IsAmong table_forms form
IsAskable (Some t) asks.Contexts form = ⊥

-- statements of a document are added
pub record IsAdding (changes : List Change) : Type 0 where
  pub quads : List Statement
  pub writable : All IsWritable quads
  pub are : changes ≡ map Add quads

-- statements of a document are removed
pub record IsDeleting (changes : List Change) : Type 0 where
  pub quads : List Statement
  pub writable : All IsWritable quads
  pub are : changes ≡ map Remove quads

-- what is selected is removed
pub record IsRemoving (changes : List Change) : Type 0 where
  pub it : Selection
  pub selectable : IsSelectable it
  pub are : changes ≡ removals it

-- statements of a document take the place of what is in some graphs, or of everything
pub record IsReplacing (changes : List Change) : Type 0 where
  pub contexts : List Graph
  pub quads : List Statement
  pub graphs : AreContextGraphs contexts
  pub writable : All IsWritable quads
  pub are : changes ≡ replacements contexts quads

-- a write: POST, PUT or DELETE of statements; in a transaction the actions ADD and DELETE
abbrev pub IsWriting : Option Txn → List Change → Type 0
IsWriting None changes = IsAdding changes ⊎ (IsReplacing changes ⊎ IsRemoving changes)
IsWriting (Some t) changes = IsAdding changes ⊎ IsDeleting changes

-- the prefix of a namespace
abbrev pub IsPrefixText : List ℕ → Type 0
IsPrefixText prefix = IsText prefix × IsTrue (is_prefix prefix)

abbrev pub IsNaming : NamesOp → Form → Type 0
IsNaming names.List form = IsAmong table_forms form
IsNaming names.Clear form = form ≡ PlainText
IsNaming (names.Get prefix) form = IsPrefixText prefix × (form ≡ PlainText)
IsNaming (names.Put prefix name) form = IsPrefixText prefix × IsValidTerm (Iri name) × (form ≡ PlainText)
IsNaming (names.Remove prefix) form = IsPrefixText prefix × (form ≡ PlainText)

-- an op with the form of its reply; a Step is no call
abbrev pub IsSpellableOp : Op → Form → Type 0
IsSpellableOp (ops.Begin level) form = form ≡ PlainText
IsSpellableOp (ops.Read txn ask) form = IsNamedOrNone txn × IsAskable txn ask form
IsSpellableOp (ops.Step t query number) form = ⊥
IsSpellableOp (ops.Write txn changes) form = IsNamedOrNone txn × IsWriting txn changes × (form ≡ PlainText)
IsSpellableOp (ops.Commit t) form = IsNamed t × (form ≡ PlainText)
IsSpellableOp (ops.Rollback t) form = IsNamed t × (form ≡ PlainText)
IsSpellableOp (ops.Ping t) form = IsNamed t × (form ≡ PlainText)
IsSpellableOp (ops.Names op) form = IsNaming op form

-- a call that some request gives, by its parts
abbrev pub IsSpellable : Call → Type 0
IsSpellable Protocol = Unit {0}
IsSpellable (Repositories form) = IsAmong table_forms form
IsSpellable (On repo op form) = IsText repo × IsSpellableOp op form
