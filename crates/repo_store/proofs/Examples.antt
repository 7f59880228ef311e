-- Worked cases of what is pinned and what is answered of it, by computation.
use Rattle.std.proofs.Common.{◌≡◌, ℕ, true, false, List, [], ◌∷◌, Some, None, refl, codes}
use Rattle.rdf_term.specs.declared.term.Term.{Term}
use Rattle.rdf_term.specs.declared.term.Term.TheVariants.{Iri, Plain}
use Rattle.rdf_term.specs.declared.graph.Graph.{Graph}
use Rattle.rdf_term.specs.declared.graph.Graph.TheVariants.{Absent, Named}
use Rattle.rdf_term.specs.Statement.{Statement}
use Rattle.change_set.specs.declared.change.Change.TheVariants.{Add, Remove}
use Rattle.query_model.specs.declared.query.Slot.TheVariants.{Var, Fixed}
use Rattle.query_model.specs.declared.query.Scope.TheVariants as scope
use Rattle.query_model.specs.declared.query.Query.{Query}
use Rattle.query_model.specs.declared.query.Query.TheVariants.{Select}
use Rattle.query_model.specs.Unknowns as unknowns
use Rattle.query_model.specs.Solutions as solutions
use Rattle.query_model.specs.Found as answers
use Rattle.journal.specs.declared.level.Level.TheVariants.{ReadCommitted}
use Rattle.journal.specs.declared.txn.Txn.{Txn}
use Rattle.journal.specs.declared.ask.Ask.TheVariants as asks
use Rattle.journal.specs.declared.op.Op.TheVariants.{Begin, Step, Write, Commit}
use Rattle.journal.specs.declared.entry.Entry.{Entry}
use Rattle.journal.specs.declared.limits.Limits.{Limits}
use Rattle.journal.specs.declared.reply.Reply.{Reply}
use Rattle.journal.specs.declared.reply.Reply.TheVariants as replies
use Rattle.journal.specs.Past as past
use Rattle.journal.specs.Committed as committed
use Rattle.journal.specs.Views as views
use Rattle.journal.specs.Found as found
use Rattle.journal.specs.Conflicts as conflicts
use Rattle.journal.specs.Replies as replied
use Rattle.journal.specs.Journal as journal
use Rattle.iso_txn.specs.Repository.{PinnedRead}
use Rattle.repo_store.specs.Stores as stores

-- naming this word unfolds the definitions that the cases need
unfoldable everything : Unit {0}
unfolding lib.Utf8.encode unknowns.unknowns solutions.is_instance solutions.lookups solutions.terms_of solutions.solutions answers.selected past.is_open past.open_txns past.own_changes committed.applied_changes committed.committed_changes committed.committed views.view_at found.found conflicts.clash_at replied.line_bytes replied.reply_to replied.is_accepted journal.judged stores.answered
everything = tt

abbrev limits : Limits
limits = record { quads = 1048576; bytes = 268435456; rows = 1048576; txns = 1024; names = 65536; places = 1000000 }

abbrev a : Term
a = Iri (codes "http://e/a")

abbrev b : Term
b = Iri (codes "http://e/b")

abbrev p : Term
p = Iri (codes "http://e/p")

abbrev q : Term
q = Iri (codes "http://e/q")

-- SELECT ?x WHERE { <http://e/a> <http://e/p> ?x . ?x <http://e/q> ?y }
abbrev two_patterns : Query
two_patterns = Select false (codes "x" ∷ [])
    (record { s = Fixed a; p = Fixed p; o = Var (codes "x"); g = scope.Any } ∷ record { s = Var (codes "x"); p = Fixed q; o = Var (codes "y"); g = scope.Any } ∷ [])
    (record { limit = None; offset = 0 })

abbrev first : Statement
first = record { s = a; p = p; o = b; c = Absent }

abbrev second : Statement
second = record { s = b; p = q; o = Iri (codes "http://e/c"); c = Absent }

abbrev t : Txn
t = record { place = 1; level = ReadCommitted }

abbrev step : ℕ → Entry
step number = journal.entry_of 0 (Step t two_patterns number)

-- a quad, a transaction of the seat 0, its first Step, and then what the seat 1 does
abbrev up_to_the_last : Entry → List Entry
up_to_the_last other = journal.entry_of 1 (Write None (Add first ∷ [])) ∷ journal.entry_of 0 (Begin ReadCommitted) ∷ step 0 ∷ other ∷ []

abbrev row_of_b : Reply
row_of_b = replies.Table (record { vars = codes "x" ∷ []; rows = (Some b ∷ []) ∷ [] })

-- the seat 1 removes the quad and adds another one: each Step sees its own place
abbrev of_two_steps : PinnedRead
of_two_steps = record { views = (first ∷ []) ∷ (second ∷ []) ∷ []; live = true; rows = 1048576 }

two_steps_are_pinned : stores.IsPinnedBy limits (journal.judged limits (up_to_the_last (journal.entry_of 1 (Write None (Remove first ∷ Add second ∷ []))))) (step 1) of_two_steps
unfolding everything
two_steps_are_pinned = record { live = refl; views = λ is. refl; rows = refl }

two_steps_are_answered : stores.answered of_two_steps (asks.Query two_patterns) ≡ row_of_b
unfolding everything
two_steps_are_answered = refl

-- the one solution is too many where no row is allowed, and not where one is
no_row_is_too_few : (stores.answered (record of_two_steps { rows = 0 }) (asks.Query two_patterns) ≡ replies.TooManyRows)
    × (stores.answered (record of_two_steps { rows = 1 }) (asks.Query two_patterns) ≡ row_of_b)
unfolding everything
no_row_is_too_few = (refl, refl)

-- the seat 1 commits the transaction, which is not open at the last Step then
abbrev of_ended : PinnedRead
of_ended = record { views = (first ∷ []) ∷ (first ∷ []) ∷ []; live = false; rows = 1048576 }

ended_is_pinned : stores.IsPinnedBy limits (journal.judged limits (up_to_the_last (journal.entry_of 1 (Commit t)))) (step 1) of_ended
unfolding everything
ended_is_pinned = record { live = refl; views = λ is. cc; rows = refl }

ended_has_no_transaction : stores.answered of_ended (asks.Query two_patterns) ≡ replies.NoTransaction
unfolding everything
ended_has_no_transaction = refl

-- a quad in the absent graph, and two in the graph <http://e/a>
abbrev quad_of : List ℕ → Graph → Statement
quad_of text graph = record { s = a; p = p; o = Plain text; c = graph }

abbrev of_graphs : PinnedRead
of_graphs = record { views = (quad_of (codes "1") Absent ∷ quad_of (codes "2") (Named a) ∷ quad_of (codes "3") (Named a) ∷ []) ∷ []; live = true; rows = 1 }

-- the absent graph has no name, and a name stands once
names_of_graphs : stores.answered of_graphs asks.Contexts ≡ replies.Contexts (a ∷ [])
unfolding everything
names_of_graphs = refl

-- the sizes of every graph, of the absent one, of the named one, and of both; the limit is one of rows alone
sizes_of_graphs : (stores.answered of_graphs (asks.Size []) ≡ replies.Count 3) × (stores.answered of_graphs (asks.Size (Absent ∷ [])) ≡ replies.Count 1)
    × (stores.answered of_graphs (asks.Size (Named a ∷ [])) ≡ replies.Count 2) × (stores.answered of_graphs (asks.Size (Named a ∷ Absent ∷ [])) ≡ replies.Count 3)
unfolding everything
sizes_of_graphs = (refl, refl, refl, refl)

list_of_a_graph : stores.answered of_graphs (asks.List None None (Some (Plain (codes "2"))) (Absent ∷ Named a ∷ [])) ≡ replies.Quads (quad_of (codes "2") (Named a) ∷ [])
unfolding everything
list_of_a_graph = refl
