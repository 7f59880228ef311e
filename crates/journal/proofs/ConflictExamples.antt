-- Worked cases of conflicts, by computation.
use Rattle.std.proofs.Common.{◌≡◌, List, [], ◌∷◌, Some, None, refl, false, codes}
use Rattle.rdf_term.specs.declared.graph.Graph.TheVariants.{Absent, Named}
use Rattle.rdf_term.specs.declared.pattern.GraphPick.TheVariants as picks
use Rattle.rdf_term.specs.declared.pattern.Pattern.{Pattern}
use Rattle.change_set.specs.declared.change.Change.TheVariants.{RemoveMatching}
use Rattle.query_model.specs.declared.query.Slot.TheVariants.{Var, Blank, Fixed}
use Rattle.query_model.specs.declared.query.Scope.TheVariants as scope
use Rattle.query_model.specs.declared.query.Query.{Query}
use Rattle.query_model.specs.declared.query.Query.TheVariants.{Select, Ask}
use Rattle.journal.specs.declared.level.Level.TheVariants.{Serializable}
use Rattle.journal.specs.declared.ask.Ask.TheVariants as ask
use Rattle.journal.specs.declared.op.Op.TheVariants.{Begin, Read, Write, Commit, Rollback}
use Rattle.journal.specs.declared.entry.Entry.{Entry}
use Rattle.journal.specs.declared.reply.Reply.TheVariants as reply
use Rattle.journal.specs.Found.{patterns_of}
use Rattle.journal.specs.Journal.{reply_at}
use Rattle.journal.proofs.ExampleParts.{adds, entry, every_quad, everything, limits, one, p, s, two, txn}

-- SELECT ?o WHERE { ?s <http://e/p> ?o }, and the pattern that it observes
abbrev objects : Query
objects = Select false (codes "o" ∷ []) (record { s = Var (codes "s"); p = Fixed p; o = Var (codes "o"); g = scope.Any } ∷ []) (record { limit = None; offset = 0 })

abbrev with_p : Pattern
with_p = record { s = None; p = Some p; o = None; c = picks.Any }

-- two transactions read one predicate and add a quad with it: the first to commit is done, the second conflicts until it is rolled back
abbrev two_read_one_predicate : List Entry
two_read_one_predicate =
    entry (Begin Serializable) ∷ entry (Begin Serializable)
    ∷ entry (Read (Some (txn 0 Serializable)) (ask.Query objects)) ∷ entry (Read (Some (txn 1 Serializable)) (ask.Query objects))
    ∷ adds (Some (txn 0 Serializable)) one ∷ adds (Some (txn 1 Serializable)) two
    ∷ entry (Commit (txn 0 Serializable)) ∷ entry (Commit (txn 1 Serializable)) ∷ entry (Commit (txn 1 Serializable))
    ∷ entry (Rollback (txn 1 Serializable)) ∷ entry (Commit (txn 1 Serializable)) ∷ []

first_is_done : (reply_at limits two_read_one_predicate 3 ≡ Some (reply.Table (record { vars = codes "o" ∷ []; rows = [] })))
    × (reply_at limits two_read_one_predicate 6 ≡ Some reply.Done)
unfolding everything
first_is_done = (refl, refl)

second_conflicts : (reply_at limits two_read_one_predicate 7 ≡ Some (reply.Conflict with_p one))
    × (reply_at limits two_read_one_predicate 8 ≡ Some (reply.Conflict with_p one))
unfolding everything
second_conflicts = (refl, refl)

second_is_gone : reply_at limits two_read_one_predicate 10 ≡ Some reply.NoTransaction
unfolding everything
second_is_gone = refl

-- a quad that is added and removed outside conflicts with a list of everything, though nothing is left of it
abbrev added_and_removed : List Entry
added_and_removed =
    entry (Begin Serializable) ∷ entry (Read (Some (txn 0 Serializable)) (ask.List None None None []))
    ∷ adds None one ∷ entry (Write None (RemoveMatching every_quad ∷ [])) ∷ entry (Commit (txn 0 Serializable)) ∷ []

conflict_on_what_is_gone : reply_at limits added_and_removed 4 ≡ Some (reply.Conflict every_quad one)
unfolding everything
conflict_on_what_is_gone = refl

-- adding a quad that is there changes nothing and conflicts with nobody
abbrev added_again : List Entry
added_again =
    adds None one ∷ entry (Begin Serializable) ∷ entry (Read (Some (txn 1 Serializable)) (ask.List None None None []))
    ∷ adds None one ∷ entry (Commit (txn 1 Serializable)) ∷ []

no_conflict_on_what_was_there : reply_at limits added_again 4 ≡ Some reply.Done
unfolding everything
no_conflict_on_what_was_there = refl

-- ASK { _:b <http://e/p> ?o . GRAPH ?g { ?s ?q ?o } GRAPH <http://e/s> { ?s ?q ?o } }: inside GRAPH a variable picks every named graph, a term its graph
abbrev in_graphs : Query
in_graphs = Ask (record { s = Blank (codes "b"); p = Fixed p; o = Var (codes "o"); g = scope.Any }
    ∷ record { s = Var (codes "s"); p = Var (codes "q"); o = Var (codes "o"); g = scope.Graph (Var (codes "g")) }
    ∷ record { s = Var (codes "s"); p = Var (codes "q"); o = Var (codes "o"); g = scope.Graph (Fixed s) } ∷ [])

observed_by_a_query : patterns_of (ask.Query in_graphs)
    ≡ with_p ∷ record { s = None; p = None; o = None; c = picks.NamedOnly } ∷ record { s = None; p = None; o = None; c = picks.One (Named s) } ∷ []
unfolding everything
observed_by_a_query = refl

observed_by_a_size : patterns_of (ask.Size (Absent ∷ Named s ∷ []))
    ≡ record { s = None; p = None; o = None; c = picks.One Absent } ∷ record { s = None; p = None; o = None; c = picks.One (Named s) } ∷ []
unfolding everything
observed_by_a_size = refl
