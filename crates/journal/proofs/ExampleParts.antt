-- What the worked cases are made of.
use Rattle.std.proofs.Common.{ℕ, List, [], ◌∷◌, Option, None, codes}
use Rattle.rdf_term.specs.declared.term.Term.{Term}
use Rattle.rdf_term.specs.declared.term.Term.TheVariants.{Iri, Plain}
use Rattle.rdf_term.specs.declared.graph.Graph.TheVariants.{Absent}
use Rattle.rdf_term.specs.declared.pattern.GraphPick.TheVariants as picks
use Rattle.rdf_term.specs.declared.pattern.Pattern.{Pattern}
use Rattle.rdf_term.specs.Statement.{Statement}
use Rattle.change_set.specs.declared.change.Change.TheVariants.{Add}
use Rattle.query_model.specs.Unknowns as unknowns
use Rattle.query_model.specs.Solutions as solutions
use Rattle.query_model.specs.Found as answers
use Rattle.journal.specs.declared.level.Level.{Level}
use Rattle.journal.specs.declared.txn.Txn.{Txn}
use Rattle.journal.specs.declared.ask.Ask.TheVariants as ask
use Rattle.journal.specs.declared.op.Op.{Op}
use Rattle.journal.specs.declared.op.Op.TheVariants as op
use Rattle.journal.specs.declared.entry.Entry.{Entry}
use Rattle.journal.specs.declared.limits.Limits.{Limits}
use Rattle.journal.specs.Past as past
use Rattle.journal.specs.Committed as committed
use Rattle.journal.specs.Views as views
use Rattle.journal.specs.Found as found
use Rattle.journal.specs.Conflicts as conflicts
use Rattle.journal.specs.Replies as replies
use Rattle.journal.specs.Journal as journal
use Rattle.journal.specs.Alone as alone
use Rattle.journal.specs.Serial as serial

-- naming this word unfolds all definitions
unfoldable pub everything : Unit {0}
unfolding lib.Utf8.encode unknowns.unknowns solutions.is_instance solutions.lookups solutions.terms_of solutions.solutions answers.selected answers.constructed past.is_open past.open_txns past.own_changes committed.applied_changes committed.committed_changes committed.committed committed.prefixes_of views.dirty_changes views.view_at found.patterns_of found.found conflicts.observed conflicts.delta_at conflicts.clash_at replies.line_bytes replies.reply_to replies.is_accepted journal.judged journal.reply_next journal.reply_at journal.committed_after journal.prefixes_after journal.view_after journal.is_live_after journal.commits_in alone.reply_alone serial.entries_of serial.serial_order serial.serial_journal
everything = tt

abbrev pub limits : Limits
limits = record { quads = 1048576; bytes = 268435456; rows = 1048576; txns = 1024; names = 65536; places = 1000000 }

abbrev pub s : Term
s = Iri (codes "http://e/s")

abbrev pub p : Term
p = Iri (codes "http://e/p")

-- <http://e/s> <http://e/p> and this text, in the absent graph
abbrev pub quad : List ℕ → Statement
quad text = record { s = s; p = p; o = Plain text; c = Absent }

abbrev pub one : Statement
one = quad (codes "1")

abbrev pub two : Statement
two = quad (codes "2")

abbrev pub three : Statement
three = quad (codes "3")

abbrev pub every_quad : Pattern
every_quad = record { s = None; p = None; o = None; c = picks.Any }

-- an entry of the seat 0
abbrev pub entry : Op → Entry
entry op = record { seat = 0; op = op }

abbrev pub txn : ℕ → Level → Txn
txn place level = record { place = place; level = level }

abbrev pub adds : Option Txn → Statement → Entry
adds t q = entry (op.Write t (Add q ∷ []))

abbrev pub size : Option Txn → Entry
size t = entry (op.Read t (ask.Size []))
