-- Worked cases of the definitions, by computation.
use Rattle.std.proofs.Common.{◌≡◌, [], ◌∷◌, Some, None, codes, refl}
use Rattle.std.specs.Fmt.{digits}
use Rattle.rdf_term.specs.declared.term.Term.TheVariants.{Plain}
use Rattle.journal.specs.declared.txn.Txn.{Txn}
use Rattle.journal.specs.declared.level.Level.TheVariants.{Serializable, Snapshot}
use Rattle.journal.specs.declared.ask.Ask.TheVariants as asks
use Rattle.journal.specs.declared.op.Op.TheVariants as ops
use Rattle.journal.specs.declared.reply.Reply.TheVariants as replies
use Rattle.media.specs.declared.form.Form.TheVariants.{PlainText}
use Rattle.api_calls.specs.declared.call.Call.TheVariants as calls
use Rattle.client_script.specs.declared.action.Action.TheVariants.{Send, Refuse}
use Rattle.client_script.specs.declared.command.Command.TheVariants as command
use Rattle.client_script.specs.Actions.{current_txn, next_call}
use Rattle.client_script.specs.Inputs.{first_line}
use Rattle.client_script.specs.Lines.{IsInTable}
use Rattle.client_script.specs.Printed.{bad_line, printed, refused_line}

abbrev here : Txn
here = record { place = 0; level = Serializable }

begin_line : IsInTable (codes "begin SNAPSHOT") (command.Begin Snapshot)
begin_line = (codes "SNAPSHOT", refl, refl)

first_of_two : first_line (codes "size\nlist") ≡ Some (codes "size", codes "list")
first_of_two = refl

last_of_one : first_line (codes "list\n") ≡ Some (codes "list", [])
last_of_one = refl

no_line : first_line [] ≡ None
no_line = refl

commit_alone : next_call (codes "r") None command.Commit ≡ Refuse
commit_alone = refl

size_inside : next_call (codes "r") (Some here) command.Size ≡ Send (calls.On (codes "r") (ops.Read (Some here) (asks.Size [])) PlainText)
size_inside = refl

refused_commit_stays : current_txn ((ops.Begin Serializable, replies.Begun here) ∷ (ops.Commit here, replies.TooLarge) ∷ []) ≡ Some here
refused_commit_stays = refl

commit_ends : current_txn ((ops.Begin Serializable, replies.Begun here) ∷ (ops.Commit here, replies.Done) ∷ []) ≡ None
commit_ends = refl

table_of_one : printed (ops.Ping here) (replies.Table (record { vars = codes "o" ∷ []; rows = (Some (Plain (codes "1")) ∷ []) ∷ (None ∷ []) ∷ [] }))
    ≡ codes "?o\n\"1\"\n\nrows 2\n"
unfolding lib.Utf8.encode digits
table_of_one = refl

begun : printed (ops.Begin Serializable) (replies.Begun here) ≡ codes "begun 0-5\n"
unfolding digits
begun = refl

one_end : refused_line 409 (codes "x\n\n") ≡ codes "refused 409 x\n"
unfolding digits
one_end = refl

first_bad : bad_line 1 ≡ codes "bad script line 1\n"
unfolding digits
first_bad = refl
