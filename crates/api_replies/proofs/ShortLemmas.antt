-- Answers without memory are those of the replies.
use Rattle.std.proofs.Common.{◌≡◌, ℕ, Bool, true, false, List, inl, inr, Option, Some, None, refl, ap, ◌∙◌, sym}
use Rattle.journal.specs.declared.level.Level.{Level}
use Rattle.journal.specs.declared.txn.Txn.{Txn}
use Rattle.journal.specs.declared.op.NamesOp.TheVariants as name
use Rattle.journal.specs.declared.op.Op.{Op}
use Rattle.journal.specs.declared.op.Op.TheVariants.{Begin, Read, Step, Write, Commit, Rollback, Ping, Names}
use Rattle.journal.specs.declared.reply.Reply.{Reply}
use Rattle.journal.specs.declared.reply.Reply.TheVariants as reply
use Rattle.journal.specs.Journal.{is_commit}
use Rattle.media.specs.declared.form.Form.{Form}
use Rattle.http_frame.specs.Messages.{SeenResponse}
use Rattle.api_replies.specs.declared.short.Short.{Short}
use Rattle.api_replies.specs.declared.short.Short.TheVariants as short
use Rattle.api_replies.specs.Fits.{FitsBegin, FitsCommit, FitsLive, FitsNames, FitsOp, FitsWrite, IsDone}
use Rattle.api_replies.specs.Laws.{OthersTakeMemory, ShortIsResponse}
use Rattle.api_replies.specs.Parts.{done}
use Rattle.api_replies.specs.Responses.{reply_response, response}
use Rattle.api_replies.specs.Shorts.{done_short, short_of, short_response, TakesMemory}

done_same : (repo : List ℕ) (b : Bool) → short_response repo (done_short b) ≡ done b
unfolding short_response
done_same repo true = refl
done_same repo false = refl

some_same : (repo : List ℕ) (a it : Short) (x : SeenResponse) → Some a ≡ Some it → short_response repo a ≡ x → short_response repo it ≡ x
some_same repo a it x e h = let same : a ≡ it = cc in ap (short_response repo) (sym same) ∙ h

none_same : {P : Type 0} (it : Short) → None ≡ Some it → P
none_same it e = cc

short_same : (repo : List ℕ) (op : Op) (form : Form) (r : Reply) (it : Short) → short_of op r ≡ Some it → short_response repo it ≡ reply_response repo op form r
unfolding short_response
short_same repo op form (reply.Begun t) it e = some_same repo (short.Begun t) it _ e refl
short_same repo op form reply.Done it e = some_same repo (done_short (is_commit op)) it _ e (done_same repo (is_commit op))
short_same repo op form reply.NoTransaction it e = some_same repo short.NoTransaction it _ e refl
short_same repo op form reply.TooManyOpen it e = some_same repo short.TooManyOpen it _ e refl
short_same repo op form reply.TooLarge it e = some_same repo short.TooLarge it _ e refl
short_same repo op form (reply.Table table) it e = none_same it e
short_same repo op form (reply.Truth truth) it e = none_same it e
short_same repo op form (reply.Quads quads) it e = none_same it e
short_same repo op form (reply.Count count) it e = none_same it e
short_same repo op form (reply.Contexts names) it e = none_same it e
short_same repo op form (reply.Prefixes pairs) it e = none_same it e
short_same repo op form (reply.Prefix name) it e = none_same it e
short_same repo op form reply.NoPrefix it e = none_same it e
short_same repo op form (reply.Conflict pattern quad) it e = none_same it e
short_same repo op form reply.TooManyRows it e = none_same it e

pub shorts_are_responses : ShortIsResponse
unfolding response
shorts_are_responses repo op form repos r it e = short_same repo op form r it e

-- Replies without a case take memory

some_is : {P : Type 0} (it : Short) → Some it ≡ None → P
some_is it e = cc

done_none : (op : Op) (r : Reply) → IsDone r → short_of op r ≡ None → ⊥
done_none op reply.Done h e = some_is _ e
done_none op _ h e = h

write_none : (op : Op) (txn : Option Txn) (r : Reply) → FitsWrite txn r → short_of op r ≡ None → ⊥
write_none op txn reply.Done h e = some_is _ e
write_none op txn reply.TooLarge h e = some_is _ e
write_none op txn _ h e = h

begin_none : (op : Op) (level : Level) (r : Reply) → FitsBegin level r → short_of op r ≡ None → ⊥
begin_none op level (reply.Begun t) h e = some_is _ e
begin_none op level reply.TooManyOpen h e = some_is _ e
begin_none op level _ h e = h

put_none : (op : Op) (a b : List ℕ) (r : Reply) → FitsNames (name.Put a b) r → short_of op r ≡ None → ⊥
put_none op a b reply.Done h e = some_is _ e
put_none op a b reply.TooLarge h e = some_is _ e
put_none op a b _ h e = h

remove_none : (op : Op) (a : List ℕ) (r : Reply) → FitsNames (name.Remove a) r → short_of op r ≡ None → ⊥
remove_none op a reply.Done h e = some_is _ e
remove_none op a _ h e = h

clear_none : (op : Op) (r : Reply) → FitsNames name.Clear r → short_of op r ≡ None → ⊥
clear_none op reply.Done h e = some_is _ e
clear_none op _ h e = h

commit_takes : (t : Txn) (r : Reply) → FitsCommit t r → short_of (Commit t) r ≡ None → TakesMemory (Commit t) r
commit_takes t reply.Done h e = some_is _ e
commit_takes t reply.TooLarge h e = some_is _ e
commit_takes t (reply.Conflict pattern quad) h e = tt
commit_takes t _ h e = absurd h

live_takes : (op : Op) (r : Reply) → FitsLive op r → short_of op r ≡ None → TakesMemory op r
live_takes (Begin level) r h e = absurd (begin_none (Begin level) level r h e)
live_takes (Read txn ask) r h e = tt
live_takes (Step t query number) r h e = tt
live_takes (Write txn changes) r h e = absurd (write_none (Write txn changes) txn r h e)
live_takes (Commit t) r h e = commit_takes t r h e
live_takes (Rollback t) r h e = absurd (done_none (Rollback t) r h e)
live_takes (Ping t) r h e = absurd (done_none (Ping t) r h e)
live_takes (Names name.List) r h e = tt
live_takes (Names (name.Get a)) r h e = tt
live_takes (Names (name.Put a b)) r h e = absurd (put_none (Names (name.Put a b)) a b r h e)
live_takes (Names (name.Remove a)) r h e = absurd (remove_none (Names (name.Remove a)) a r h e)
live_takes (Names name.Clear) r h e = absurd (clear_none (Names name.Clear) r h e)

no_transaction : (op : Op) (r : Reply) → r ≡ reply.NoTransaction → short_of op r ≡ None → TakesMemory op r
no_transaction op r same e = some_is short.NoTransaction (sym (ap (short_of op) same) ∙ e)

others : (op : Op) (r : Reply) → FitsOp op r → short_of op r ≡ None → TakesMemory op r
others op r (inl h) e = live_takes op r h e
others op r (inr h) e = no_transaction op r h.0 e

pub others_take_memory : OthersTakeMemory
others_take_memory = others
