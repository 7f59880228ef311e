-- Worked cases of refusals and of prefixes, by computation.
use Rattle.std.proofs.Common.{◌≡◌, List, [], ◌∷◌, Some, None, refl, codes}
use Rattle.change_set.specs.declared.change.Change.TheVariants.{Remove}
use Rattle.journal.specs.declared.level.Level.TheVariants.{NoIsolation, Snapshot}
use Rattle.journal.specs.declared.op.NamesOp.TheVariants as name
use Rattle.journal.specs.declared.op.Op.TheVariants.{Begin, Write, Commit, Rollback, Ping, Names}
use Rattle.journal.specs.declared.entry.Entry.{Entry}
use Rattle.journal.specs.declared.limits.Limits.{Limits}
use Rattle.journal.specs.declared.reply.Reply.TheVariants as reply
use Rattle.journal.specs.Replies.{line_bytes}
use Rattle.journal.specs.Journal.{commits_in, reply_at}
use Rattle.journal.proofs.ExampleParts.{adds, entry, everything, limits, one, size, three, two, txn}

-- two quads, 68 bytes, one transaction and one prefix
abbrev few : Limits
few = record { quads = 2; bytes = 68; rows = 10; txns = 1; names = 1; places = 10 }

bytes_of_a_line : line_bytes one ≡ 32
unfolding everything
bytes_of_a_line = refl

-- a third quad is too large at the Commit, which leaves its transaction open; behind a removal the Commit is done
abbrev third_quad : List Entry
third_quad =
    adds None one ∷ adds None two ∷ entry (Begin Snapshot) ∷ adds (Some (txn 2 Snapshot)) three ∷ entry (Commit (txn 2 Snapshot))
    ∷ entry (Write (Some (txn 2 Snapshot)) (Remove one ∷ [])) ∷ entry (Commit (txn 2 Snapshot)) ∷ size None ∷ []

too_large_and_done : (reply_at few third_quad 3 ≡ Some reply.Done) × (reply_at few third_quad 4 ≡ Some reply.TooLarge) × (reply_at few third_quad 6 ≡ Some reply.Done)
unfolding everything
too_large_and_done = (refl, refl, refl)

two_are_left : (reply_at few third_quad 7 ≡ Some (reply.Count 2)) × (commits_in few third_quad ≡ 1)
unfolding everything
two_are_left = (refl, refl)

-- a second transaction is too many until the first is rolled back; then a Ping of the first finds none
abbrev second_transaction : List Entry
second_transaction =
    entry (Begin NoIsolation) ∷ entry (Begin Snapshot) ∷ entry (Rollback (txn 0 NoIsolation)) ∷ entry (Begin Snapshot) ∷ entry (Ping (txn 0 NoIsolation))
    ∷ entry (Ping (txn 3 NoIsolation)) ∷ entry (Ping (txn 3 Snapshot)) ∷ []

too_many_and_begun : (reply_at few second_transaction 1 ≡ Some reply.TooManyOpen) × (reply_at few second_transaction 3 ≡ Some (reply.Begun (txn 3 Snapshot)))
unfolding everything
too_many_and_begun = (refl, refl)

pings : (reply_at few second_transaction 4 ≡ Some reply.NoTransaction) × (reply_at few second_transaction 5 ≡ Some reply.NoTransaction)
    × (reply_at few second_transaction 6 ≡ Some reply.Done)
unfolding everything
pings = (refl, refl, refl)

-- a second prefix is too large, a new name of the first is not
abbrev second_prefix : List Entry
second_prefix =
    entry (Names (name.Put (codes "b") (codes "urn:b"))) ∷ entry (Names (name.Put (codes "a") (codes "urn:a")))
    ∷ entry (Names (name.Put (codes "b") (codes "urn:c"))) ∷ entry (Names (name.Get (codes "b"))) ∷ entry (Names (name.Get (codes "a")))
    ∷ entry (Names name.List) ∷ []

second_is_too_large : (reply_at few second_prefix 1 ≡ Some reply.TooLarge) × (reply_at few second_prefix 2 ≡ Some reply.Done)
unfolding everything
second_is_too_large = (refl, refl)

first_is_there : (reply_at few second_prefix 3 ≡ Some (reply.Prefix (codes "urn:c"))) × (reply_at few second_prefix 4 ≡ Some reply.NoPrefix)
unfolding everything
first_is_there = (refl, refl)

prefixes_in_order : reply_at limits second_prefix 5 ≡ Some (reply.Prefixes ((codes "a", codes "urn:a") ∷ (codes "b", codes "urn:c") ∷ []))
unfolding everything
prefixes_in_order = refl
