-- Worked cases of the definitions, by computation.
use Rattle.std.proofs.Common.{◌≡◌, ℕ, List, [], ◌∷◌, Some, None, true, false, refl, codes, lit≤}
use Rattle.std.specs.Fmt.{digits}
use Rattle.journal.specs.declared.level.Level.TheVariants.{Serializable}
use Rattle.journal.specs.declared.reply.Reply.TheVariants as reply
use Rattle.http_frame.specs.Messages.{SeenResponse}
use Rattle.reply_reading.specs.declared.manner.Manner.TheVariants as manner
use Rattle.reply_reading.specs.Counts.{count_of}
use Rattle.reply_reading.specs.Locations.{behind_slash, location_name, location_of, Locates}
use Rattle.reply_reading.specs.Readings.{IsReplyBy, is_success}

-- digits alone, leading zeros too; no sign, no space, nothing, and no number of 65 bits
counts : (count_of (codes "0") ≡ Some 0) × (count_of (codes "007") ≡ Some 7) × (count_of (codes "18446744073709551615") ≡ Some 18446744073709551615)
    × (count_of (codes "18446744073709551616") ≡ None) × (count_of (codes "+1") ≡ None) × (count_of (codes "1\n") ≡ None) × (count_of [] ≡ None)
unfolding count_of
counts = (refl, refl, refl, refl, refl, refl, refl)

-- the last slash counts
slashes : (behind_slash (codes "http://h/r/transactions/4-5") ≡ Some (codes "4-5")) × (behind_slash (codes "/4-5/") ≡ Some [])
    × (behind_slash (codes "4-5") ≡ None)
slashes = (refl, refl, refl)

abbrev field : List ℕ → List ℕ × List ℕ
field value = (codes "LOCATION", value)

-- the field is found whatever its case, and there is one
fields : (location_name (field (codes "/a/4-5") ∷ []) ≡ Some (codes "4-5")) × (location_of (field (codes "a") ∷ field (codes "a") ∷ []) ≡ None)
    × (location_of [] ≡ None)
fields = (refl, refl, refl)

begun : Locates (field (codes "http://h/rdf4j-server/repositories/r/transactions/4-5") ∷ []) (record { place = 4; level = Serializable })
unfolding digits
begun = (refl, lit≤ tt)

-- what is written of the size of two quads, and what is not
abbrev size : SeenResponse
size = record { status = 200; fields = []; body = codes "2" }

read : IsReplyBy manner.Count size (reply.Count 2)
unfolding count_of
read = refl

statuses : (is_success 201 ≡ true) × (is_success 202 ≡ false) × (is_success 404 ≡ false)
statuses = (refl, refl, refl)
