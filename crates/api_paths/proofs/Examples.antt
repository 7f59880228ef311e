-- Worked cases of the definitions, by computation.
use Rattle.std.proofs.Common.{◌≡◌, refl, [], ◌∷◌, ℕ, Bool, true, false, Some, None, codes, lit≤}
use Rattle.journal.specs.declared.level.Level.TheVariants.{SnapshotRead, Serializable}
use Rattle.api_paths.specs.Targets.{origin_form, text_of, texts_of, segments}
use Rattle.api_paths.specs.Levels.{level_of}
use Rattle.api_paths.specs.Prefixes.{is_prefix}
use Rattle.api_paths.specs.TransactionNames.{IsTransactionName}
use Rattle.std.specs.Fmt.{digits}

-- an absolute form is taken from the first slash behind its authority on
taken : (origin_form (codes "http://h:1/a/b?c") ≡ codes "/a/b?c") × (origin_form (codes "/a/b?c") ≡ codes "/a/b?c")
    × (origin_form (codes "http://h") ≡ []) × (origin_form (codes "HTTP://h/a") ≡ codes "HTTP://h/a")
taken = (refl, refl, refl, refl)

-- a level by its name, or by what stands behind the last mark
levels : (level_of (codes "SERIALIZABLE") ≡ Some Serializable) × (level_of (codes "http://e/x#SNAPSHOT_READ") ≡ Some SnapshotRead)
    × (level_of (codes "Serializable") ≡ None) × (level_of (codes "SERIALIZABLE/") ≡ None)
levels = (refl, refl, refl, refl)

-- the name of a transaction at SERIALIZABLE
named : IsTransactionName (codes "12-5") (record { place = 12; level = Serializable })
unfolding lib.Utf8.encode digits
named = (refl, lit≤ tt)

-- prefixes hold no colon, begin with a letter and end with no dot
prefixes : (is_prefix (codes "a.b-1") ≡ true) × (is_prefix (codes "a:b") ≡ false) × (is_prefix (codes "1a") ≡ false) × (is_prefix (codes "a.") ≡ false)
    × (is_prefix [] ≡ false)
unfolding lib.Utf8.encode
prefixes = (refl, refl, refl, refl, refl)
