use Rattle.std.proofs.Common.{◌≡◌, ◌-◌, ◌^◌, min, take}
use Rattle.journal.specs.Replies.{bytes_of}
use Rattle.iso_txn.proofs.sizes.bytes_of.Given as goal

abbrev pub invariant-loop-quad : goal.invariant-loop-quad
invariant-loop-quad l = l.bytes ≡ min (bytes_of (take l.quad-index l.quads)) (2 ^ 64 - 1)
