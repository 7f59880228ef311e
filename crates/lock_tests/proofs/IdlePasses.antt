-- Passes that hold nothing, with one at the end.
use Rattle.std.proofs.Common.{◌≡◌, List, [], ◌∷◌, ◌++◌, false}
use Rattle.journal_lock.specs.declared.pass.Pass.{Pass}
use Rattle.journal_lock.specs.declared.lock.JournalLock.{JournalLock}
use Rattle.journal_lock.specs.Passes.{AreIdle, IsPassOf, has_turn}

module _ {V E : Type 0} (lock : JournalLock V E) where
  pub idle_parts : (ps : List (Pass V E)) (p : Pass V E) → AreIdle lock (ps ++ p ∷ []) → AreIdle lock ps × (IsPassOf lock p × (has_turn p ≡ false))
  idle_parts [] p h = (tt, h.0)
  idle_parts (q ∷ qs) p h = let r = idle_parts qs p h.1 in ((h.0, r.0), r.1)

  pub idle_more : (ps : List (Pass V E)) (p : Pass V E) → AreIdle lock ps → IsPassOf lock p × (has_turn p ≡ false) → AreIdle lock (ps ++ p ∷ [])
  idle_more [] p h is = (is, tt)
  idle_more (q ∷ qs) p h is = (h.0, idle_more qs p h.1 is)
