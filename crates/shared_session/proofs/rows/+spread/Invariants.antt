use Rattle.std.proofs.Common.{length}
use Rattle.shared_session.proofs.rows.+spread.Given as goal

abbrev pub decreases-spread : goal.decreases-spread
decreases-spread l = length l.into.now
