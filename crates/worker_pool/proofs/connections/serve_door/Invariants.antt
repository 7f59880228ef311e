use Rattle.std.proofs.Common.{◌≡◌, List, ℕ, false, Some, length}
use Rattle.rdf_io.specs.Doors.{Link}
use Rattle.session.specs.Marks.{Moves}
use Rattle.session.specs.Turns.{ground}
use Rattle.shared_session.specs.Houses.{IsOf, journals, numbers}
use Rattle.worker_pool.specs.Doors.{Doored, all_marks, count_after, sink_faults, source_faults}
use Rattle.worker_pool.proofs.connections.serve_door.Given as goal

abbrev pub invariant-loop : goal.invariant-loop
invariant-loop g l = record {
  passes : IsOf l.house l.passes;
  seats : numbers l.passes ≡ numbers l.initial.passes;
  out : g.D.Door.out l.door ≡ false;
  moves : Moves (numbers l.initial.passes) (journals l.initial.passes) (journals l.passes) (all_marks l.reports.items);
  told : (told : List Link) → g.D.Door.links l.initial.door ≡ Some told
      → Doored (ground l.house.names l.house.limits (journals l.passes) (numbers l.initial.passes)) told (g.D.Door.links l.door) (g.D.Door.backs l.initial.door) (g.D.Door.backs l.door) l.reports.items;
  given : g.D.Door.given l.door ≡ count_after (g.D.Door.given l.initial.door) (length l.reports.items);
  sources : g.D.Door.broken_sources l.door ≡ count_after (g.D.Door.broken_sources l.initial.door) (source_faults l.reports.items);
  sinks : g.D.Door.broken_sinks l.door ≡ count_after (g.D.Door.broken_sinks l.initial.door) (sink_faults l.reports.items);
  ends : g.D.Door.ends l.door ≡ g.D.Door.ends l.initial.door;
  faults : g.D.Door.faults l.door ≡ g.D.Door.faults l.initial.door;
}
