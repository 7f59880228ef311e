use Rattle.std.proofs.Common.{◌≡◌, ◌++◌, ◌∷◌, List, ℕ, [], length, ap, sym, ◌∙◌, refl, subst}
use Rattle.session.specs.Causes.{sink_broke, source_broke}
use Rattle.session.specs.Marks.{Moves}
use Rattle.session.specs.Turns.{ground}
use Rattle.session.specs.declared.report.SessionReport.{SessionReport}
use Rattle.session.proofs.MarkLemmas.{all_begin, moves_none}
use Rattle.shared_session.specs.Houses.{journals, numbers}
use Rattle.worker_pool.specs.Doors.{all_marks, count_after, sink_faults, source_faults}
use Rattle.worker_pool.specs.Nexts.{Nexts}
use Rattle.worker_pool.specs.declared.door_end.Next.TheVariants.{Served}
use Rattle.worker_pool.proofs.CountLemmas.{faults_more, given_more}
use Rattle.worker_pool.proofs.DoorLemmas.{doored_more, doored_none, moves_report, moves_same}
use Rattle.worker_pool.proofs.connections.serve_door.Goals as goal

pub loop-init : goal.loop-init
loop-init g c =
    let none : c.new-reports.result.items ≡ [] = c.new-reports.ensures.items in
    record {
      passes = c.requires.passes;
      seats = refl;
      out = c.requires.out;
      moves = subst (λ (z : List SessionReport). Moves (numbers c.args.passes.now) (journals c.args.passes.now) (journals c.args.passes.now) (all_marks z)) (sym none)
          (moves_none (numbers c.args.passes.now) (journals c.args.passes.now));
      told = λ told is. doored_none (ground c.args.house.now.names c.args.house.now.limits (journals c.args.passes.now) (numbers c.args.passes.now)) told
          (g.D.Door.links c.args.door.now) (g.D.Door.backs c.args.door.now) c.new-reports.result.items is none;
      given = ap (λ (z : List SessionReport). count_after (g.D.Door.given c.args.door.now) (length z)) (sym none);
      sources = ap (λ (z : List SessionReport). count_after (g.D.Door.broken_sources c.args.door.now) (source_faults z)) (sym none);
      sinks = ap (λ (z : List SessionReport). count_after (g.D.Door.broken_sinks c.args.door.now) (sink_faults z)) (sym none);
      ends = refl;
      faults = refl;
    }

pub loop-preserved : goal.loop-preserved
loop-preserved g c =
    let seats : ℕ → ℕ = numbers c.args.passes.now in
    let old = journals c.loop.passes in
    let new = journals c.serve_next.new.passes in
    let report : SessionReport = c.in-Served.report in
    let next : Nexts (ground c.args.house.now.names c.args.house.now.limits new seats) old (g.D.Door.links c.loop.door) (g.D.Door.links c.serve_next.new.door)
    (g.D.Door.backs c.loop.door) (g.D.Door.backs c.serve_next.new.door) (Served report) =
    subst (λ (k : ℕ → ℕ). Nexts (ground c.args.house.now.names c.args.house.now.limits new k) old (g.D.Door.links c.loop.door) (g.D.Door.links c.serve_next.new.door)
    (g.D.Door.backs c.loop.door) (g.D.Door.backs c.serve_next.new.door) (Served report)) c.loop.invariant.seats c.in-Served.ensures.next in
    let pushed : c.push_reserved.new.self.items ≡ c.loop.reports.items ++ report ∷ [] =
    c.push_reserved.ensures.items ∙ ap (λ (z : List SessionReport). z ++ report ∷ []) c.reserve.ensures.items in
    record {
      passes = c.in-Served.ensures.passes.0;
      seats = c.in-Served.ensures.passes.1 ∙ c.loop.invariant.seats;
      out = c.in-Served.ensures.out;
      moves = moves_report seats (journals c.args.passes.now) old new c.loop.reports.items c.push_reserved.new.self.items report c.loop.invariant.moves next.0 pushed;
      told = λ told is. doored_more c.reply_reads_no_later_entry.ensures c.args.house.now.names c.args.house.now.limits seats old new told
          (g.D.Door.links c.loop.door) (g.D.Door.links c.serve_next.new.door) (g.D.Door.backs c.args.door.now) (g.D.Door.backs c.loop.door) (g.D.Door.backs c.serve_next.new.door)
          c.loop.reports.items c.push_reserved.new.self.items report (c.loop.invariant.told told is) (all_begin seats old new report.marks.items next.0) next.1 pushed;
      given = given_more (g.D.Door.given c.args.door.now) (g.D.Door.given c.loop.door) (g.D.Door.given c.serve_next.new.door) c.loop.reports.items c.push_reserved.new.self.items
          report c.loop.invariant.given c.in-Served.ensures.given pushed;
      sources = faults_more (λ (r : SessionReport). source_broke r.end) (g.D.Door.broken_sources c.args.door.now) (g.D.Door.broken_sources c.loop.door)
          (g.D.Door.broken_sources c.serve_next.new.door) c.loop.reports.items c.push_reserved.new.self.items report c.loop.invariant.sources c.in-Served.ensures.sources pushed;
      sinks = faults_more (λ (r : SessionReport). sink_broke r.end) (g.D.Door.broken_sinks c.args.door.now) (g.D.Door.broken_sinks c.loop.door)
          (g.D.Door.broken_sinks c.serve_next.new.door) c.loop.reports.items c.push_reserved.new.self.items report c.loop.invariant.sinks c.in-Served.ensures.sinks pushed;
      ends = c.in-Served.ensures.stop.0 ∙ c.loop.invariant.ends;
      faults = c.in-Served.ensures.stop.1 ∙ c.loop.invariant.faults;
    }

pub returns-in-Shut-clause-moves : goal.returns-in-Shut-clause-moves
returns-in-Shut-clause-moves g c =
    moves_same (numbers c.args.passes.now) (journals c.args.passes.now) (journals c.loop.passes) (journals c.serve_next.new.passes) c.loop.reports.items c.reserve.new.self.items
    c.in-Shut.ensures.next.2 c.reserve.ensures.items c.loop.invariant.moves

pub returns-in-Broken-clause-moves : goal.returns-in-Broken-clause-moves
returns-in-Broken-clause-moves g c =
    moves_same (numbers c.args.passes.now) (journals c.args.passes.now) (journals c.loop.passes) (journals c.serve_next.new.passes) c.loop.reports.items c.reserve.new.self.items
    c.in-Broken.ensures.next.2 c.reserve.ensures.items c.loop.invariant.moves
