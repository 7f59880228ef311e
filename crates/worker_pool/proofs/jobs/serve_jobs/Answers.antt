use Rattle.std.proofs.Common.{◌≡◌, ℕ, subst, slice_index_or}
use Rattle.worker_pool.specs.declared.jobs.Job.{Job}
use Rattle.worker_pool.specs.Jobs.{IsDone}
use Rattle.worker_pool.specs.Served.{DoorView, view_of}
use Rattle.worker_pool.proofs.jobs.serve_jobs.Goals as goal

pub returns : goal.returns
returns g c = λ i d h.
    let tells : g.row.D.Denot → DoorView =
    view_of g.D.Door.links g.D.Door.backs g.D.Door.given g.D.Door.ends g.D.Door.faults g.D.Door.broken_sources g.D.Door.broken_sinks in
    let x = (c.for_each_mut.ensures i d h).1 in
    let k : IsDone g.D.Door.out tells c.args.house.now x.argument.now x.after_call.now = x.call in
    subst (λ (z : Job g.row.D.Denot). IsDone g.D.Door.out tells c.args.house.now (slice_index_or c.args.jobs.now i d) z) x.left
    (subst (λ (z : Job g.row.D.Denot). IsDone g.D.Door.out tells c.args.house.now z x.after_call.now) x.argument_is k)
