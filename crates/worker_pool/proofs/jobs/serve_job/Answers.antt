use Rattle.std.proofs.Common.{◌≡◌, refl}
use Rattle.worker_pool.proofs.jobs.serve_job.Goals as goal

pub returns : goal.returns
returns g c = (
  c.serve_door-end.ensures.passes.0,
  c.serve_door-end.ensures.passes.1,
  c.serve_door-end.ensures.out,
  c.serve_door-end.result,
  refl,
  record {
    moves = c.serve_door-end.ensures.moves;
    reports = c.serve_door-end.ensures.reports;
    given = c.serve_door-end.ensures.given;
    sources = c.serve_door-end.ensures.sources;
    sinks = c.serve_door-end.ensures.sinks;
    stop = c.serve_door-end.ensures.stop;
  },
)
