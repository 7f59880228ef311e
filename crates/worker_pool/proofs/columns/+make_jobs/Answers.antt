use Rattle.std.proofs.Common.{◌≡◌, ◌++◌, ◌∷◌, [], List, None, refl, sym, ◌∙◌, subst, arith}
use Rattle.shared_session.specs.declared.passes.Passes.{Passes}
use Rattle.worker_pool.specs.Jobs.{AreJobs}
use Rattle.worker_pool.specs.declared.jobs.Job.{Job}
use Rattle.worker_pool.proofs.JobLemmas.{jobs_count, jobs_more}
use Rattle.worker_pool.proofs.columns.+make_jobs.Goals as goal

pub push_reserved-requires : goal.push_reserved-requires
push_reserved-requires g t c =
    omega (arith, jobs_count c.pop.new.self.items c.pop-2.new.self.items c.make_jobs.new.jobs.items c.make_jobs.ensures.jobs.0, c.make_jobs.new.jobs.ok.0, c.pop.new.self.ok.0, c.in-Some.ensures.cases, c.requires.room.1, c.make_jobs.ensures.jobs.1)

pub returns-clause-jobs : goal.returns-clause-jobs
returns-clause-jobs g t c =
    let j : Job g.row.D.Denot = record { door = c.in-Some.door; passes = c.in-Some-pop.own; worker = c.len-worker.result; end = None } in (
      subst (λ (z : List (Job g.row.D.Denot)). AreJobs c.args.doors.now.items c.args.passes.now.items z) (sym c.push_reserved.ensures.items)
          (subst (λ z. AreJobs z c.args.passes.now.items (c.make_jobs.new.jobs.items ++ j ∷ [])) (sym c.in-Some.ensures.items)
          (subst (λ (z : List Passes). AreJobs (c.pop.new.self.items ++ c.in-Some.door ∷ []) z (c.make_jobs.new.jobs.items ++ j ∷ [])) (sym c.in-Some-pop.ensures.items)
          (jobs_more c.pop.new.self.items c.pop-2.new.self.items c.make_jobs.new.jobs.items c.in-Some.door c.in-Some-pop.own j c.make_jobs.ensures.jobs.0 refl refl))),
      c.push_reserved.ensures.capacity ∙ c.make_jobs.ensures.jobs.1,
    )
