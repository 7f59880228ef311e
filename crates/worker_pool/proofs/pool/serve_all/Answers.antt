use Rattle.std.proofs.Common.{◌≡◌, ◌++◌, [], ℕ, List, length, take, drop, vec_len, sym, ap, subst, arith}
use Rattle.std.specs.Prelude.{All}
use Rattle.shared_repo.specs.declared.repo.Repo.{Repo}
use Rattle.shared_session.specs.declared.passes.Passes.{Passes}
use Rattle.worker_pool.specs.Columns.{AreClosed, AreColumns, MayClose}
use Rattle.worker_pool.specs.Jobs.{AreDone, AreJobs, AreParted, HaveEnded, IsReady, rows_of}
use Rattle.worker_pool.specs.Served.{seats_at, view_of}
use Rattle.worker_pool.specs.declared.jobs.Job.{Job}
use Rattle.worker_pool.proofs.ColumnLemmas.{EachOf, columns_less, each_moves, ended_rows, whole_of}
use Rattle.worker_pool.proofs.JobLemmas.{done_each, ended_done, jobs_count, ready_all, slice_back}
use Rattle.worker_pool.proofs.PoolLemmas.{all_served, closes_done, seats_kept}
use Rattle.worker_pool.proofs.pool.serve_all.Goals as goal

pub serve_jobs-requires-after_bounds : goal.serve_jobs-requires-after_bounds
serve_jobs-requires-after_bounds g c κs within =
    subst (λ (z : List (Job g.row.D.Denot)). All (IsReady g.D.Door.out c.args.house) z) (sym c.as_mut_slice.ensures.value)
    (ready_all g.D.Door.out c.args.house c.args.doors.now.items c.args.passes.items c.make_jobs.new.jobs.items c.make_jobs.ensures.jobs.0 c.requires.passes c.requires.out)

pub part_jobs-requires-clause-ended : goal.part_jobs-requires-clause-ended
part_jobs-requires-clause-ended g c =
    let done : AreDone g.D.Door.out (view_of g.D.Door.links g.D.Door.backs g.D.Door.given g.D.Door.ends g.D.Door.faults g.D.Door.broken_sources g.D.Door.broken_sinks) c.args.house c.as_mut_slice.result.now c.serve_jobs.new.jobs =
    done_each g.D.Door.out (view_of g.D.Door.links g.D.Door.backs g.D.Door.given g.D.Door.ends g.D.Door.faults g.D.Door.broken_sources g.D.Door.broken_sinks) c.args.house c.as_mut_slice.result.now c.serve_jobs.new.jobs (omega (arith, c.serve_jobs.auto.jobs)) c.serve_jobs.ensures in
    let back : take c.make_jobs.new.jobs.len (c.serve_jobs.new.jobs ++ drop (length c.serve_jobs.new.jobs) c.make_jobs.new.jobs.items) ≡ c.serve_jobs.new.jobs =
    slice_back c.make_jobs.new.jobs.len c.serve_jobs.new.jobs c.make_jobs.new.jobs.items (omega (arith, c.serve_jobs.auto.jobs, ap length c.as_mut_slice.ensures.value)) (omega (arith, c.make_jobs.new.jobs.ok.0)) in
    subst (λ (z : List (Job g.row.D.Denot)). HaveEnded c.args.house z) (sym back) (ended_done g.D.Door.out (view_of g.D.Door.links g.D.Door.backs g.D.Door.given g.D.Door.ends g.D.Door.faults g.D.Door.broken_sources g.D.Door.broken_sinks) c.args.house c.as_mut_slice.result.now c.serve_jobs.new.jobs done)

pub part_jobs-requires-clause-columns : goal.part_jobs-requires-clause-columns
part_jobs-requires-clause-columns g c =
    let empty : AreColumns c.len-workers.result [] c.as_mut_slice-2.result.now =
    subst (λ (z : List Passes). AreColumns c.len-workers.result [] z) (sym c.as_mut_slice-2.ensures.value) c.in_ok-columns.ensures.columns in
    let each : length c.as_mut_slice-2.result.now ≡ length c.args.house.repos =
    omega (arith, ap length c.as_mut_slice-2.ensures.value, c.in_ok-columns.columns.ok.0, c.in_ok-columns.ensures.count, ap length c.names-count.ensures.names, c.names-count.ensures.count) in
    let few : c.make_jobs.new.jobs.len ≡ c.len-workers.result =
    omega (arith, jobs_count c.args.doors.now.items c.args.passes.items c.make_jobs.new.jobs.items c.make_jobs.ensures.jobs.0, c.make_jobs.new.jobs.ok.0, c.args.doors.now.ok.0, c.requires.count, c.len-workers.ensures) in
    (columns_less c.make_jobs.new.jobs.len c.len-workers.result [] c.as_mut_slice-2.result.now (omega (arith, few)) empty, each)

pub close_all-requires-clause-columns : goal.close_all-requires-clause-columns
close_all-requires-clause-columns g c =
    let done : AreDone g.D.Door.out (view_of g.D.Door.links g.D.Door.backs g.D.Door.given g.D.Door.ends g.D.Door.faults g.D.Door.broken_sources g.D.Door.broken_sinks) c.args.house c.as_mut_slice.result.now c.serve_jobs.new.jobs =
    done_each g.D.Door.out (view_of g.D.Door.links g.D.Door.backs g.D.Door.given g.D.Door.ends g.D.Door.faults g.D.Door.broken_sources g.D.Door.broken_sinks) c.args.house c.as_mut_slice.result.now c.serve_jobs.new.jobs (omega (arith, c.serve_jobs.auto.jobs)) c.serve_jobs.ensures in
    let back : take c.make_jobs.new.jobs.len (c.serve_jobs.new.jobs ++ drop (length c.serve_jobs.new.jobs) c.make_jobs.new.jobs.items) ≡ c.serve_jobs.new.jobs =
    slice_back c.make_jobs.new.jobs.len c.serve_jobs.new.jobs c.make_jobs.new.jobs.items (omega (arith, c.serve_jobs.auto.jobs, ap length c.as_mut_slice.ensures.value)) (omega (arith, c.make_jobs.new.jobs.ok.0)) in
    let empty : AreColumns c.len-workers.result [] c.as_mut_slice-2.result.now =
    subst (λ (z : List Passes). AreColumns c.len-workers.result [] z) (sym c.as_mut_slice-2.ensures.value) c.in_ok-columns.ensures.columns in
    let each : length c.as_mut_slice-2.result.now ≡ length c.args.house.repos =
    omega (arith, ap length c.as_mut_slice-2.ensures.value, c.in_ok-columns.columns.ok.0, c.in_ok-columns.ensures.count, ap length c.names-count.ensures.names, c.names-count.ensures.count) in
    let full : AreColumns c.len-workers.result (rows_of c.serve_jobs.new.jobs) c.part_jobs.new.columns =
    subst (λ (z : List (Job g.row.D.Denot)). AreColumns c.len-workers.result (rows_of z) c.part_jobs.new.columns) back (c.part_jobs.ensures.columns c.len-workers.result empty) in
    let one_each : length c.part_jobs.new.columns ≡ length c.args.house.repos = omega (arith, each, c.part_jobs.auto.columns) in
    let back_c : take c.in_ok-columns.columns.len (c.part_jobs.new.columns ++ drop (length c.part_jobs.new.columns) c.in_ok-columns.columns.items) ≡ c.part_jobs.new.columns =
    slice_back c.in_ok-columns.columns.len c.part_jobs.new.columns c.in_ok-columns.columns.items (omega (arith, c.part_jobs.auto.columns, ap length c.as_mut_slice-2.ensures.value)) (omega (arith, c.in_ok-columns.columns.ok.0)) in
    let closes : MayClose c.args.house.limits c.args.house.repos c.part_jobs.new.columns =
    closes_done g.D.Door.out (view_of g.D.Door.links g.D.Door.backs g.D.Door.given g.D.Door.ends g.D.Door.faults g.D.Door.broken_sources g.D.Door.broken_sinks) c.args.house c.as_mut_slice.result.now c.serve_jobs.new.jobs (vec_len c.args.passes) c.len-workers.result c.part_jobs.new.columns c.into_repos-repos.ensures.limits c.requires.all done
    (omega (arith, c.serve_jobs.auto.jobs, ap length c.as_mut_slice.ensures.value, jobs_count c.args.doors.now.items c.args.passes.items c.make_jobs.new.jobs.items c.make_jobs.ensures.jobs.0, c.args.doors.now.ok.0, c.requires.count))
    one_each full in
    let may : MayClose c.args.house.limits c.into_repos-repos.result.items (take c.in_ok-columns.columns.len (c.part_jobs.new.columns ++ drop (length c.part_jobs.new.columns) c.in_ok-columns.columns.items)) =
    subst (λ (z : List Repo). MayClose c.args.house.limits z (take c.in_ok-columns.columns.len (c.part_jobs.new.columns ++ drop (length c.part_jobs.new.columns) c.in_ok-columns.columns.items))) (sym c.into_repos-repos.ensures.repos)
    (subst (λ (z : List Passes). MayClose c.args.house.limits c.args.house.repos z) (sym back_c) closes) in
    (c.args.house.limits, may)

pub returns-clause-served : goal.returns-clause-served
returns-clause-served g c =
    let done : AreDone g.D.Door.out (view_of g.D.Door.links g.D.Door.backs g.D.Door.given g.D.Door.ends g.D.Door.faults g.D.Door.broken_sources g.D.Door.broken_sinks) c.args.house c.as_mut_slice.result.now c.serve_jobs.new.jobs =
    done_each g.D.Door.out (view_of g.D.Door.links g.D.Door.backs g.D.Door.given g.D.Door.ends g.D.Door.faults g.D.Door.broken_sources g.D.Door.broken_sinks) c.args.house c.as_mut_slice.result.now c.serve_jobs.new.jobs (omega (arith, c.serve_jobs.auto.jobs)) c.serve_jobs.ensures in
    let back : take c.make_jobs.new.jobs.len (c.serve_jobs.new.jobs ++ drop (length c.serve_jobs.new.jobs) c.make_jobs.new.jobs.items) ≡ c.serve_jobs.new.jobs =
    slice_back c.make_jobs.new.jobs.len c.serve_jobs.new.jobs c.make_jobs.new.jobs.items (omega (arith, c.serve_jobs.auto.jobs, ap length c.as_mut_slice.ensures.value)) (omega (arith, c.make_jobs.new.jobs.ok.0)) in
    let empty : AreColumns c.len-workers.result [] c.as_mut_slice-2.result.now =
    subst (λ (z : List Passes). AreColumns c.len-workers.result [] z) (sym c.as_mut_slice-2.ensures.value) c.in_ok-columns.ensures.columns in
    let each : length c.as_mut_slice-2.result.now ≡ length c.args.house.repos =
    omega (arith, ap length c.as_mut_slice-2.ensures.value, c.in_ok-columns.columns.ok.0, c.in_ok-columns.ensures.count, ap length c.names-count.ensures.names, c.names-count.ensures.count) in
    let full : AreColumns c.len-workers.result (rows_of c.serve_jobs.new.jobs) c.part_jobs.new.columns =
    subst (λ (z : List (Job g.row.D.Denot)). AreColumns c.len-workers.result (rows_of z) c.part_jobs.new.columns) back (c.part_jobs.ensures.columns c.len-workers.result empty) in
    let one_each : length c.part_jobs.new.columns ≡ length c.args.house.repos = omega (arith, each, c.part_jobs.auto.columns) in
    let back_c : take c.in_ok-columns.columns.len (c.part_jobs.new.columns ++ drop (length c.part_jobs.new.columns) c.in_ok-columns.columns.items) ≡ c.part_jobs.new.columns =
    slice_back c.in_ok-columns.columns.len c.part_jobs.new.columns c.in_ok-columns.columns.items (omega (arith, c.part_jobs.auto.columns, ap length c.as_mut_slice-2.ensures.value)) (omega (arith, c.in_ok-columns.columns.ok.0)) in
    let closes : MayClose c.args.house.limits c.args.house.repos c.part_jobs.new.columns =
    closes_done g.D.Door.out (view_of g.D.Door.links g.D.Door.backs g.D.Door.given g.D.Door.ends g.D.Door.faults g.D.Door.broken_sources g.D.Door.broken_sinks) c.args.house c.as_mut_slice.result.now c.serve_jobs.new.jobs (vec_len c.args.passes) c.len-workers.result c.part_jobs.new.columns c.into_repos-repos.ensures.limits c.requires.all done
    (omega (arith, c.serve_jobs.auto.jobs, ap length c.as_mut_slice.ensures.value, jobs_count c.args.doors.now.items c.args.passes.items c.make_jobs.new.jobs.items c.make_jobs.ensures.jobs.0, c.args.doors.now.ok.0, c.requires.count))
    one_each full in
    let may : MayClose c.args.house.limits c.into_repos-repos.result.items (take c.in_ok-columns.columns.len (c.part_jobs.new.columns ++ drop (length c.part_jobs.new.columns) c.in_ok-columns.columns.items)) =
    subst (λ (z : List Repo). MayClose c.args.house.limits z (take c.in_ok-columns.columns.len (c.part_jobs.new.columns ++ drop (length c.part_jobs.new.columns) c.in_ok-columns.columns.items))) (sym c.into_repos-repos.ensures.repos)
    (subst (λ (z : List Passes). MayClose c.args.house.limits c.args.house.repos z) (sym back_c) closes) in
    let closed : AreClosed c.args.house.limits c.part_jobs.new.columns c.close_all.new.closing.items c.close_all.new.counts.items =
    subst (λ (z : List Passes). AreClosed c.args.house.limits z c.close_all.new.closing.items c.close_all.new.counts.items) back_c (c.close_all.ensures.closed c.args.house.limits may) in
    let rows : EachOf c.args.house.repos (rows_of c.serve_jobs.new.jobs) = ended_rows c.args.house c.serve_jobs.new.jobs (ended_done g.D.Door.out (view_of g.D.Door.links g.D.Door.backs g.D.Door.given g.D.Door.ends g.D.Door.faults g.D.Door.broken_sources g.D.Door.broken_sinks) c.args.house c.as_mut_slice.result.now c.serve_jobs.new.jobs done) in
    let jobs : AreJobs c.args.doors.now.items c.args.passes.items c.as_mut_slice.result.now =
    subst (λ (z : List (Job g.row.D.Denot)). AreJobs c.args.doors.now.items c.args.passes.items z) (sym c.as_mut_slice.ensures.value) c.make_jobs.ensures.jobs.0 in
    all_served g.D.Door.out (view_of g.D.Door.links g.D.Door.backs g.D.Door.given g.D.Door.ends g.D.Door.faults g.D.Door.broken_sources g.D.Door.broken_sinks) c.reply_reads_no_later_entry.ensures c.args.house c.close_all.new.closing.items c.args.passes.items c.args.doors.now.items c.part_jobs.new.doors.items
    c.as_mut_slice.result.now c.serve_jobs.new.jobs c.part_jobs.new.ends.items jobs done
    (subst (λ (z : List (Job g.row.D.Denot)). AreParted z c.part_jobs.new.doors.items c.part_jobs.new.ends.items) back c.part_jobs.ensures.parts)
    (each_moves c.args.house.limits c.args.house.repos c.len-workers.result (rows_of c.serve_jobs.new.jobs) c.part_jobs.new.columns c.close_all.new.closing.items c.close_all.new.counts.items rows one_each full closed)

pub returns-clause-whole : goal.returns-clause-whole
returns-clause-whole g c =
    let done : AreDone g.D.Door.out (view_of g.D.Door.links g.D.Door.backs g.D.Door.given g.D.Door.ends g.D.Door.faults g.D.Door.broken_sources g.D.Door.broken_sinks) c.args.house c.as_mut_slice.result.now c.serve_jobs.new.jobs =
    done_each g.D.Door.out (view_of g.D.Door.links g.D.Door.backs g.D.Door.given g.D.Door.ends g.D.Door.faults g.D.Door.broken_sources g.D.Door.broken_sinks) c.args.house c.as_mut_slice.result.now c.serve_jobs.new.jobs (omega (arith, c.serve_jobs.auto.jobs)) c.serve_jobs.ensures in
    let back : take c.make_jobs.new.jobs.len (c.serve_jobs.new.jobs ++ drop (length c.serve_jobs.new.jobs) c.make_jobs.new.jobs.items) ≡ c.serve_jobs.new.jobs =
    slice_back c.make_jobs.new.jobs.len c.serve_jobs.new.jobs c.make_jobs.new.jobs.items (omega (arith, c.serve_jobs.auto.jobs, ap length c.as_mut_slice.ensures.value)) (omega (arith, c.make_jobs.new.jobs.ok.0)) in
    let empty : AreColumns c.len-workers.result [] c.as_mut_slice-2.result.now =
    subst (λ (z : List Passes). AreColumns c.len-workers.result [] z) (sym c.as_mut_slice-2.ensures.value) c.in_ok-columns.ensures.columns in
    let each : length c.as_mut_slice-2.result.now ≡ length c.args.house.repos =
    omega (arith, ap length c.as_mut_slice-2.ensures.value, c.in_ok-columns.columns.ok.0, c.in_ok-columns.ensures.count, ap length c.names-count.ensures.names, c.names-count.ensures.count) in
    let full : AreColumns c.len-workers.result (rows_of c.serve_jobs.new.jobs) c.part_jobs.new.columns =
    subst (λ (z : List (Job g.row.D.Denot)). AreColumns c.len-workers.result (rows_of z) c.part_jobs.new.columns) back (c.part_jobs.ensures.columns c.len-workers.result empty) in
    let one_each : length c.part_jobs.new.columns ≡ length c.args.house.repos = omega (arith, each, c.part_jobs.auto.columns) in
    let back_c : take c.in_ok-columns.columns.len (c.part_jobs.new.columns ++ drop (length c.part_jobs.new.columns) c.in_ok-columns.columns.items) ≡ c.part_jobs.new.columns =
    slice_back c.in_ok-columns.columns.len c.part_jobs.new.columns c.in_ok-columns.columns.items (omega (arith, c.part_jobs.auto.columns, ap length c.as_mut_slice-2.ensures.value)) (omega (arith, c.in_ok-columns.columns.ok.0)) in
    let closes : MayClose c.args.house.limits c.args.house.repos c.part_jobs.new.columns =
    closes_done g.D.Door.out (view_of g.D.Door.links g.D.Door.backs g.D.Door.given g.D.Door.ends g.D.Door.faults g.D.Door.broken_sources g.D.Door.broken_sinks) c.args.house c.as_mut_slice.result.now c.serve_jobs.new.jobs (vec_len c.args.passes) c.len-workers.result c.part_jobs.new.columns c.into_repos-repos.ensures.limits c.requires.all done
    (omega (arith, c.serve_jobs.auto.jobs, ap length c.as_mut_slice.ensures.value, jobs_count c.args.doors.now.items c.args.passes.items c.make_jobs.new.jobs.items c.make_jobs.ensures.jobs.0, c.args.doors.now.ok.0, c.requires.count))
    one_each full in
    let may : MayClose c.args.house.limits c.into_repos-repos.result.items (take c.in_ok-columns.columns.len (c.part_jobs.new.columns ++ drop (length c.part_jobs.new.columns) c.in_ok-columns.columns.items)) =
    subst (λ (z : List Repo). MayClose c.args.house.limits z (take c.in_ok-columns.columns.len (c.part_jobs.new.columns ++ drop (length c.part_jobs.new.columns) c.in_ok-columns.columns.items))) (sym c.into_repos-repos.ensures.repos)
    (subst (λ (z : List Passes). MayClose c.args.house.limits c.args.house.repos z) (sym back_c) closes) in
    let closed : AreClosed c.args.house.limits c.part_jobs.new.columns c.close_all.new.closing.items c.close_all.new.counts.items =
    subst (λ (z : List Passes). AreClosed c.args.house.limits z c.close_all.new.closing.items c.close_all.new.counts.items) back_c (c.close_all.ensures.closed c.args.house.limits may) in
    let rows : EachOf c.args.house.repos (rows_of c.serve_jobs.new.jobs) = ended_rows c.args.house c.serve_jobs.new.jobs (ended_done g.D.Door.out (view_of g.D.Door.links g.D.Door.backs g.D.Door.given g.D.Door.ends g.D.Door.faults g.D.Door.broken_sources g.D.Door.broken_sinks) c.args.house c.as_mut_slice.result.now c.serve_jobs.new.jobs done) in
    let jobs : AreJobs c.args.doors.now.items c.args.passes.items c.as_mut_slice.result.now =
    subst (λ (z : List (Job g.row.D.Denot)). AreJobs c.args.doors.now.items c.args.passes.items z) (sym c.as_mut_slice.ensures.value) c.make_jobs.ensures.jobs.0 in
    whole_of c.args.house.limits c.args.house.repos c.len-workers.result (rows_of c.serve_jobs.new.jobs) c.part_jobs.new.columns c.close_all.new.closing.items c.close_all.new.counts.items (seats_at c.args.passes.items)
    (λ i. seats_kept g.D.Door.out (view_of g.D.Door.links g.D.Door.backs g.D.Door.given g.D.Door.ends g.D.Door.faults g.D.Door.broken_sources g.D.Door.broken_sinks) c.args.house c.args.passes.items c.args.doors.now.items c.as_mut_slice.result.now c.serve_jobs.new.jobs i jobs done) rows one_each full closed
