use Rattle.std.proofs.Common.{◌≡◌, ◌++◌, ◌∷◌, ◌+◌, [], ℕ, List, Some, length, vec_len, vec_capacity, refl, sym, ◌∙◌, ap, subst, arith, rules}
use Rattle.shared_repo.specs.Passes.{RepoPass}
use Rattle.shared_session.specs.declared.passes.Passes.{Passes}
use Rattle.worker_pool.specs.Columns.{AreColumns}
use Rattle.worker_pool.specs.Jobs.{AreParted, HaveEnded, rows_of}
use Rattle.worker_pool.specs.declared.door_end.DoorEnd.{DoorEnd}
use Rattle.worker_pool.specs.declared.jobs.Job.{Job}
use Rattle.worker_pool.proofs.ColumnLemmas.{columns_less, columns_room, columns_spread, of_count}
use Rattle.worker_pool.proofs.JobLemmas.{ended_parts, parted_count, parted_more, rows_count, rows_more}
use Rattle.worker_pool.proofs.columns.+part_jobs.Goals as goal

pub part_jobs-requires : goal.part_jobs-requires
part_jobs-requires g t c κs within =
    let ended = ended_parts c.args.house.now c.pop.new.self.items c.in-Some.job (subst (λ (z : List (Job g.row.D.Denot)). HaveEnded c.args.house.now z) c.in-Some.ensures.items c.requires.ended) in
    let less = columns_less (vec_len c.pop.new.self) (vec_len c.args.jobs.now) [] c.args.columns.now (omega (arith, c.in-Some.ensures.cases)) c.requires.columns.0 in
    (search rules, (within, (ended.0, ((c.requires.doors.0, omega (arith, c.requires.doors.1, c.in-Some.ensures.cases)), ((c.requires.ends.0, omega (arith, c.requires.ends.1, c.in-Some.ensures.cases)), (less, c.requires.columns.1))))))

pub unreachable-requires : goal.unreachable-requires
unreachable-requires g t c =
    let ended = ended_parts c.args.house.now c.pop.new.self.items c.in-Some.job (subst (λ (z : List (Job g.row.D.Denot)). HaveEnded c.args.house.now z) c.in-Some.ensures.items c.requires.ended) in
    let none = c.in_default-end.is in let some = ended.1.1 in search rules

pub push_reserved-requires : goal.push_reserved-requires
push_reserved-requires g t c =
    let count = parted_count c.pop.new.self.items c.part_jobs.new.doors.items c.part_jobs.new.ends.items c.part_jobs.ensures.parts in
    omega (arith, count.0, c.part_jobs.new.doors.ok.0, c.pop.new.self.ok.0, c.in-Some.ensures.cases, c.requires.doors.1, c.part_jobs.ensures.kept.0)

pub push_reserved-requires-2 : goal.push_reserved-requires-2
push_reserved-requires-2 g t c =
    let count = parted_count c.pop.new.self.items c.part_jobs.new.doors.items c.part_jobs.new.ends.items c.part_jobs.ensures.parts in
    omega (arith, count.1, c.part_jobs.new.ends.ok.0, c.pop.new.self.ok.0, c.in-Some.ensures.cases, c.requires.ends.1, c.part_jobs.ensures.kept.1)

pub spread-requires-clause-count : goal.spread-requires-clause-count
spread-requires-clause-count g t c =
    let ended = ended_parts c.args.house.now c.pop.new.self.items c.in-Some.job (subst (λ (z : List (Job g.row.D.Denot)). HaveEnded c.args.house.now z) c.in-Some.ensures.items c.requires.ended) in
    omega (arith, c.in-Some.job.passes.list.ok.0, of_count c.args.house.now.repos c.in-Some.job.passes.list.items ended.1.0, c.requires.columns.1, c.part_jobs.auto.columns)

pub spread-requires-clause-room : goal.spread-requires-clause-room
spread-requires-clause-room g t c =
    columns_room (vec_len c.args.jobs.now) (rows_of c.pop.new.self.items) c.part_jobs.new.columns
    (omega (arith, rows_count c.pop.new.self.items, c.pop.new.self.ok.0, c.in-Some.ensures.cases)) (c.part_jobs.ensures.columns (vec_len c.args.jobs.now) c.requires.columns.0)

pub returns-clause-parts : goal.returns-clause-parts
returns-clause-parts g t c =
    subst (λ (z : List (Job g.row.D.Denot)). AreParted z c.push_reserved.new.self.items c.push_reserved-2.new.self.items) (sym c.in-Some.ensures.items)
    (subst (λ z. AreParted (c.pop.new.self.items ++ c.in-Some.job ∷ []) z c.push_reserved-2.new.self.items) (sym c.push_reserved.ensures.items)
    (subst (λ (z : List DoorEnd). AreParted (c.pop.new.self.items ++ c.in-Some.job ∷ []) (c.part_jobs.new.doors.items ++ c.in-Some.job.door ∷ []) z) (sym c.push_reserved-2.ensures.items)
    (parted_more c.pop.new.self.items c.part_jobs.new.doors.items c.part_jobs.new.ends.items c.in-Some.job c.in-Some.job.door c.in-Some-end.end c.part_jobs.ensures.parts refl c.in-Some-end.is)))

pub returns-clause-columns : goal.returns-clause-columns
returns-clause-columns g t c = λ room h.
    let rows : rows_of c.args.jobs.now.items ≡ rows_of c.pop.new.self.items ++ c.in-Some.job.passes.list.items ∷ [] =
    ap (λ (z : List (Job g.row.D.Denot)). rows_of z) c.in-Some.ensures.items ∙ rows_more c.pop.new.self.items c.in-Some.job in
    subst (λ (z : List (List RepoPass)). AreColumns room z c.spread.new.into) (sym rows)
    (columns_spread room (rows_of c.pop.new.self.items) c.part_jobs.new.columns c.spread.new.into c.in-Some.job.passes.list.items (c.part_jobs.ensures.columns room h) c.spread.ensures)
