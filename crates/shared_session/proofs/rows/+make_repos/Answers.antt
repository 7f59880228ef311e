use Rattle.std.proofs.Common.{◌≡◌, ◌++◌, ◌∷◌, [], ℕ, List, vec_len, sym, subst, arith}
use Rattle.shared_repo.specs.declared.repo.Repo.{Repo}
use Rattle.shared_session.specs.Houses.{HaveLimits, HaveSeats}
use Rattle.shared_session.specs.Rows.{AreRows}
use Rattle.shared_session.proofs.RowLemmas.{limits_more, rows_more, rows_room, seats_more}
use Rattle.shared_session.proofs.rows.+make_repos.Goals as goal

pub spread-requires-clause-room : goal.spread-requires-clause-room
spread-requires-clause-room t c =
    rows_room c.in_ok-repos.repos.items 0 c.args.room c.make_repos.new.rows
    (omega (arith, c.in_ok-repos.repos.ok.0, c.in_ok-repos.ensures.count, c.if-count-eq0.false, c.requires.room)) c.in_ok-repos.ensures.rows

pub returns-clause-rows : goal.returns-clause-rows
returns-clause-rows t c =
    subst (λ (z : List Repo). AreRows z 0 c.args.room c.spread.new.into) (sym c.in_ok-push.ensures.items)
    (rows_more c.in_ok-repos.repos.items 0 c.args.room c.in_ok-repo.repo c.make_repos.new.rows c.spread.new.into c.in_ok-repo.column.items c.in_ok-repos.ensures.rows
    c.in_ok-repo.ensures.passes c.spread.ensures)

pub returns-clause-limits : goal.returns-clause-limits
returns-clause-limits t c =
    subst (λ (z : List Repo). HaveLimits c.args.limits z) (sym c.in_ok-push.ensures.items)
    (limits_more c.args.limits c.in_ok-repos.repos.items c.in_ok-repo.repo c.in_ok-repos.ensures.limits c.in_ok-repo.ensures.limits)

pub returns-clause-seats : goal.returns-clause-seats
returns-clause-seats t c =
    subst (λ (z : List Repo). HaveSeats c.args.seats z) (sym c.in_ok-push.ensures.items)
    (seats_more c.args.seats c.in_ok-repos.repos.items c.in_ok-repo.repo c.in_ok-repos.ensures.seats c.in_ok-repo.ensures.seats)

pub returns-clause-count : goal.returns-clause-count
returns-clause-count t c = omega (arith, c.in_ok-push.ensures.len, c.in_ok-repos.ensures.count, c.if-count-eq0.false)
