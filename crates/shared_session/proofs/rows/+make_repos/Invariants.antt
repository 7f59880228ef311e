use Rattle.shared_session.proofs.rows.+make_repos.Given as goal

abbrev pub decreases-make_repos : goal.decreases-make_repos
decreases-make_repos l = l.count
