use Rattle.std.proofs.Common.{◌≡◌, map, take}
use Rattle.session.specs.Houses.{new_repo}
use Rattle.session.proofs.local.new_repos.Given as goal

abbrev pub invariant-loop-name : goal.invariant-loop-name
invariant-loop-name l = l.repos.items ≡ map (new_repo l.limits) (take l.name-index l.names)
