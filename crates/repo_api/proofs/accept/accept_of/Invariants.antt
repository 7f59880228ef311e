use Rattle.std.proofs.Common.{◌≡◌, None, fold, take}
use Rattle.repo_api.specs.Joins.{joined_field}
use Rattle.repo_api.proofs.accept.accept_of.Given as goal

abbrev pub invariant-loop-field : goal.invariant-loop-field
invariant-loop-field l = l.joined ≡ fold joined_field None (take l.field-index l.fields)
