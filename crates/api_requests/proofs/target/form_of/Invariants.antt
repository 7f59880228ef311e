use Rattle.std.proofs.Common.{◌≡◌, [], length, string_bytes}
use Rattle.form_urlencoded.specs.Form.{extend_pairs}
use Rattle.api_requests.proofs.target.form_of.Given as goal

abbrev pub invariant-loop-pair : goal.invariant-loop-pair
invariant-loop-pair l = extend_pairs [] l.pairs ≡ extend_pairs (string_bytes l.form) l.left

abbrev pub decreases-loop-pair : goal.decreases-loop-pair
decreases-loop-pair l = length l.left
