-- What a call answers: what is found, or that there are too many rows; or want of memory, at any time.
use Rattle.std.specs.Prelude.{◌≡◌, Option, Some, None}
use Rattle.std.specs.declared.result.Result.{Result}
use Rattle.std.specs.declared.result.Result.TheVariants.{Ok, Err}
use Rattle.query_model.specs.declared.found.Found.{Found}
use Rattle.bgp_eval.specs.declared.fault.EvalFault.{EvalFault}
use Rattle.bgp_eval.specs.declared.fault.EvalFault.TheVariants as fault

abbrev pub Answers : Result Found EvalFault → Option Found → Type 0
Answers (Ok it) found = found ≡ Some it
Answers (Err fault.TooManyRows) found = found ≡ None
Answers (Err fault.Memory) found = Unit {0}
