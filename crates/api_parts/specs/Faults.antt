-- Which parameter a fault names.
use Rattle.api_parts.specs.declared.selection.Parameter.{Parameter}
use Rattle.api_parts.specs.declared.selection.ParameterFault.{ParameterFault}
use Rattle.api_parts.specs.declared.selection.ParameterFault.TheVariants.{Bad, Memory}

-- this holds of the bad parameter, unless memory ran out
abbrev pub OnBad : ParameterFault → (Parameter → Type 0) → Type 0
OnBad (Bad parameter) P = P parameter
OnBad Memory P = Unit {0}
