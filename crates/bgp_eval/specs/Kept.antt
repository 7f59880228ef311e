-- What a search keeps of a solution.
use Rattle.std.specs.Prelude.{List, Option}
use Rattle.rdf_term.specs.declared.term.Term.{Term}
use Rattle.bgp_eval.specs.declared.search.Kept.{Kept}
use Rattle.bgp_eval.specs.declared.search.Kept.TheVariants.{Whole, Columns}
use Rattle.bgp_eval.specs.Ways.{columns}

abbrev pub kept : Kept → List (Option Term) → List (Option Term)
kept Whole row = row
kept (Columns parts) row = columns parts.items row
