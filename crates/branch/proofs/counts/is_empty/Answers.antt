use Rattle.std.proofs.Common.{◌≡◌, ◌-◌, ◌^◌, List, length, filter, map, min, sym, ap, ◌∙◌, arith}
use Rattle.std.proofs.lemmas.Bool.{eqb-true, eq-eqb}
use Rattle.std.specs.Arc.{arc_value}
use Rattle.rdf_term.specs.Statement.{Statement}
use Rattle.rdf_term.specs.Matching.{matches}
use Rattle.rdf_term.specs.declared.pattern.Pattern.{Pattern}
use Rattle.branch.specs.Layers.{layered}
use Rattle.branch.proofs.CountLemmas.{none_there, none_counted}
use Rattle.branch.proofs.LayerLemmas.{everything}
use Rattle.branch.proofs.counts.is_empty.Goals as goal

abbrev quads : goal.After-drop-everything → List Statement
quads c = layered c.args.base.now.quads (map arc_value c.args.layers.now)

counted : (c : goal.After-drop-everything) → c.count.result ≡ min (length (filter (matches everything) (quads c))) (2 ^ 64 - 1)
counted c = c.count.ensures ∙ ap (λ (p : Pattern). min (length (filter (matches p) (quads c))) (2 ^ 64 - 1)) c.everything.ensures

pub returns : goal.returns
returns c = (
  λ e. none_there (quads c) (2 ^ 64 - 1) (omega arith) (sym (counted c) ∙ eqb-true c.count.result 0 e),
  λ e. eq-eqb c.count.result 0 (counted c ∙ none_counted (quads c) (2 ^ 64 - 1) e),
)
