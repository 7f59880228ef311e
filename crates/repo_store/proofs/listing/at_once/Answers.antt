use Rattle.std.proofs.Common.{◌≡◌, subst, ap, ◌∙◌, filter}
use Rattle.std.specs.Result.{IfOk}
use Rattle.rdf_term.specs.Matching.{matches}
use Rattle.repo_store.specs.Graphs.{is_in_one}
use Rattle.repo_store.proofs.ListLemmas.{kept-once}
use Rattle.repo_store.proofs.listing.at_once.Goals as goal

pub returns : goal.returns
returns c =
    subst (λ quads. IfOk c.kept.result (λ it. it ≡ quads))
    (ap (filter (is_in_one c.args.graphs.now))
    (c.in_ok-everywhere.ensures.value ∙ ap (λ p. filter (matches p) c.args.view.now.quads) c.in_ok-pattern.ensures)
    ∙ kept-once c.args.s.now c.args.p.now c.args.o.now c.args.graphs.now c.args.view.now.quads)
    c.kept.ensures
