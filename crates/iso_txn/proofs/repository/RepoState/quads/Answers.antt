use Rattle.std.proofs.Common.{List, length, ap, ◌∙◌}
use Rattle.rdf_term.specs.Statement.{Statement}
use Rattle.journal.specs.Journal.{committed_after}
use Rattle.iso_txn.specs.Repository.{Repository}
use Rattle.iso_txn.proofs.Views.{content_after}
use Rattle.iso_txn.proofs.repository.RepoState.quads.Goals as goal

pub returns : goal.returns
returns c =
    let s = c.self.inside in
    c.quads.ensures
    ∙ (ap (λ (quads : List Statement). length quads) (content_after s.limits s.journal s.state c.self.invariant.stands)
    ∙ ap (λ (r : Repository). length (committed_after r.limits r.journal)) c.self.view_is)
