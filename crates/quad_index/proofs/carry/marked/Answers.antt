use Rattle.std.proofs.Common.{◌∙◌, ◌++◌, [], ◌∷◌, List, cond, get_or, false, ap, sym}
use Rattle.rdf_term.specs.declared.term.Term.{Term}
use Rattle.quad_index.proofs.CarryLemmas.{marked_more}
use Rattle.quad_index.proofs.carry.marked.Goals as goal

pub loop-rank-preserved : goal.loop-rank-preserved
loop-rank-preserved c =
    c.in_ok-push_marked.ensures
    ∙ ap (λ (terms : List Term). terms ++ cond (get_or c.args.marks.now c.loop-rank.rank false) (c.index-terms-rank.result ∷ []) []) c.loop-rank.invariant
    ∙ sym (marked_more c.args.terms.now c.args.marks.now c.loop-rank.rank c.index-terms-rank.result c.requires c.loop-rank-test.true c.index-terms-rank.is)
