use Rattle.std.proofs.Common.{◌∙◌, ◌+◌, Vec, Global, List, take, sym, subst, ap, arith}
use Rattle.std.specs.List.Sorted.{IsStrictlySortedBy}
use Rattle.std.proofs.lemmas.List.{take_all}
use Rattle.rdf_term.specs.Statement.{Statement}
use Rattle.rdf_term.proofs.SetLemmas.{sorted_set-sorted}
use Rattle.quad_index.specs.declared.code.Code.{Code}
use Rattle.quad_index.specs.Codes.{code_cmp, code_total}
use Rattle.quad_index.specs.Carry.{AreCodesOf}
use Rattle.quad_index.proofs.CodeLemmas.{code_exact}
use Rattle.quad_index.proofs.CarryLemmas.{codes-sorted_set, known_more, unknown_more}
use Rattle.quad_index.proofs.carry.known_codes.Goals.{in-Some+in_ok-push, in_default}
use Rattle.quad_index.proofs.carry.known_codes.Goals as goal

pub loop-quad-preserved : goal.loop-quad-preserved
loop-quad-preserved c = elim c.match-code_of.branch [
  | in-Some+in_ok-push w ↦ subst (AreCodesOf c.args.terms.now (take (c.loop-quad.quad-index + 1) c.args.quads.now)) (sym (ap (λ (codes : Vec Code Global). codes.items) w.codes-is ∙ w.in_ok-push.ensures.items))
      (known_more c.args.terms.now c.args.quads.now c.loop-quad.quad-index c.quad-item.result c.loop-quad.codes.items w.in-Some.code c.terms.ensures.ascending c.loop-quad-test.true c.quad-item.is
      w.in-Some.ensures.some.0 w.in-Some.ensures.some.1 c.loop-quad.invariant)
  | in_default w ↦ subst (AreCodesOf c.args.terms.now (take (c.loop-quad.quad-index + 1) c.args.quads.now)) (sym (ap (λ (codes : Vec Code Global). codes.items) w.codes-is))
      (unknown_more c.args.terms.now c.args.quads.now c.loop-quad.quad-index c.quad-item.result c.loop-quad.codes.items c.loop-quad-test.true c.quad-item.is w.in_default.ensures.none c.loop-quad.invariant)
]

pub returns-clause-codes : goal.returns-clause-codes
returns-clause-codes c =
    let found = subst (λ (quads : List Statement). AreCodesOf c.args.terms.now quads c.loop-quad.codes.items) (take_all c.loop-quad.quad-index c.args.quads.now (omega arith)) c.loop-quad.invariant in
    subst (AreCodesOf c.args.terms.now c.args.quads.now) (sym c.set_of.ensures) (codes-sorted_set c.args.terms.now c.args.quads.now c.loop-quad.codes.items found)

pub returns-clause-ascending : goal.returns-clause-ascending
returns-clause-ascending c = subst (IsStrictlySortedBy code_cmp) (sym c.set_of.ensures) (sorted_set-sorted code_total code_exact c.loop-quad.codes.items)
