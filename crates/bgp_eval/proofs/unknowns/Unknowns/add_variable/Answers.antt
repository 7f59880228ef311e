use Rattle.std.proofs.Common.{◌≡◌, ◌∙◌, ◌++◌, ◌∷◌, [], None, ap, refl, sym}
use Rattle.query_model.specs.declared.query.Slot.TheVariants.{Var, Blank}
use Rattle.query_model.specs.Unknowns.{with_unknown}
use Rattle.bgp_eval.specs.Parts.{number_in}
use Rattle.bgp_eval.proofs.NumberLemmas.{added, no_number, number_of_other, stands, variables_more}
use Rattle.bgp_eval.proofs.unknowns.Unknowns.add_variable.Goals as goal

pub returns-then-contains_key : goal.returns-then-contains_key
returns-then-contains_key c =
    sym c.self.view_is ∙ stands c.self.inside.names (Var c.args.name.now) _ c.contains_key.result c.contains_key.ensures c.if-contains_key.true (c.self.invariant.0 c.args.name.now)
    ∙ ap (λ names. with_unknown names (Var c.args.name.now)) c.self.view_is

pub invariant_of-self-in-Ok : goal.invariant_of-self-in-Ok
invariant_of-self-in-Ok c =
    let none : number_in c.self.inside.names (Var c.args.name.now) ≡ None = sym (c.self.invariant.0 c.args.name.now) ∙ no_number _ c.contains_key.result c.contains_key.ensures c.if-contains_key.false in
    let whole : c.push.new.self ≡ c.self.inside.names ++ Var c.args.name.now ∷ [] = c.in-Ok.ensures.ok ∙ ap (λ name. c.self.inside.names ++ Var name ∷ []) c.in_ok-copy.ensures in (
      (λ q. variables_more c.self.inside.names c.in_ok-key.key c.args.name.now q c.len.result _ _ c.in_ok-key.ensures c.len.ensures none (c.self.invariant.0 q) (c.in_ok-insert.ensures.updates.0 q)
          ∙ ap (λ names. number_in names (Var q)) (sym whole)),
      (λ q. c.self.invariant.1 q ∙ sym (number_of_other c.self.inside.names (Var c.args.name.now) (Blank q) refl) ∙ ap (λ names. number_in names (Blank q)) (sym whole)),
    )

pub returns-in-Ok : goal.returns-in-Ok
returns-in-Ok c =
    let none : number_in c.self.inside.names (Var c.args.name.now) ≡ None = sym (c.self.invariant.0 c.args.name.now) ∙ no_number _ c.contains_key.result c.contains_key.ensures c.if-contains_key.false in
    c.in-Ok.ensures.ok ∙ ap (λ name. c.self.inside.names ++ Var name ∷ []) c.in_ok-copy.ensures
    ∙ added c.self.inside.names (Var c.args.name.now) none
    ∙ ap (λ names. with_unknown names (Var c.args.name.now)) c.self.view_is
