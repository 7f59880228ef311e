use Rattle.std.proofs.Common.{◌≡◌, ◌∙◌, sym, ap, [], ◌∷◌, ◌++◌}
use Rattle.std.proofs.lemmas.Result.{IfOk-weaker}
use Rattle.query_model.specs.declared.query.Slot.{Slot}
use Rattle.query_model.specs.declared.query.TriplePattern.{TriplePattern}
use Rattle.query_grammar.specs.Built.{change_last, object_tagged}
use Rattle.query_grammar.proofs.Lasts.{last_changed}
use Rattle.query_grammar.proofs.built.tag_last.Goals as goal

pub returns-in-Some : goal.returns-in-Some
returns-in-Some c =
    let x : TriplePattern = c.in-Some.field-0 in
    let y : TriplePattern = record x { o = c.with_tag-o.result } in
    let same : object_tagged c.args.tag x ≡ y = ap (λ (o : Slot). record x { o = o }) (sym c.with_tag-o.ensures) in
    let all : change_last (object_tagged c.args.tag) c.args.patterns ≡ c.pop.new.self.items ++ y ∷ [] =
    last_changed (object_tagged c.args.tag) c.args.patterns c.pop.new.self.items x y (sym c.into_vec-items.ensures ∙ c.in-Some.ensures.items) same in
    IfOk-weaker c.with_last.result (λ it. it ≡ c.pop.new.self.items ++ y ∷ []) (λ it. it ≡ change_last (object_tagged c.args.tag) c.args.patterns) (λ it e. e ∙ sym all) c.with_last.ensures
