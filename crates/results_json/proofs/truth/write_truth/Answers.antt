use Rattle.std.proofs.Common.{◌≡◌, [], ◌++◌, ap, ◌∙◌}
use Rattle.json.specs.Print.{print}
use Rattle.results_json.specs.Tables.{truth_value}
use Rattle.results_json.proofs.TokenLemmas.{four_written, three_more, text_written}
use Rattle.results_json.proofs.truth.write_truth.Goals as goal

pub returns : goal.returns
returns c =
    let empty : c.end_object-2.new.self.before ≡ [] =
    c.end_object-2.ensures.room.0 ∙ c.end_object.ensures.room.0 ∙ c.begin_object-2.ensures.room.0 ∙ c.key-2.ensures.room.0 ∙ c.boolean.ensures.room.0 ∙ c.key.ensures.room.0
    ∙ c.begin_object.ensures.room.0 ∙ c.new-out.ensures.before ∙ c.new.ensures.items in
    let front = four_written c.new-out.result.tokens c.begin_object.new.self.tokens c.key.new.self.tokens c.boolean.new.self.tokens c.key-2.new.self.tokens _ _ _ _
    c.in_ok-begin_object.ensures.ok c.in_ok-key.ensures.ok c.in_ok-boolean.ensures.ok c.in_ok-key-2.ensures.ok in
    c.from_vec.ensures.items ∙ c.into_inner.ensures.items ∙ ap (λ b. b ++ print c.end_object-2.new.self.tokens) empty
    ∙ text_written (truth_value c.args.value) c.end_object-2.new.self.tokens
    (three_more c.new-out.result.tokens c.key-2.new.self.tokens c.begin_object-2.new.self.tokens c.end_object.new.self.tokens c.end_object-2.new.self.tokens _ _ _ _ _ _ _
    c.new-out.ensures.tokens front c.in_ok-begin_object-2.ensures.ok c.in_ok-end_object.ensures.ok c.in_ok-end_object-2.ensures.ok)
