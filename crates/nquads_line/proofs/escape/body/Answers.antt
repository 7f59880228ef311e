use Rattle.std.proofs.Common.{◌≡◌, ◌∙◌, ◌++◌, ◌∷◌, [], false, ◌==◌, arith, ap}
use Rattle.std.proofs.lemmas.Grind.{common_steps}
use Rattle.nquads_line.specs.Written.{closing}
use Rattle.nquads_line.specs.Reading.{with_front, body_at}
use Rattle.nquads_line.proofs.ReadLemmas.{body_step}
use Rattle.nquads_line.proofs.BodyLemmas.{front_none}
use Rattle.nquads_line.proofs.escape.body.Goals as goal

pub loop-first-init : goal.loop-first-init
loop-first-init c =
    c.in_ok-text.ensures.value ∙ ap (λ t. with_front t (body_at c.args.form c.args.chars.now 0)) c.new.ensures
    ∙ front_none (body_at c.args.form c.args.chars.now 0)

pub loop-first-preserved : goal.loop-first-preserved
loop-first-preserved c =
    let grown : c.push.new.self ≡ c.loop-first.text ++ c.in_ok-character.character ∷ [] = grind (arith, common_steps) in
    let open' : (c.in-Some.first.now == closing c.args.form) ≡ false = grind (arith, common_steps) in
    c.in_ok-longer.ensures.value
    ∙ ap (λ t. with_front t (body_at c.args.form c.behind.result.now 0)) grown
    ∙ body_step c.args.form c.loop-first.text c.loop-first.rest.now c.in-Some.after.now c.behind.result.now c.in-Some.first.now
    c.in_ok-character.character c.in_ok-character.count c.in-Some.ensures.cases.0 open' c.in_ok-character.ensures.value c.behind.ensures
    ∙ c.loop-first.invariant
