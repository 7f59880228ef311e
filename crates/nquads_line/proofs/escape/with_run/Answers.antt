use Rattle.std.proofs.Common.{◌≡◌, ◌∙◌, ◌-◌, refl, sym, ap, length, take, drop}
use Rattle.std.proofs.lemmas.Grind.{common_steps}
use Rattle.std.proofs.Common.{arith}
use Rattle.nquads_line.specs.Reading.{with_front, body_at}
use Rattle.nquads_line.proofs.ReadLemmas.{front_front}
use Rattle.nquads_line.proofs.BodyLemmas.{raw_front}
use Rattle.nquads_line.proofs.escape.with_run.Goals as goal

pub returns-clause-value : goal.returns-clause-value
returns-clause-value c =
    let cs = c.args.chars.now in
    let n = c.raw_len-raw.result in
    let behind = take (length cs - n) (drop n cs) in
    let all : behind ≡ drop n cs = grind (arith, common_steps) in
    ap (λ t. with_front t (body_at c.args.form behind 0)) c.in_ok-longer.ensures
    ∙ sym (front_front c.args.text (take n cs) (body_at c.args.form behind 0))
    ∙ ap (with_front c.args.text) (raw_front c.args.form cs (take n cs) behind n c.raw_len-raw.ensures.value refl all)
