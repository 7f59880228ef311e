use Rattle.std.proofs.Common.{◌≡◌, ◌∙◌, ◌+◌, ◌∷◌, sym, ap, drop, get_or, arith, false}
use Rattle.std.proofs.lemmas.Grind.{common_steps}
use Rattle.rdf_term.specs.Classes.{pn_chars}
use Rattle.nquads_line.specs.Reading.{label_len}
use Rattle.nquads_line.proofs.LabelLemmas.{counted, counted_dot}
use Rattle.nquads_line.proofs.label.label_len.Goals as goal

pub loop-i-preserved : goal.loop-i-preserved
loop-i-preserved c =
    let c1 = get_or c.args.chars.now c.loop-i.i 0 in
    let split : drop c.loop-i.i c.args.chars.now ≡ c1 ∷ drop (c.loop-i.i + 1) c.args.chars.now = grind (arith, common_steps) in
    let out : pn_chars c1 ≡ false = grind (arith, common_steps) in
    let dot : c1 ≡ 46 = grind (arith, common_steps) in
    record {
      value = sym (counted_dot c.loop-i.count c.loop-i.i c1 (drop (c.loop-i.i + 1) c.args.chars.now) out dot)
          ∙ ap (λ l. counted c.loop-i.count c.loop-i.i (label_len l)) (sym split) ∙ c.loop-i.invariant.value;
      within = omega arith;
    }
