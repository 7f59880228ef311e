use Rattle.std.proofs.Common.{◌∙◌, sym, ap, drop, length, arith}
use Rattle.std.specs.Str.{chars}
use Rattle.std.proofs.lemmas.Iterator.{YieldsList-from_chars}
use Rattle.std.proofs.lemmas.Iterator.Consumers.{YieldsList-turn, YieldsList-end}
use Rattle.std.proofs.lemmas.List.{length_push}
use Rattle.rdf_term.specs.Validity.{is_label_rest}
use Rattle.rdf_term.proofs.TextLemmas.{behind, label_refused, label_on, label_end, dot_else}
use Rattle.rdf_term.proofs.rules.is_label_rest.Goals as goal

pub returns-then-character-ne46 : goal.returns-then-character-ne46
returns-then-character-ne46 c =
    let t = YieldsList-turn (YieldsList-from_chars c.args.text.now c.utf8.text cc) c.loop-character.yielded _ c.loop-character.yielded_by _ _ c.in-Some.character c.in-Some.is c.next.ensures.steps in
    sym (label_refused (chars c.args.text.now) (length c.loop-character.yielded) c.in-Some.character c.loop-character.ends t
    (sym c.is_pn_chars-ends.ensures ∙ c.if-not-ends.true) c.if-character-ne46.true)
    ∙ c.loop-character.invariant

pub loop-character-preserved : goal.loop-character-preserved
loop-character-preserved c =
    let t = YieldsList-turn (YieldsList-from_chars c.args.text.now c.utf8.text cc) c.loop-character.yielded _ c.loop-character.yielded_by _ _ c.in-Some.character c.in-Some.is c.next.ensures.steps in
    let cs = chars c.args.text.now in
    let k = c.is_pn_chars-ends.result in
    ap (λ n. is_label_rest (behind k (drop n cs))) (length_push c.loop-character.yielded c.in-Some.character)
    ∙ sym (label_on cs (length c.loop-character.yielded) c.in-Some.character c.loop-character.ends k t c.is_pn_chars-ends.ensures (dot_else k c.in-Some.character c.else-not-ends.either))
    ∙ c.loop-character.invariant

pub returns : goal.returns
returns c =
    let t = YieldsList-end (YieldsList-from_chars c.args.text.now c.utf8.text cc) c.loop-character.yielded _ c.loop-character.yielded_by _ _ c.in-None.is c.next.ensures.steps in
    sym (label_end (chars c.args.text.now) (length c.loop-character.yielded) c.loop-character.ends (omega (arith, t.1)))
    ∙ c.loop-character.invariant
