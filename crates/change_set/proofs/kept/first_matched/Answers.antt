use Rattle.std.proofs.Common.{◌≡◌, true, false, cond, Some, find, List, ◌∷◌, sym, ap, ◌∙◌}
use Rattle.std.specs.List.{list_any}
use Rattle.std.specs.Map.{keys_of}
use Rattle.rdf_term.specs.Statement.{Statement}
use Rattle.rdf_term.specs.Matching.{matches}
use Rattle.change_set.specs.declared.effect.Mark.{Mark}
use Rattle.change_set.proofs.kept.first_matched.Goals as goal

pub returns-then-is_matched : goal.returns-then-is_matched
returns-then-is_matched c =
    let test = λ (q : Statement). list_any (λ p. matches p q) c.args.patterns.now in
    let entry = c.in-Some.entry.now in
    let behind = c.in-Some.behind.now in
    let matched : test entry.0 ≡ true = sym (c.is_matched.ensures ∙ ap test c.quad.ensures) ∙ c.if-is_matched.true in
    ap Some c.quad-then-is_matched.ensures
    ∙ sym (ap (λ b. cond b (Some entry.0) (find test (keys_of behind))) matched)
    ∙ sym (ap (λ (es : List (Statement × Mark)). find test (keys_of es)) c.in-Some.ensures.cases.0)
    ∙ c.loop-entry.invariant

pub loop-entry-preserved : goal.loop-entry-preserved
loop-entry-preserved c =
    let test = λ (q : Statement). list_any (λ p. matches p q) c.args.patterns.now in
    let entry = c.in-Some.entry.now in
    let behind = c.in-Some.behind.now in
    let unmatched : test entry.0 ≡ false = sym (c.is_matched.ensures ∙ ap test c.quad.ensures) ∙ c.if-is_matched.false in
    sym (ap (λ b. cond b (Some entry.0) (find test (keys_of behind))) unmatched)
    ∙ sym (ap (λ (es : List (Statement × Mark)). find test (keys_of es)) c.in-Some.ensures.cases.0)
    ∙ c.loop-entry.invariant
