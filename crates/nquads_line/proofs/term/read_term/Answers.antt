use Rattle.std.proofs.Common.{◌≡◌, ◌∙◌, sym, rules, true, false}
use Rattle.std.specs.Str.{chars}
use Rattle.nquads_line.specs.Grammar.{IsTerm}
use Rattle.nquads_line.proofs.Steps.{fails_bad}
use Rattle.nquads_line.proofs.LineLemmas.{term_read, term_refused}
use Rattle.nquads_line.proofs.ValidLemmas.{whole_term_valid}
use Rattle.nquads_line.proofs.term.read_term.Goals as goal

pub returns-then-is_short_term-clause-ok : goal.returns-then-is_short_term-clause-ok
returns-then-is_short_term-clause-ok c =
    let got : c.decode.new.buffer.items ≡ chars c.args.text.now = search rules in
    let read : IsTerm c.args.text.now c.in-Ok-whole_term.term =
    term_read c.args.text.now c.as_slice.result.now c.in-Ok-whole_term.term c.in-Ok.ensures.cases.1 (c.as_slice.ensures.value ∙ got) c.in-Ok-whole_term.ensures in
    let short = sym c.is_short_term.ensures ∙ c.if-is_short_term.true in
    (read, short, whole_term_valid c.args.text.now c.in-Ok-whole_term.term read short)

pub returns-in-Ok-whole_term-clause-long : goal.returns-in-Ok-whole_term-clause-long
returns-in-Ok-whole_term-clause-long c =
    λ _.
    let got : c.decode.new.buffer.items ≡ chars c.args.text.now = search rules in
    let read : IsTerm c.args.text.now c.in-Ok-whole_term.term =
    term_read c.args.text.now c.as_slice.result.now c.in-Ok-whole_term.term c.in-Ok.ensures.cases.1 (c.as_slice.ensures.value ∙ got) c.in-Ok-whole_term.ensures in
    let long = sym c.is_short_term.ensures ∙ c.if-is_short_term.false in
    (c.in-Ok-whole_term.term, read, λ short. (let f : true ≡ false = sym short ∙ long in cc))

pub returns-in-Err-Bad-clause-bad : goal.returns-in-Err-Bad-clause-bad
returns-in-Err-Bad-clause-bad c =
    λ _ t h.
    let got : c.decode.new.buffer.items ≡ chars c.args.text.now = search rules in
    term_refused c.args.text.now c.as_slice.result.now c.in-Ok.ensures.cases.1 (c.as_slice.ensures.value ∙ got)
    (fails_bad _ _ (let e1 = c.in-Err-Bad.is in let e2 = c.in-Err-Bad.field-0-is in cc) c.in-Err-Bad.ensures) t h
