use Rattle.std.proofs.Common.{◌≡◌, ◌∙◌, ap, sym, Some, None, rules, true, false}
use Rattle.std.specs.Str.{chars}
use Rattle.std.proofs.lemmas.Result.{err_from_is_err_and}
use Rattle.nquads_line.specs.Grammar.{IsLine}
use Rattle.nquads_line.specs.declared.fault.LineFault.TheVariants.{Bad}
use Rattle.nquads_line.proofs.Steps.{fails_bad}
use Rattle.nquads_line.proofs.LineLemmas.{line_read, line_refused}
use Rattle.nquads_line.proofs.ValidLemmas.{line_valid}
use Rattle.nquads_line.proofs.line.LineScanner.read.Goals as goal

pub returns-in_err-line_of-clause-bad : goal.returns-in_err-line_of-clause-bad
returns-in_err-line_of-clause-bad c =
    λ h q line.
    let p = err_from_is_err_and c.from_residual-in_err-line_of.result c.from_residual-in_err-line_of.ensures.1 in
    let got : c.decode.new.buffer.items ≡ chars c.args.line.now = search rules in
    let bad : c.in_err-line_of.field-0.0 ≡ Bad = (let e1 = p.1 in let e2 = p.2 in let e3 = h in cc) in
    line_refused c.args.kind c.args.line.now c.as_slice.result.now c.in-Ok.ensures.cases.1 (c.as_slice.ensures.value ∙ got)
    (fails_bad _ _ bad c.in_err-line_of.ensures) q line

pub returns-in-None-clause-ok : goal.returns-in-None-clause-ok
returns-in-None-clause-ok c =
    let got : c.decode.new.buffer.items ≡ chars c.args.line.now = search rules in (
      line_read c.args.kind c.args.line.now c.as_slice.result.now None c.in-Ok.ensures.cases.1 (c.as_slice.ensures.value ∙ got)
          (c.in_ok-line_of.ensures ∙ ap Some c.in-None.is),
      tt,
      tt,
    )

pub returns-then-is_short_quad-clause-ok : goal.returns-then-is_short_quad-clause-ok
returns-then-is_short_quad-clause-ok c =
    let got : c.decode.new.buffer.items ≡ chars c.args.line.now = search rules in
    let read : IsLine c.args.kind c.args.line.now (Some c.in-Some.quad) =
    line_read c.args.kind c.args.line.now c.as_slice.result.now (Some c.in-Some.quad) c.in-Ok.ensures.cases.1 (c.as_slice.ensures.value ∙ got)
    (c.in_ok-line_of.ensures ∙ ap Some c.in-Some.is) in
    let short = sym c.is_short_quad.ensures ∙ c.if-is_short_quad.true in
    (read, short, line_valid c.args.kind c.args.line.now (Some c.in-Some.quad) read short)

pub returns-else-is_short_quad-clause-long : goal.returns-else-is_short_quad-clause-long
returns-else-is_short_quad-clause-long c =
    λ _.
    let got : c.decode.new.buffer.items ≡ chars c.args.line.now = search rules in
    let read : IsLine c.args.kind c.args.line.now (Some c.in-Some.quad) =
    line_read c.args.kind c.args.line.now c.as_slice.result.now (Some c.in-Some.quad) c.in-Ok.ensures.cases.1 (c.as_slice.ensures.value ∙ got)
    (c.in_ok-line_of.ensures ∙ ap Some c.in-Some.is) in
    let long = sym c.is_short_quad.ensures ∙ c.if-is_short_quad.false in
    (Some c.in-Some.quad, read, λ short. (let f : true ≡ false = sym short ∙ long in cc))
