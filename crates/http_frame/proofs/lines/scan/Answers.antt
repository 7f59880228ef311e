use Rattle.std.proofs.Common.{◌∙◌, get_or, sym, ap}
use Rattle.http_frame.specs.Search.{is_mark, line_after}
use Rattle.http_frame.specs.declared.lines.Line.{Line}
use Rattle.http_frame.proofs.LineLemmas.{mark_at, no_mark_at, behind_at}
use Rattle.http_frame.proofs.lines.scan.Goals as goal

pub returns-then-is_mark : goal.returns-then-is_mark
returns-then-is_mark c =
    let xs = c.args.bytes.now in
    let i = c.loop-byte.byte-index in
    mark_at c.args.mark c.args.line xs i c.loop-byte-test.true
    (ap (λ (z : Line). is_mark c.args.mark z (get_or xs i 0)) (sym c.loop-byte.invariant.behind) ∙ sym c.is_mark.ensures ∙ c.if-is_mark.true)

pub loop-byte-preserved : goal.loop-byte-preserved
loop-byte-preserved c =
    let xs = c.args.bytes.now in
    let i = c.loop-byte.byte-index in
    record {
      none = no_mark_at c.args.mark c.args.line xs i c.loop-byte-test.true c.loop-byte.invariant.none
          (ap (λ (z : Line). is_mark c.args.mark z (get_or xs i 0)) (sym c.loop-byte.invariant.behind) ∙ sym c.is_mark.ensures ∙ c.if-is_mark.false);
      behind = c.line_after-behind.ensures ∙ ap (λ (z : Line). line_after z (get_or xs i 0)) c.loop-byte.invariant.behind
          ∙ sym (behind_at c.args.line xs i c.loop-byte-test.true);
    }
