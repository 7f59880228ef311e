use Rattle.std.proofs.Common.{◌≡◌, List, ℕ, true, false, length, take, drop, sym, ap, ◌∙◌, subst, arith}
use Rattle.http_frame.specs.Search.{has_mark, line_behind}
use Rattle.http_frame.specs.declared.lines.Line.TheVariants.{Blank}
use Rattle.http_frame.proofs.LineLemmas.{scanned_mark, scanned_none, scanned_behind}
use Rattle.http_frame.proofs.StreamLemmas.{kept_stream, fills_none, fills_front, fills_within}
use Rattle.http_frame.proofs.search.await_mark.Goals as goal

pub returns-in-None-clause-wait : goal.returns-in-None-clause-wait
returns-in-None-clause-wait g c =
    scanned_mark c.args.mark c.wait.buffer c.wait.seen c.wait.line c.wait.invariant.behind
    (subst (λ (x : List ℕ). has_mark c.args.mark c.wait.line (drop c.wait.seen x) ≡ true) c.as_slice.ensures.value c.in-None.ensures)

pub returns-then-seen-ge-MOST_HEAD-clause-wait : goal.returns-then-seen-ge-MOST_HEAD-clause-wait
returns-then-seen-ge-MOST_HEAD-clause-wait g c = (
  scanned_none c.args.mark c.wait.buffer c.wait.seen c.wait.line c.wait.invariant.none c.wait.invariant.behind
      (subst (λ (x : List ℕ). has_mark c.args.mark c.wait.line (drop c.wait.seen x) ≡ false) c.as_slice.ensures.value c.in-Some.ensures.0),
  omega (arith, ap length c.as_slice-seen.ensures.value),
)

pub returns-then-count-eq0-clause-wait : goal.returns-then-count-eq0-clause-wait
returns-then-count-eq0-clause-wait g c =
    let none = scanned_none c.args.mark c.wait.buffer c.wait.seen c.wait.line c.wait.invariant.none c.wait.invariant.behind
    (subst (λ (x : List ℕ). has_mark c.args.mark c.wait.line (drop c.wait.seen x) ≡ false) c.as_slice.ensures.value c.in-Some.ensures.0) in
    let fills = c.in-Ok.ensures.ok in
    let same = fills_none c.wait.buffer c.fill.new.self (g.S.Source.left c.wait.source) (g.S.Source.left c.fill.new.source) c.in-Ok.count fills c.if-count-eq0.true in
    (ap (has_mark c.args.mark Blank) same ∙ none, fills.end c.if-count-eq0.true)

pub wait-preserved : goal.wait-preserved
wait-preserved g c =
    let none = scanned_none c.args.mark c.wait.buffer c.wait.seen c.wait.line c.wait.invariant.none c.wait.invariant.behind
    (subst (λ (x : List ℕ). has_mark c.args.mark c.wait.line (drop c.wait.seen x) ≡ false) c.as_slice.ensures.value c.in-Some.ensures.0) in
    let behind = c.in-Some.ensures.1 ∙ ap (λ (x : List ℕ). line_behind c.wait.line (drop c.wait.seen x)) c.as_slice.ensures.value
    ∙ scanned_behind c.wait.buffer c.wait.seen c.wait.line c.wait.invariant.behind in
    let fills = c.in-Ok.ensures.ok in
    let size = ap length c.as_slice-seen.ensures.value in
    let front : take (length c.as_slice-seen.result.now) c.fill.new.self ≡ c.wait.buffer =
    ap (λ (n : ℕ). take n c.fill.new.self) size
    ∙ fills_front c.wait.buffer c.fill.new.self (g.S.Source.left c.wait.source) (g.S.Source.left c.fill.new.source) c.in-Ok.count fills in
    let grown = fills.grown in
    record {
      stream = λ b s. fills.same b (c.wait.invariant.stream b s);
      within = fills_within c.wait.buffer c.fill.new.self (g.S.Source.left c.wait.source) (g.S.Source.left c.fill.new.source) c.in-Ok.count (length c.as_slice-seen.result.now) fills size;
      none = ap (has_mark c.args.mark Blank) front ∙ none;
      behind = behind ∙ sym (ap (line_behind Blank) front);
      faults = c.in-Ok.ensures.cause.kept ∙ c.wait.invariant.faults;
      sound = λ h. (c.in-Ok.ensures.sound (c.wait.invariant.sound h)).1;
    }

pub returns-in-Err-clause-stream : goal.returns-in-Err-clause-stream
returns-in-Err-clause-stream g c = λ b s.
    kept_stream c.wait.buffer c.fill.new.self (g.S.Source.left c.wait.source) (g.S.Source.left c.fill.new.source)
    c.in-Err.ensures.err c.in-Err.ensures.err_source b (c.wait.invariant.stream b s)

pub returns-in-Err-clause-none : goal.returns-in-Err-clause-none
returns-in-Err-clause-none g c =
    ap (has_mark c.args.mark Blank) c.in-Err.ensures.err
    ∙ scanned_none c.args.mark c.wait.buffer c.wait.seen c.wait.line c.wait.invariant.none c.wait.invariant.behind
    (subst (λ (x : List ℕ). has_mark c.args.mark c.wait.line (drop c.wait.seen x) ≡ false) c.as_slice.ensures.value c.in-Some.ensures.0)
