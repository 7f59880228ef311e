use Rattle.std.proofs.Common.{◌≡◌, ◌-◌, ◌≤◌, List, ℕ}
use Rattle.http_frame.specs.Responses.{PassesOver}
use Rattle.http_frame.specs.Streams.{IsStream}
use Rattle.http_frame.proofs.response.cut_final_head.Given as goal

abbrev pub decreases-pass : goal.decreases-pass
decreases-pass g l = 16 - l.passed

abbrev pub invariant-pass : goal.invariant-pass
invariant-pass g l = record {
  stream : (b : List ℕ) → IsStream l.initial.buffer (g.S.Source.left l.initial.source) b
      → (mid : List ℕ) × PassesOver l.passed b mid × IsStream l.buffer (g.S.Source.left l.source) mid;
  few : l.passed ≤ 16;
  faults : g.S.Source.faults l.source ≡ g.S.Source.faults l.initial.source;
  sound : g.S.Source.sound l.initial.source → g.S.Source.sound l.source;
}
