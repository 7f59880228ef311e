use Rattle.std.proofs.Common.{◌≡◌, List, ℕ}
use Rattle.http_frame.specs.Places.{bytes_left, IsPlace}
use Rattle.http_frame.specs.Streams.{IsStream}
use Rattle.http_frame.proofs.TurnLemmas.{Reads}
use Rattle.http_frame.proofs.chunked_body.take_chunked.Given as goal

abbrev pub decreases-read : goal.decreases-read
decreases-read g l = bytes_left l.place l.room

abbrev pub invariant-read : goal.invariant-read
invariant-read g l = record {
  stream : (b : List ℕ) → IsStream l.initial.buffer (g.S.Source.left l.initial.source) b
      → Reads l.fn.most b l.buffer (g.S.Source.left l.source) l.body.items l.place l.room;
  place : IsPlace l.place;
  faults : g.S.Source.faults l.source ≡ g.S.Source.faults l.initial.source;
  sound : g.S.Source.sound l.initial.source → g.S.Source.sound l.source;
}
