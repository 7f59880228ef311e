use Rattle.std.proofs.Common.{◌≡◌, ◌-◌, ◌++◌, ℕ, List, Some, None}
use Rattle.http_frame.specs.Streams.{IsStream as IsFrameStream}
use Rattle.client_script.specs.Inputs.{IsStream}
use Rattle.rdf_client.specs.Runs.{Place, Runs, start}
use Rattle.rdf_io.specs.Sending.{Puts}
use Rattle.api_requests.specs.Spellable.{IsNamedOrNone}
use Rattle.rdf_client.specs.declared.end.ClientEnd.{ClientEnd}
use Rattle.rdf_client.proofs.run.run_script.Given as goal

-- how many lines may still be read
abbrev pub decreases-lines : goal.decreases-lines
decreases-lines g l = 1000000 - l.script.number

-- what was sent and printed so far, and a run of what is left, make a run of the whole
abbrev pub invariant-lines : goal.invariant-lines
invariant-lines g l = record {
  run : (script responses : List ℕ) → g.I.Source.left l.initial.input ≡ Some script → g.S.Source.left l.initial.source ≡ Some responses
      → (at : Place) × (sent : List ℕ) × (text : List ℕ) × IsStream l.script.held (g.I.Source.left l.input) at.script × (l.script.number ≡ at.number)
      × (at.txn ≡ l.txn) × IsFrameStream l.frames.held (g.S.Source.left l.source) at.responses
      × Puts (g.K.Sink.taken l.initial.sink) (g.K.Sink.taken l.sink) sent × Puts (g.O.Sink.taken l.initial.out) (g.O.Sink.taken l.out) text
      × ((end : ClientEnd) (sent' text' : List ℕ) → Runs l.repo l.host at end sent' text'
      → Runs l.repo l.host (start script responses) end (sent ++ sent') (text ++ text'));
  named : IsNamedOrNone l.txn;
  frames : l.frames.fault ≡ None;
  input : g.I.Source.faults l.input ≡ g.I.Source.faults l.initial.input;
  source : g.S.Source.faults l.source ≡ g.S.Source.faults l.initial.source;
  sink : g.K.Sink.faults l.sink ≡ g.K.Sink.faults l.initial.sink;
  out : g.O.Sink.faults l.out ≡ g.O.Sink.faults l.initial.out;
  sound_input : g.I.Source.sound l.initial.input → g.I.Source.sound l.input;
  sound_source : g.S.Source.sound l.initial.source → g.S.Source.sound l.source;
}
