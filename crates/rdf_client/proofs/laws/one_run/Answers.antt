use Rattle.rdf_client.specs.Runs.{start}
use Rattle.rdf_client.proofs.OneLemmas.{one_run}
use Rattle.rdf_client.proofs.laws.one_run.Goals as goal

pub returns : goal.returns
returns c = λ repo host script responses end other sent text sent' text'.
    one_run (record { commands = c.one_command.ensures; frames = c.response_frames_are_determined.ensures; readings = c.one_reading.ensures }) repo host (start script responses) end other
    sent text sent' text'
