use Rattle.http_frame.proofs.TurnLemmas.{byte_turn}
use Rattle.http_frame.proofs.chunked_body.turn.Goals as goal

pub returns-in_default : goal.returns-in_default
returns-in_default c =
    let step = c.take_byte.ensures.step in
    byte_turn c.args.place c.args.room step.0 c.args.buffer.now c.take_byte.new.buffer c.args.body.now.items c.take_byte.result c.in_default.not-Data
    step.1 step.2 c.take_byte.ensures.reached
