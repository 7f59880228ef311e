use Rattle.http_frame.proofs.FrameLemmas.{head_is_frame, body_is_frame}
use Rattle.http_frame.proofs.laws.heads_and_bodies_are_frames.Goals as goal

pub returns-clause-head : goal.returns-clause-head
returns-clause-head c = λ b held left. (λ n. n, λ fault. head_is_frame fault b held left)

pub returns-clause-body : goal.returns-clause-body
returns-clause-body c = λ b held held' left left' head answer. body_is_frame answer b held held' left left' head
