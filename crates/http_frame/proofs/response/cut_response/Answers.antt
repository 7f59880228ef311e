use Rattle.http_frame.proofs.ResponseLemmas.{head_is_response, body_is_response, refusal_is_response}
use Rattle.http_frame.proofs.response.cut_response.Goals as goal

pub returns-in-Ok-clause-response : goal.returns-in-Ok-clause-response
returns-in-Ok-clause-response g c = λ b s.
    body_is_response c.in-Ok.response b c.cut_final_head.new.buffer c.response_behind.new.buffer (g.S.Source.left c.cut_final_head.new.source)
    (g.S.Source.left c.response_behind.new.source) c.in-Ok-Some.head ((rw c.in-Ok-Some.field-0-is at c.in-Ok-Some.ensures.head) b s) c.in-Ok.ensures.body

pub returns-in-Err-response_behind-clause-response :
    goal.returns-in-Err-response_behind-clause-response
returns-in-Err-response_behind-clause-response g c = λ b s.
    refusal_is_response c.in-Err-response_behind.fault b c.cut_final_head.new.buffer c.response_behind.new.buffer (g.S.Source.left c.cut_final_head.new.source)
    (g.S.Source.left c.response_behind.new.source) c.in-Ok-Some.head ((rw c.in-Ok-Some.field-0-is at c.in-Ok-Some.ensures.head) b s) c.in-Err-response_behind.ensures.body

pub returns-in-Ok-None-clause-response : goal.returns-in-Ok-None-clause-response
returns-in-Ok-None-clause-response g c = λ b s. (rw c.in-Ok-None.field-0-is at c.in-Ok-None.ensures.head) b s

pub returns-in-Err-clause-response : goal.returns-in-Err-clause-response
returns-in-Err-clause-response g c = λ b s.
    head_is_response c.in-Err.fault b c.cut_final_head.new.buffer (g.S.Source.left c.cut_final_head.new.source) (c.in-Err.ensures.head b s)
