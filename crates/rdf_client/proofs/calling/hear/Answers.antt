use Rattle.std.proofs.Common.{◌≡◌, sym, ◌∙◌}
use Rattle.http_frame.specs.declared.fault.FrameFault.TheVariants as faults
use Rattle.rdf_client.proofs.HearLemmas.{heard_end, heard_fault, heard_response}
use Rattle.rdf_client.proofs.calling.hear.Goals as goal

pub returns-in-Ok-Some-clause-answer : goal.returns-in-Ok-Some-clause-answer
returns-in-Ok-Some-clause-answer g c = λ b s.
    heard_response c.args.call.now b c.next_response.new.self.held (g.S.Source.left c.next_response.new.source) c.in-Ok-Some.field-0 c.in-Ok-Some.response c.got_of.result
    c.in-Ok-Some.field-0-is (c.in-Ok-Some.ensures.response c.requires b s) c.got_of.ensures.got

pub returns-in-Ok-None-clause-answer : goal.returns-in-Ok-None-clause-answer
returns-in-Ok-None-clause-answer g c = λ b s.
    heard_end c.args.call.now b c.next_response.new.self.held (g.S.Source.left c.next_response.new.source) c.in-Ok-None.field-0
    c.in-Ok-None.field-0-is (c.in-Ok-None.ensures.response c.requires b s)

pub returns-in-Err-BadHead-clause-answer : goal.returns-in-Err-BadHead-clause-answer
returns-in-Err-BadHead-clause-answer g c = λ b s.
    heard_fault c.args.call.now b c.next_response.new.self.held (g.S.Source.left c.next_response.new.source) c.in-Err-BadHead.field-0
    (λ e. let apart : faults.BadHead ≡ faults.ReadFault = sym c.in-Err-BadHead.field-0-is ∙ e in cc)
    (λ e. let apart : faults.BadHead ≡ faults.Memory = sym c.in-Err-BadHead.field-0-is ∙ e in cc) (c.in-Err-BadHead.ensures.response c.requires b s)

pub returns-in-Err-BadHost-clause-answer : goal.returns-in-Err-BadHost-clause-answer
returns-in-Err-BadHost-clause-answer g c = λ b s.
    heard_fault c.args.call.now b c.next_response.new.self.held (g.S.Source.left c.next_response.new.source) c.in-Err-BadHost.field-0
    (λ e. let apart : faults.BadHost ≡ faults.ReadFault = sym c.in-Err-BadHost.field-0-is ∙ e in cc)
    (λ e. let apart : faults.BadHost ≡ faults.Memory = sym c.in-Err-BadHost.field-0-is ∙ e in cc) (c.in-Err-BadHost.ensures.response c.requires b s)

pub returns-in-Err-BadBody-clause-answer : goal.returns-in-Err-BadBody-clause-answer
returns-in-Err-BadBody-clause-answer g c = λ b s.
    heard_fault c.args.call.now b c.next_response.new.self.held (g.S.Source.left c.next_response.new.source) c.in-Err-BadBody.field-0
    (λ e. let apart : faults.BadBody ≡ faults.ReadFault = sym c.in-Err-BadBody.field-0-is ∙ e in cc)
    (λ e. let apart : faults.BadBody ≡ faults.Memory = sym c.in-Err-BadBody.field-0-is ∙ e in cc) (c.in-Err-BadBody.ensures.response c.requires b s)

pub returns-in-Err-BodyTooLong-clause-answer : goal.returns-in-Err-BodyTooLong-clause-answer
returns-in-Err-BodyTooLong-clause-answer g c = λ b s.
    heard_fault c.args.call.now b c.next_response.new.self.held (g.S.Source.left c.next_response.new.source) c.in-Err-BodyTooLong.field-0
    (λ e. let apart : faults.BodyTooLong ≡ faults.ReadFault = sym c.in-Err-BodyTooLong.field-0-is ∙ e in cc)
    (λ e. let apart : faults.BodyTooLong ≡ faults.Memory = sym c.in-Err-BodyTooLong.field-0-is ∙ e in cc) (c.in-Err-BodyTooLong.ensures.response c.requires b s)

pub returns-in-Err-Coding-clause-answer : goal.returns-in-Err-Coding-clause-answer
returns-in-Err-Coding-clause-answer g c = λ b s.
    heard_fault c.args.call.now b c.next_response.new.self.held (g.S.Source.left c.next_response.new.source) c.in-Err-Coding.field-0
    (λ e. let apart : faults.Coding ≡ faults.ReadFault = sym c.in-Err-Coding.field-0-is ∙ e in cc)
    (λ e. let apart : faults.Coding ≡ faults.Memory = sym c.in-Err-Coding.field-0-is ∙ e in cc) (c.in-Err-Coding.ensures.response c.requires b s)

pub returns-in-Err-Truncated-clause-answer : goal.returns-in-Err-Truncated-clause-answer
returns-in-Err-Truncated-clause-answer g c = λ b s.
    heard_fault c.args.call.now b c.next_response.new.self.held (g.S.Source.left c.next_response.new.source) c.in-Err-Truncated.field-0
    (λ e. let apart : faults.Truncated ≡ faults.ReadFault = sym c.in-Err-Truncated.field-0-is ∙ e in cc)
    (λ e. let apart : faults.Truncated ≡ faults.Memory = sym c.in-Err-Truncated.field-0-is ∙ e in cc) (c.in-Err-Truncated.ensures.response c.requires b s)
