use Rattle.std.proofs.Common.{sym, subst}
use Rattle.http_frame.specs.Answers.{TakesWithin}
use Rattle.http_frame.specs.declared.framing.Framing.{Framing}
use Rattle.http_frame.proofs.BodyLemmas.{length_within}
use Rattle.http_frame.proofs.body.take_body.Goals as goal

pub returns-in-Length-clause-body : goal.returns-in-Length-clause-body
returns-in-Length-clause-body g c = λ b s.
    let held = c.take_length.new.buffer in
    let left = g.S.Source.left c.take_length.new.source in
    subst (λ (f : Framing). TakesWithin c.args.most f b held left c.take_length.result) (sym c.in-Length.is)
    (length_within c.args.most c.in-Length.count b held left c.take_length.result (c.take_length.ensures.body b s))

pub returns-in-Chunked-clause-body : goal.returns-in-Chunked-clause-body
returns-in-Chunked-clause-body g c = λ b s.
    subst (λ (f : Framing). TakesWithin c.args.most f b c.take_chunked.new.buffer (g.S.Source.left c.take_chunked.new.source) c.take_chunked.result) (sym c.in-Chunked.is)
    (c.take_chunked.ensures.body b s)
