use Rattle.std.proofs.Common.{subst}
use Rattle.nquads.specs.State.{Reader, Stands, Finishes}
use Rattle.nquads.proofs.FeedLemmas.{finishes_last}
use Rattle.nquads.proofs.reader.LineReader.finish.Goals as goal

pub returns-clause-ok : goal.returns-clause-ok
returns-clause-ok c =
    let s = c.self.inside in
    let r : Reader = record { kind = s.kind; line = s.line.items; after_cr = s.after_cr; ended = s.ended; fault = s.fault } in
    let p = c.in_default-append_line.ensures.ok in
    λ kind taken. subst (λ v. Stands v kind taken → Finishes kind taken c.args.out.now c.append_line.new.out) c.self.view_is
    (λ t. finishes_last kind taken r c.as_slice-last.result.now p.0 c.args.out.now c.append_line.new.out t c.as_slice-last.ensures.value p.1 p.2 p.3)
