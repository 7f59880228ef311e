use Rattle.std.proofs.Common.{length, ap, arith}
use Rattle.http_frame.proofs.StatusLemmas.{none_at_end}
use Rattle.http_frame.proofs.StatusLemmas.{unmarked, none_in_most}
use Rattle.http_frame.proofs.status_search.search_at.Goals as goal

pub returns-in-Ok-Full-clause-search : goal.returns-in-Ok-Full-clause-search
returns-in-Ok-Full-clause-search g c = λ b s.
    let wait = rw c.in-Ok-Full.field-0-is at c.in-Ok-Full.ensures.wait in
    none_in_most c.await_mark.new.buffer b (g.S.Source.left c.await_mark.new.source) (unmarked c.args.mark c.await_mark.new.buffer wait.0) wait.1 s

pub returns-else-as_slice-eq0-clause-search : goal.returns-else-as_slice-eq0-clause-search
returns-else-as_slice-eq0-clause-search g c = λ b s.
    let wait = rw c.in-Ok-Ended.field-0-is at c.in-Ok-Ended.ensures.wait in
    let end = none_at_end c.await_mark.new.buffer b (g.S.Source.left c.await_mark.new.source) (unmarked c.args.mark c.await_mark.new.buffer wait.0) wait.1 s in
    let size = ap length end.0 in
    let held = ap length c.as_slice-in-Ok-Ended.ensures.value in
    (omega arith, end.1)

pub returns-in-Err-clause-none : goal.returns-in-Err-clause-none
returns-in-Err-clause-none g c = unmarked c.args.mark c.await_mark.new.buffer c.in-Err.ensures.none
