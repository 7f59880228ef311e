use Rattle.std.proofs.Common.{◌++◌, List, ℕ, drop, sym, subst, ap}
use Rattle.http_frame.specs.Streams.{IsStream}
use Rattle.http_frame.proofs.StatusLemmas.{found_begins}
use Rattle.http_frame.proofs.status_head.cut_status_head.Goals as goal

pub returns-in-Ok-End-clause-head : goal.returns-in-Ok-End-clause-head
returns-in-Ok-End-clause-head g c = λ b s.
    let now = c.in-Ok-End.ensures.stream b s in
    let end = (rw c.in-Ok-End.field-0-is at c.in-Ok-End.ensures.search) b now in
    (end, subst (λ (x : List ℕ). IsStream c.find_status_head.new.buffer (g.S.Source.left c.find_status_head.new.source) x) end now)

pub returns-in-Ok-Bad-clause-head : goal.returns-in-Ok-Bad-clause-head
returns-in-Ok-Bad-clause-head g c = λ b s.
    (rw c.in-Ok-Bad.field-0-is at c.in-Ok-Bad.ensures.search) b (c.in-Ok-Bad.ensures.stream b s)

pub returns-in-Ok-clause-head : goal.returns-in-Ok-clause-head
returns-in-Ok-clause-head g c = λ b s.
    let held = c.find_status_head.new.buffer in
    let left = g.S.Source.left c.find_status_head.new.source in
    let r = c.in-Ok-Found.found in
    let front = (rw c.in-Ok-Found.field-0-is at c.in-Ok-Found.ensures.search) in
    let stream = c.in-Ok-Found.ensures.stream b s in
    let shows = c.in-Ok.ensures.head front.0.0 front.0.1 in
    let begins = found_begins held b left c.find_status_head.new.spans r c.in-Ok.head front.0 front.1 front.2 c.in-Ok.ensures.room stream shows in
    (drop r.len held ++ stream.0, begins, (stream.0, stream.1, ap (λ (x : List ℕ). x ++ stream.0) (sym c.in-Ok.ensures.rest)))
