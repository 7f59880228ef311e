use Rattle.http_frame.proofs.StatusLemmas.{none_behind_mark}
use Rattle.http_frame.proofs.status_search.find_status_head.Goals as goal

pub returns-in-Ok-None-search_at-clause-search : goal.returns-in-Ok-None-search_at-clause-search
returns-in-Ok-None-search_at-clause-search g c = λ b s.
    let search = rw c.in-Ok-None-search_at.field-0-is at c.in-Ok-None-search_at.ensures.search in
    none_behind_mark c.search_at-2.new.buffer b (g.S.Source.left c.search_at-2.new.source) search.0 search.1 s
