use Rattle.std.proofs.Common.{◌≡◌, ℕ, List, rules, subst}
use Rattle.rdf_io.specs.Sending.{IsPartOf, Puts}
use Rattle.rdf_server.specs.Workloads.{IsWorked}
use Rattle.rdf_server.specs.WorkTexts.{summary}
use Rattle.rdf_server.proofs.WorkLemmas.{for_words}
use Rattle.rdf_server.proofs.work.run_workload.Goals as goal

pub returns-clause-worked : goal.returns-clause-worked
returns-clause-worked g c = λ workers rounds it.
    for_words (λ (w r : ℕ). IsWorked w r c.in-Ok.house) c.args.words.now c.in-Some.workers c.in-Some.rounds workers rounds c.in-Some.ensures.some it c.in-Ok.ensures.worked

pub returns-clause-printed : goal.returns-clause-printed
returns-clause-printed g c = λ workers rounds it is_done.
    let text : c.as_slice.result.now ≡ summary c.in-Some.workers c.in-Ok.house.counts.items = search rules in
    for_words (λ (w r : ℕ). Puts (g.O.Sink.taken c.args.out.now) (g.O.Sink.taken c.print.new.out) (summary w c.in-Ok.house.counts.items)) c.args.words.now c.in-Some.workers
    c.in-Some.rounds workers rounds c.in-Some.ensures.some it
    (subst (λ (x : List ℕ). Puts (g.O.Sink.taken c.args.out.now) (g.O.Sink.taken c.print.new.out) x) text (c.print.ensures.printed is_done))

pub returns-clause-part : goal.returns-clause-part
returns-clause-part g c = λ workers rounds it broke.
    let text : c.as_slice.result.now ≡ summary c.in-Some.workers c.in-Ok.house.counts.items = search rules in
    for_words (λ (w r : ℕ). (part : List ℕ) × IsPartOf part (summary w c.in-Ok.house.counts.items) × Puts (g.O.Sink.taken c.args.out.now) (g.O.Sink.taken c.print.new.out) part)
    c.args.words.now c.in-Some.workers c.in-Some.rounds workers rounds c.in-Some.ensures.some it
    (subst (λ (x : List ℕ). (part : List ℕ) × IsPartOf part x × Puts (g.O.Sink.taken c.args.out.now) (g.O.Sink.taken c.print.new.out) part) text
    (c.print.ensures.part broke))
