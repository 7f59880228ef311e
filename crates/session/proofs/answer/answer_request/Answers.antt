use Rattle.std.proofs.Common.{◌≡◌, refl, sym, ap, subst, arith}
use Rattle.http_frame.specs.Messages.{SeenRequest}
use Rattle.http_frame.specs.declared.message.Head.{Head}
use Rattle.api_calls.specs.declared.call.Call.TheVariants.{Protocol, Repositories}
use Rattle.api_replies.specs.Responses.{refusal, response}
use Rattle.journal.specs.declared.reply.Reply.TheVariants.{Done}
use Rattle.session.specs.Answering.{IsAnswered}
use Rattle.session.specs.Turns.{ground}
use Rattle.session.specs.declared.report.Outcome.TheVariants.{Answered, FormRefused}
use Rattle.session.proofs.AnswerLemmas.{answers_lack, answers_plain}
use Rattle.session.proofs.answer.answer_request.Goals as goal

pub returns-in-Memory-clause-answer : goal.returns-in-Memory-clause-answer
returns-in-Memory-clause-answer g c =
    let to = ground (g.T.Store.names c.args.store.now) (g.T.Store.limits c.args.store.now) (g.T.Store.journals c.args.pass.now) (g.T.Store.seats c.args.pass.now) in
    answers_lack to c.args.request.now c.args.marks.now.items c.no_memory.result (omega (arith, c.names_of-names.ensures.some)) c.no_memory.ensures

pub returns-in-Err : goal.returns-in-Err
returns-in-Err g c =
    let names = g.T.Store.names c.args.store.now in
    let to = ground names (g.T.Store.limits c.args.store.now) (g.T.Store.journals c.args.pass.now) (g.T.Store.seats c.args.pass.now) in
    let here : c.request.inside.head ≡ c.args.request.now.head = ap (λ (r : SeenRequest). r.head) c.request.view_is in
    record {
      pass = (c.requires.serves, refl);
      answer = answers_plain to c.args.request.now c.args.marks.now.items c.refuse.result FormRefused (refusal c.in-Err.fault) (omega (arith, c.names_of-names.ensures.some))
          (c.in-Err.fault, rw c.names_of-names.ensures.names at c.in-Err.ensures c.in_default.not-Memory, refl, refl)
          (subst (λ (h : Head). IsAnswered h (refusal c.in-Err.fault) FormRefused c.refuse.result) here c.refuse.ensures);
      few = omega arith;
    }

pub returns-in-Protocol-clause-answer : goal.returns-in-Protocol-clause-answer
returns-in-Protocol-clause-answer g c =
    let names = g.T.Store.names c.args.store.now in
    let to = ground names (g.T.Store.limits c.args.store.now) (g.T.Store.journals c.args.pass.now) (g.T.Store.seats c.args.pass.now) in
    let here : c.request.inside.head ≡ c.args.request.now.head = ap (λ (r : SeenRequest). r.head) c.request.view_is in
    answers_plain to c.args.request.now c.args.marks.now.items c.answer_plain.result Answered (response Protocol names Done) (omega (arith, c.names_of-names.ensures.some))
    (Protocol, rw (c.names_of-names.ensures.names, c.in-Protocol.is) at c.in-Ok.ensures, refl, tt, refl)
    (subst (λ (h : Head). IsAnswered h (response Protocol names Done) Answered c.answer_plain.result) here (rw (c.names_of-names.ensures.names, c.in-Protocol.is) at c.answer_plain.ensures))

pub returns-in-Repositories-clause-answer : goal.returns-in-Repositories-clause-answer
returns-in-Repositories-clause-answer g c =
    let names = g.T.Store.names c.args.store.now in
    let wanted = Repositories c.in-Repositories.field-0 in
    let to = ground names (g.T.Store.limits c.args.store.now) (g.T.Store.journals c.args.pass.now) (g.T.Store.seats c.args.pass.now) in
    let here : c.request.inside.head ≡ c.args.request.now.head = ap (λ (r : SeenRequest). r.head) c.request.view_is in
    answers_plain to c.args.request.now c.args.marks.now.items c.answer_plain-in-Repositories.result Answered (response wanted names Done) (omega (arith, c.names_of-names.ensures.some))
    (wanted, rw (c.names_of-names.ensures.names, c.in-Repositories.is) at c.in-Ok.ensures, refl, tt, refl)
    (subst (λ (h : Head). IsAnswered h (response wanted names Done) Answered c.answer_plain-in-Repositories.result) here
    (rw (c.names_of-names.ensures.names, c.in-Repositories.is) at c.answer_plain-in-Repositories.ensures))

pub returns-clause-answer : goal.returns-clause-answer
returns-clause-answer g c =
    let here : c.request.inside.head ≡ c.args.request.now.head = ap (λ (r : SeenRequest). r.head) c.request.view_is in
    c.answer_on.ensures.answer c.args.request.now (sym here) (rw c.names_of-names.ensures.names at c.in-Ok.ensures)

pub answer_on-requires-clause-there : goal.answer_on-requires-clause-there
answer_on-requires-clause-there g c =
    let names = g.T.Store.names c.args.store.now in
    c.calls_are_on_repositories.ensures c.args.request.now names c.in-On.repo c.in-On.op c.in-On.form
    (rw (c.names_of-names.ensures.names, c.in-On.is) at c.in-Ok.ensures)

pub answer_on-requires-clause-call : goal.answer_on-requires-clause-call
answer_on-requires-clause-call g c =
    let names = g.T.Store.names c.args.store.now in
    c.calls_are_callable.ensures c.args.request.now names c.in-On.repo c.in-On.op c.in-On.form
    (rw (c.names_of-names.ensures.names, c.in-On.is) at c.in-Ok.ensures)
