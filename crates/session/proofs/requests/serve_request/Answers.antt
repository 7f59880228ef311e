use Rattle.std.proofs.Common.{◌≡◌, ◌-◌, refl, sym, ap, ◌∙◌, arith}
use Rattle.http_frame.specs.Messages.{SeenRequest}
use Rattle.http_frame.specs.declared.message.Head.{Head}
use Rattle.session.specs.Turns.{ground, sent}
use Rattle.session.proofs.ServeLemmas.{served_part, served_whole, written_there}
use Rattle.session.proofs.requests.serve_request.Goals as goal

pub returns-then-request-clause-served : goal.returns-then-request-clause-served
returns-then-request-clause-served g c =
    let to = ground (g.T.Store.names c.args.store.now) (g.T.Store.limits c.args.store.now) (g.T.Store.journals c.answer_request-answered.new.pass) (g.T.Store.seats c.args.pass.now) in
    let old = g.T.Store.journals c.args.pass.now in
    let here : c.request.inside.head ≡ c.args.request.now.head = ap (λ (r : SeenRequest). r.head) c.request.view_is in
    let a = c.answer_request-answered.ensures.answer in
    let written = written_there to old c.args.request.now c.request.inside.head c.take_room.new.marks.items c.answer_request-answered.new.marks.items c.answer_request-answered.result
    c.names_of-names.result.now c.index-names-answered.result a c.names_of-names.ensures.names c.index-names-answered.is here in
    let count = c.len-2.result - c.len-before.result in
    let served = served_whole to old c.args.request.now c.request.inside.head c.args.turns.now.items c.take_room.new.turns.items c.push_reserved.new.self.items
    c.args.marks.now.items c.take_room.new.marks.items c.answer_request-answered.new.marks.items c.answer_request-answered.result count (g.K.Sink.taken c.args.sink.now) (g.K.Sink.taken c.write_out.new.sink) c.take_room.ensures.turns c.take_room.ensures.marks a c.push_reserved.ensures.items
    (omega (arith, c.len-2.ensures, c.len-before.ensures)) here (c.in-Ok.ensures.text a.0 written) in
    (sent c.args.request.now.head served.0.answer, served.1, (served.0, ap (λ (h : Head). h.closes) (sym here) ∙ c.if-request.true, refl))

pub returns-in-Ok-clause-served : goal.returns-in-Ok-clause-served
returns-in-Ok-clause-served g c =
    let to = ground (g.T.Store.names c.args.store.now) (g.T.Store.limits c.args.store.now) (g.T.Store.journals c.answer_request-answered.new.pass) (g.T.Store.seats c.args.pass.now) in
    let old = g.T.Store.journals c.args.pass.now in
    let here : c.request.inside.head ≡ c.args.request.now.head = ap (λ (r : SeenRequest). r.head) c.request.view_is in
    let a = c.answer_request-answered.ensures.answer in
    let written = written_there to old c.args.request.now c.request.inside.head c.take_room.new.marks.items c.answer_request-answered.new.marks.items c.answer_request-answered.result
    c.names_of-names.result.now c.index-names-answered.result a c.names_of-names.ensures.names c.index-names-answered.is here in
    let count = c.len-2.result - c.len-before.result in
    let served = served_whole to old c.args.request.now c.request.inside.head c.args.turns.now.items c.take_room.new.turns.items c.push_reserved.new.self.items
    c.args.marks.now.items c.take_room.new.marks.items c.answer_request-answered.new.marks.items c.answer_request-answered.result count (g.K.Sink.taken c.args.sink.now) (g.K.Sink.taken c.write_out.new.sink) c.take_room.ensures.turns c.take_room.ensures.marks a c.push_reserved.ensures.items
    (omega (arith, c.len-2.ensures, c.len-before.ensures)) here (c.in-Ok.ensures.text a.0 written) in
    (sent c.args.request.now.head served.0.answer, served.1, (served.0, ap (λ (h : Head). h.closes) (sym here) ∙ c.if-request.false, refl))

pub returns-clause-served : goal.returns-clause-served
returns-clause-served g c =
    let to = ground (g.T.Store.names c.args.store.now) (g.T.Store.limits c.args.store.now) (g.T.Store.journals c.answer_request-answered.new.pass) (g.T.Store.seats c.args.pass.now) in
    let old = g.T.Store.journals c.args.pass.now in
    let here : c.request.inside.head ≡ c.args.request.now.head = ap (λ (r : SeenRequest). r.head) c.request.view_is in
    let a = c.answer_request-answered.ensures.answer in
    let written = written_there to old c.args.request.now c.request.inside.head c.take_room.new.marks.items c.answer_request-answered.new.marks.items c.answer_request-answered.result
    c.names_of-names.result.now c.index-names-answered.result a c.names_of-names.ensures.names c.index-names-answered.is here in
    let count = c.len-2.result - c.len-before.result in
    let part = c.in-Err.ensures.text a.0 written in
    let served = served_part to old c.args.request.now c.request.inside.head c.args.turns.now.items c.take_room.new.turns.items c.push_reserved.new.self.items
    c.args.marks.now.items c.take_room.new.marks.items c.answer_request-answered.new.marks.items c.answer_request-answered.result count part.0 c.take_room.ensures.turns c.take_room.ensures.marks a c.push_reserved.ensures.items
    (omega (arith, c.len-2.ensures, c.len-before.ensures)) here part.1 in
    (part.0, part.2, (served.0, served.1))
