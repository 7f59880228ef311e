use Rattle.std.proofs.Common.{◌≡◌, ◌<◌, ◌++◌, List, ℕ, Ok, Err, length, ap, sym, ◌∙◌, subst, append-nil, arith}
use Rattle.http_frame.specs.Answers.{TakesBody}
use Rattle.http_frame.specs.declared.framing.Framing.TheVariants.{Length}
use Rattle.http_frame.proofs.length_body.take_length.Goals as goal

pub returns-in-Ok-read_rest-clause-body : goal.returns-in-Ok-read_rest-clause-body
returns-in-Ok-read_rest-clause-body g c = λ b s.
    let few : length c.in-Ok.body.items < c.args.count = omega (arith, c.in-Ok.ensures.most, c.in-Ok.body.ok.0, c.len.ensures, c.if-len-count.false) in
    let empty = c.in-Ok.ensures.all few in
    let front : c.in-Ok.body.items ≡ c.args.buffer.now = sym (append-nil c.in-Ok.body.items) ∙ ap (λ (x : List ℕ). c.in-Ok.body.items ++ x) (sym empty) ∙ c.in-Ok.ensures.same in
    subst (λ (x : List ℕ). TakesBody (Length c.args.count) b x (g.S.Source.left c.read_rest.new.source) (Ok c.in-Ok-read_rest.body)) (sym empty)
    (c.in-Ok-read_rest.ensures.body b (s.0, s.1, s.2 ∙ ap (λ (x : List ℕ). x ++ s.0) (sym front)))

pub returns-in-Err-read_rest-clause-body : goal.returns-in-Err-read_rest-clause-body
returns-in-Err-read_rest-clause-body g c = λ b s.
    let few : length c.in-Ok.body.items < c.args.count = omega (arith, c.in-Ok.ensures.most, c.in-Ok.body.ok.0, c.len.ensures, c.if-len-count.false) in
    let empty = c.in-Ok.ensures.all few in
    let front : c.in-Ok.body.items ≡ c.args.buffer.now = sym (append-nil c.in-Ok.body.items) ∙ ap (λ (x : List ℕ). c.in-Ok.body.items ++ x) (sym empty) ∙ c.in-Ok.ensures.same in
    subst (λ (x : List ℕ). TakesBody (Length c.args.count) b x (g.S.Source.left c.read_rest.new.source) (Err c.in-Err-read_rest.fault)) (sym empty)
    (c.in-Err-read_rest.ensures.body b (s.0, s.1, s.2 ∙ ap (λ (x : List ℕ). x ++ s.0) (sym front)))
