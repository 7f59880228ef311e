use Rattle.std.proofs.Common.{◌≡◌, ◌+◌, List, ℕ, [], Ok, length, take, sym, subst, arith, length-take-le, take_all}
use Rattle.http_frame.specs.Answers.{TakesBody}
use Rattle.http_frame.specs.Streams.{IsStream, Fills}
use Rattle.http_frame.specs.declared.framing.Framing.TheVariants.{Length}
use Rattle.http_frame.proofs.StreamLemmas.{ends_short, fails_short, all_came}
use Rattle.http_frame.proofs.length_body.read_rest.Goals as goal

pub returns-then-more-eq0-clause-body : goal.returns-then-more-eq0-clause-body
returns-then-more-eq0-clause-body g c = λ b s.
    let held = take c.read.at c.make_room.new.body.items in
    let left = g.S.Source.left c.read.source in
    let left' = g.S.Source.left c.read_into.new.source in
    let now = subst (λ (x : List ℕ). IsStream x left b) (sym c.in-Ok.ensures.came) (c.read.invariant.stream b s) in
    let none = subst (λ (n : ℕ). Fills held left (take (c.read.at + n) c.read_into.new.body.items) left' n) c.if-more-eq0.true c.in-Ok-read_into.ensures.ok in
    let size = length-take-le c.read.at c.make_room.new.body.items (omega (arith, c.in-Ok.ensures.room)) in
    ends_short held (take (c.read.at + 0) c.read_into.new.body.items) b left left' c.args.count none now (omega arith)

pub returns-in-Err-read_into-clause-body : goal.returns-in-Err-read_into-clause-body
returns-in-Err-read_into-clause-body g c = λ b s.
    let held = take c.read.at c.make_room.new.body.items in
    let left = g.S.Source.left c.read.source in
    let now = subst (λ (x : List ℕ). IsStream x left b) (sym c.in-Ok.ensures.came) (c.read.invariant.stream b s) in
    let size = length-take-le c.read.at c.make_room.new.body.items (omega (arith, c.in-Ok.ensures.room)) in
    fails_short held b left (g.S.Source.left c.read_into.new.source) c.args.count c.in-Err-read_into.ensures.err_source now (omega arith)

pub returns-clause-body : goal.returns-clause-body
returns-clause-body g c = λ b s.
    let came = c.read.invariant.came in
    let most = c.read.invariant.most in
    let left = g.S.Source.left c.read.source in
    let size : length c.read.body.items ≡ c.args.count = omega arith in
    let whole : take c.read.at c.read.body.items ≡ c.read.body.items = take_all c.read.at c.read.body.items (omega arith) in
    let now = subst (λ (x : List ℕ). IsStream x left b) whole (c.read.invariant.stream b s) in
    subst (λ (x : List ℕ). TakesBody (Length c.args.count) b [] left (Ok x)) (sym c.from_vec.ensures) (all_came c.read.body.items b left c.args.count size now)
