use Rattle.std.proofs.Common.{◌≡◌, ◌++◌, List, ℕ, length, ap, ◌∙◌, refl, append_assoc}
use Rattle.rdf_term.proofs.WritingLemmas.{then_appends, appends_of}
use Rattle.http_frame.specs.Wire.{length_line, closing}
use Rattle.http_frame.proofs.wire.put_with_body.Goals as goal

pub returns : goal.returns
returns c =
    let old = c.args.out.now.items in
    let line = length_line (length c.args.body.now) in
    let mid : c.append.new.self.items ≡ old ++ (line ++ closing c.args.closes) =
    c.in_ok-append.ensures.ok ∙ ap (λ (x : List ℕ). c.put_length.new.out.items ++ x) c.closing.ensures
    ∙ ap (λ (x : List ℕ). x ++ closing c.args.closes) c.in_ok-put_length.ensures ∙ append_assoc old line (closing c.args.closes) in
    then_appends c.append-2.result old c.append.new.self.items c.append-2.new.self.items (line ++ closing c.args.closes) c.args.body.now _ mid refl
    (appends_of c.append-2.result c.append.new.self.items c.append-2.new.self.items c.args.body.now c.append-2.ensures.ok c.append-2.ensures.memory)
