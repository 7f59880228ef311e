use Rattle.std.proofs.Common.{◌∙◌, ap, sym}
use Rattle.query_grammar.specs.Names.{is_among}
use Rattle.query_grammar.proofs.NameLaws.{among_more}
use Rattle.query_grammar.proofs.names.Names.add.Goals as goal

pub invariant_of-self-in-Ok : goal.invariant_of-self-in-Ok
invariant_of-self-in-Ok c = λ q.
    among_more c.self.inside.names c.in_ok-known.known c.args.name q _ _ c.in_ok-known.ensures (c.self.invariant q)
    (c.in_ok-insert.ensures.updates.0 q)
    ∙ ap (λ names. is_among names q) (sym c.in-Ok.ensures.ok)
