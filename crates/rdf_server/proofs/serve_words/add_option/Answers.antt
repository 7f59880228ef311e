use Rattle.std.proofs.Common.{◌∷◌, subst}
use Rattle.rdf_server.specs.declared.serve_option.ServeOption.{ServeOption}
use Rattle.rdf_server.specs.Readings.{AreOnce}
use Rattle.rdf_server.proofs.ServeLemmas.{order_again}
use Rattle.rdf_server.proofs.serve_words.add_option.Goals as goal

pub returns-then-is_named-clause-none : goal.returns-then-is_named-clause-none
returns-then-is_named-clause-none c = λ options ids read named once.
    order_again c.in-Order.order options ((c.is_named.ensures options ids read).0 c.if-is_named.true)
    (subst (λ (x : ServeOption). AreOnce (x ∷ options)) c.in-Order.is once)
