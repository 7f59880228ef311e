use Rattle.api_requests.proofs.call.is_spellable.Goals as goal

pub returns-clause-given : goal.returns-clause-given
returns-clause-given c =
    let where_given = c.spellable_where_given.ensures c.args.call.now in
    (λ h. where_given.0 (c.has_spelling.ensures.0 h), λ x. c.has_spelling.ensures.1 (where_given.1 x))
