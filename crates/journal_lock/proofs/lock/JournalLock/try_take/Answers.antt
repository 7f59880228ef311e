use Rattle.std.proofs.Common.{rules, ◌∷◌, ap, sym, ◌∙◌, refl, ◌+◌, Some}
use Rattle.journal_lock.specs.Passes.{in_hand}
use Rattle.journal_lock.proofs.Keeps.{takes_turn_as}
use Rattle.journal_lock.proofs.Lists.{some_same}
use Rattle.journal_lock.proofs.Passes.{is_first, carries, value_same}
use Rattle.journal_lock.proofs.lock.JournalLock.try_take.Goals as goal

pub compare_exchange-requires : goal.compare_exchange-requires
compare_exchange-requires g c = let p = c.requires.pass in (p.0, search rules, takes_turn_as _ _ _ _ _ _ _ _ _ _ c.args.self.now.sized.1 p.2 (p.4 ∙ ap in_hand c.requires.idle) (ap (λ n. n + 1) (c.from-turn.ensures ∙ sym p.1)))

pub returns-then-compare_exchange-ne0-clause-none :
    goal.returns-then-compare_exchange-ne0-clause-none
returns-then-compare_exchange-ne0-clause-none g c = (refl, c.compare_exchange.ensures.0, c.compare_exchange.ensures.2.1 c.if-compare_exchange-ne0.true)

pub exchange-requires : goal.exchange-requires
exchange-requires g c =
    let t = c.compare_exchange.ensures.2.0 c.if-compare_exchange-ne0.false in
    (c.compare_exchange.ensures.0 ∙ c.requires.pass.0, (Some t.0, is_first _ _ _ (ap (λ m. m.1) t.2)))

pub returns-clause-pass : goal.returns-clause-pass
returns-clause-pass g c =
    let p = c.requires.pass in
    let t = c.compare_exchange.ensures.2.0 c.if-compare_exchange-ne0.false in
    let is = c.exchange.ensures.3 in
    let turn = ap (λ m. m.0.holds) is ∙ ap (λ m. m.0.holds) t.2 in (
      c.exchange.ensures.0 ∙ c.compare_exchange.ensures.0 ∙ p.0,
      ap (λ m. m.0.number) is ∙ ap (λ m. m.0.number) t.2 ∙ p.1,
      ap (λ m. m.0.live) is ∙ ap (λ m. m.0.live) t.2 ∙ p.2,
      ap (λ m. m.0.olds) is ∙ ap (λ m. m.0.olds) t.2 ∙ p.3,
      carries _ _ (Some t.0) (ap (λ m. m.1) t.2 ∙ ap (λ l. (0, Some t.0) ∷ l) (p.4 ∙ ap in_hand c.requires.idle)) is turn,
      ap (λ m. m.0.fixed) is ∙ ap (λ m. m.0.fixed) t.2 ∙ p.5,
    )

pub returns-clause-turn : goal.returns-clause-turn
returns-clause-turn g c =
    let t = c.compare_exchange.ensures.2.0 c.if-compare_exchange-ne0.false in
    ap (λ m. m.0.holds) c.exchange.ensures.3 ∙ ap (λ m. m.0.holds) t.2

pub returns-clause-value : goal.returns-clause-value
returns-clause-value g c =
    let t = c.compare_exchange.ensures.2.0 c.if-compare_exchange-ne0.false in
    let is = c.exchange.ensures.3 in
    let same = value_same _ _ t.0 c.in-Some.value _ _ c.exchange.ensures.2 (ap (λ m. m.1) t.2) c.in-Some.is in
    ap g.V.Journaled.entries same ∙ t.4 ∙ sym (ap (λ m. m.0.seen) is ∙ ap (λ m. m.0.seen) t.2)

pub returns-clause-fixed : goal.returns-clause-fixed
returns-clause-fixed g c =
    let t = c.compare_exchange.ensures.2.0 c.if-compare_exchange-ne0.false in
    let same = value_same _ _ t.0 c.in-Some.value _ _ c.exchange.ensures.2 (ap (λ m. m.1) t.2) c.in-Some.is in
    let o = t.5 in
    ap g.V.Journaled.fixed same ∙ o.2 ∙ ap (λ z. g.V.Journaled.fixed z.value) (some_same _ _ (sym o.1 ∙ c.requires.pass.5))
