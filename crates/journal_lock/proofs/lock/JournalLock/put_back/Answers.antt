use Rattle.std.proofs.Common.{rules, ◌∷◌, ap, sym, ◌∙◌, Some, None}
use Rattle.atomic_table.specs.Table.{rest}
use Rattle.journal_lock.specs.Passes.{in_hand}
use Rattle.journal_lock.proofs.Keeps.{gives_turn_as}
use Rattle.journal_lock.proofs.Passes.{is_first, carries_none}
use Rattle.journal_lock.proofs.lock.JournalLock.put_back.Goals as goal

pub exchange-was-requires : goal.exchange-was-requires
exchange-was-requires g c =
    let p = c.requires.pass in
    (p.0, (None, is_first _ _ _ (p.4 ∙ ap in_hand c.requires.turn)))

pub swap-requires : goal.swap-requires
swap-requires g c =
    let p = c.requires.pass in
    let m = c.exchange-was.ensures.3 in
    let t = c.requires.turn in (
      c.exchange-was.ensures.0 ∙ p.0,
      search rules,
      gives_turn_as _ _ _ _ _ _ _ _ _ c.args.value c.args.self.now.sized.1
          (ap (λ n. n.0.live) m ∙ p.2)
          (ap (λ n. n.0.holds) m ∙ t)
          (ap (λ n. n.1) m ∙ ap (λ l. (0, Some c.args.value) ∷ rest l) (p.4 ∙ ap in_hand t))
          (c.requires.value ∙ sym (ap (λ n. n.0.seen) m))
          (c.args.self.now.table.shared.key.value, ap (λ n. n.0.fixed) m ∙ p.5, c.requires.fixed),
    )

pub returns-clause-pass : goal.returns-clause-pass
returns-clause-pass g c =
    let p = c.requires.pass in
    let t = c.requires.turn in
    let m = c.exchange-was.ensures.3 in
    let s = c.swap.ensures.2 in (
      c.swap.ensures.0 ∙ c.exchange-was.ensures.0 ∙ p.0,
      ap (λ n. n.0.number) s ∙ ap (λ n. n.0.number) m ∙ p.1,
      ap (λ n. n.0.live) s ∙ ap (λ n. n.0.live) m ∙ p.2,
      ap (λ n. n.0.olds) s ∙ ap (λ n. n.0.olds) m ∙ p.3,
      carries_none c.exchange-was.new.seat.me c.swap.new.seat.me (0, Some c.args.value) (ap (λ n. n.1) m ∙ ap (λ l. (0, Some c.args.value) ∷ rest l) (p.4 ∙ ap in_hand t)) s,
      ap (λ n. n.0.fixed) s ∙ ap (λ n. n.0.fixed) m ∙ p.5,
    )

pub returns-clause-idle : goal.returns-clause-idle
returns-clause-idle g c = ap (λ n. n.0.holds) c.swap.ensures.2
