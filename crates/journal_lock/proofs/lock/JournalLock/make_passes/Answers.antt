use Rattle.std.proofs.Common.{rules, ◌+◌, sym, ap, ◌∙◌, subst, arith}
use Rattle.journal_lock.specs.Passes.{AreIdle, AreNew, in_hand}
use Rattle.journal_lock.proofs.Passes.{idle_more, new_more}
use Rattle.journal_lock.proofs.Seats.{makes_pass}
use Rattle.journal_lock.proofs.lock.JournalLock.make_passes.Goals as goal

pub split_seat-seat-requires : goal.split_seat-seat-requires
split_seat-seat-requires g c =
    let i = c.loop-number.invariant in
    (i.4, search rules, makes_pass _ _ _ _ _ _ _ _ i.5 (let a = i.6 in let b = c.args.self.now.counted.0 in let t = c.loop-number-test.true in omega arith))

pub loop-number-preserved : goal.loop-number-preserved
loop-number-preserved g c =
    let i = c.loop-number.invariant in
    let s = c.split_seat-seat.ensures in
    let items = sym c.push_reserved.ensures.items in
    let holds = ap (λ m. m.0.holds) s.4 in (
      subst (λ l. AreIdle c.args.self.now l) items (idle_more c.args.self.now c.loop-number.passes.items _ i.0 (
        (s.3 ∙ i.4, ap (λ m. m.0.number) s.4 ∙ i.6, ap (λ m. m.0.live) s.4, ap (λ m. m.0.olds) s.4, ap (λ m. m.1) s.4 ∙ sym (ap in_hand holds), ap (λ m. m.0.fixed) s.4 ∙ i.7),
        holds,
      )),
      subst (λ l. AreNew 0 l) items (new_more 0 c.loop-number.passes.items _ i.1 (search rules, ap (λ m. m.0.seen) s.4)),
      search rules,
      search rules,
      s.0 ∙ i.4,
      ap (λ m. m.0.makes) s.2 ∙ i.5,
      ap (λ m. m.0.made) s.2 ∙ ap (λ n. n + 1) i.6,
      ap (λ m. m.0.fixed) s.2 ∙ i.7,
    )
