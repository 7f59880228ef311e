use Rattle.std.proofs.Common.{rules, [], ◌∷◌, ◌++◌, Some, sym, ap, ◌∙◌, subst, append-nil, append_assoc}
use Rattle.journal_lock.specs.Rule.{closer, gathered}
use Rattle.journal_lock.specs.Passes.{AreIdle, in_hand, olds_of}
use Rattle.journal_lock.proofs.Passes.{idle_front}
use Rattle.journal_lock.proofs.Seats.{joins_last}
use Rattle.journal_lock.proofs.lock.JournalLock.gather.Goals as goal

pub loop-pass-init : goal.loop-pass-init
loop-pass-init g c = ([], sym (append-nil _), c.requires.passes, c.requires.seat)

pub join_seat-requires : goal.join_seat-requires
join_seat-requires g c =
    let i = c.loop-pass.invariant in
    let own = i.3 in
    let r = idle_front c.args.self.now c.pop.new.self.items c.in-Some.pass (subst (λ l. AreIdle c.args.self.now l) c.in-Some.ensures.items i.2) in
    let q = r.1.0 in
    let idle = r.1.1 in
    (own.0, q.0, q.4 ∙ ap in_hand idle, search rules, joins_last _ _ _ _ _ _ _ _ _ _ (ap (λ v. v.live) own.1) (ap (λ v. v.holds) own.1) q.2 idle)

pub loop-pass-preserved : goal.loop-pass-preserved
loop-pass-preserved g c =
    let i = c.loop-pass.invariant in
    let own = i.3 in
    let items = c.in-Some.ensures.items in
    let r = idle_front c.args.self.now c.pop.new.self.items c.in-Some.pass (subst (λ l. AreIdle c.args.self.now l) items i.2) in
    let j = c.join_seat.ensures in
    let seen = ap (λ m. m.0.seen) j.2 in (
      c.in-Some.pass ∷ i.0,
      i.1 ∙ ap (λ l. l ++ i.0) items ∙ append_assoc c.pop.new.self.items (c.in-Some.pass ∷ []) i.0,
      r.0,
      (
        j.0 ∙ own.0,
        ap (λ m. m.0) j.2 ∙ ap (λ v. gathered v c.in-Some.pass.seat.me.0) own.1
            ∙ ap (λ s. record (closer (Some c.args.self.now.table.shared.key.value) c.args.self.now.table.shared.key.seats s) { olds = olds_of (c.in-Some.pass ∷ i.0) }) (sym seen),
        ap (λ m. m.1) j.2 ∙ own.2,
      ),
    )
