use Rattle.std.proofs.Common.{rules, ◌≡◌, ℕ, List, length, sym, ap, ◌∙◌, subst, nat_eq}
use Rattle.journal_lock.specs.Passes.{olds_of}
use Rattle.std.specs.List.{IsDistinct}
use Rattle.journal_lock.specs.declared.table.OldList.{OldList}
use Rattle.journal_lock.specs.Rule.{OldsHaveAll, AllAmong, numbers}
use Rattle.journal_lock.proofs.Lists.{some_same}
use Rattle.journal_lock.proofs.Passes.{olds_length, numbers_back, has_all_back}
use Rattle.journal_lock.proofs.Seats.{enters_last_as, sees_whole_as, splits_witness, closed_value}
use Rattle.journal_lock.proofs.lock.JournalLock.close.Goals as goal

pub load_new_seat-seat-requires : goal.load_new_seat-seat-requires
load_new_seat-seat-requires g c = (search rules, enters_last_as _ _ _ _ _ _ _ c.args.self.sized.1)

pub load-requires : goal.load-requires
load-requires g c =
    let own = c.gather.ensures in
    let many : length c.args.passes.items ≡ c.args.self.seats = search rules in
    (own.0, search rules, sees_whole_as _ _ _ _ _ _ _ _ _ (olds_of c.args.passes.items) c.args.self.sized.1 own.1 (olds_length c.args.passes.items ∙ many ∙ sym c.args.self.counted.0))

pub split_seat-last-requires : goal.split_seat-last-requires
split_seat-last-requires g c = (search rules, search rules, splits_witness _ _ _ _ _ _ _ _)

pub unreachable-requires : goal.unreachable-requires
unreachable-requires g c =
    let many : length c.args.passes.items ≡ c.args.self.seats = search rules in
    let r = closed_value _ _ _ _ _ _ _ c.gather.new.seat.me c.load.new.seat.me c.split_seat-last.new.seat.me (olds_of c.args.passes.items) _ _ _
    c.gather.ensures.1 c.load.ensures.2.1 c.split_seat-last.ensures.2 c.load.ensures.2.2 (olds_length c.args.passes.items ∙ many ∙ sym c.args.self.counted.0)
    c.close_with-closed.ensures.values.2 c.take-value.ensures.value in
    c.in_default.not-Some r.0 r.1

pub returns-clause-value : goal.returns-clause-value
returns-clause-value g c =
    let many : length c.args.passes.items ≡ c.args.self.seats = search rules in
    let r = closed_value _ _ _ _ _ _ _ c.gather.new.seat.me c.load.new.seat.me c.split_seat-last.new.seat.me (olds_of c.args.passes.items) _ _ _
    c.gather.ensures.1 c.load.ensures.2.1 c.split_seat-last.ensures.2 c.load.ensures.2.2 (olds_length c.args.passes.items ∙ many ∙ sym c.args.self.counted.0)
    c.close_with-closed.ensures.values.2 c.take-value.ensures.value in
    let same : c.in-Some.value ≡ r.0 = some_same _ _ (sym c.in-Some.is ∙ r.1) in
    ap g.V.Journaled.entries same ∙ r.2 ∙ sym (ap (λ m. m.0.seen) c.split_seat-last.ensures.4)

pub returns-clause-fixed : goal.returns-clause-fixed
returns-clause-fixed g c =
    let many : length c.args.passes.items ≡ c.args.self.seats = search rules in
    let r = closed_value _ _ _ _ _ _ _ c.gather.new.seat.me c.load.new.seat.me c.split_seat-last.new.seat.me (olds_of c.args.passes.items) _ _ _
    c.gather.ensures.1 c.load.ensures.2.1 c.split_seat-last.ensures.2 c.load.ensures.2.2 (olds_length c.args.passes.items ∙ many ∙ sym c.args.self.counted.0)
    c.close_with-closed.ensures.values.2 c.take-value.ensures.value in
    let same : c.in-Some.value ≡ r.0 = some_same _ _ (sym c.in-Some.is ∙ r.1) in
    ap g.V.Journaled.fixed same ∙ r.3

pub returns-clause-prefixes : goal.returns-clause-prefixes
returns-clause-prefixes g c =
    let seen = ap (λ m. m.0.seen) c.split_seat-last.ensures.4 in
    let olds = ap (λ v. v.olds) c.gather.ensures.1 in
    has_all_back c.args.self g.V.Journaled.number c.args.passes.items _ c.requires.passes
    (subst (λ (z : List (OldList g.row.V-Entry.Denot) × List g.row.V-Entry.Denot). OldsHaveAll g.V.Journaled.number z.0 z.1) (λ i. (olds i, sym seen i)) c.load.ensures.2.2)

pub returns-clause-differ : goal.returns-clause-differ
returns-clause-differ g c =
    let olds = ap (λ v. v.olds) c.gather.ensures.1 in
    subst (λ l. IsDistinct nat_eq l) (ap numbers olds ∙ numbers_back c.args.self c.args.passes.items c.requires.passes) c.load.ensures.2.3

pub returns-clause-among : goal.returns-clause-among
returns-clause-among g c =
    let seen = ap (λ m. m.0.seen) c.split_seat-last.ensures.4 in
    let olds = ap (λ v. v.olds) c.gather.ensures.1 in
    let same = ap numbers olds ∙ numbers_back c.args.self c.args.passes.items c.requires.passes in
    subst (λ (z : List ℕ × List g.row.V-Entry.Denot). AllAmong g.V.Journaled.number z.0 z.1) (λ i. (same i, sym seen i)) c.load.ensures.2.4
