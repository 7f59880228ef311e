use Rattle.std.proofs.Common.{◌≡◌, ◌++◌, ℕ, sym, subst}
use Rattle.journal_lock.specs.Passes.{lent, seat_of, seen}
use Rattle.iso_txn.specs.Repository.{Repository}
use Rattle.shared_repo.specs.Passes.{limits_of, with_journal}
use Rattle.shared_repo.proofs.ListLemmas.{adds_one, are_others, goes_taken}
use Rattle.shared_repo.proofs.PassLemmas.{lent_is, room_in}
use Rattle.shared_repo.proofs.repo.Repo.make.Goals as goal

pub enter-requires : goal.enter-requires
enter-requires g c =
    let pass = c.args.pass.now in
    let taken = c.take-held.ensures in
    let needs : ℕ → Repository → Type 0 = λ seat repo. g.C.Call.needs c.args.call.now c.args.target.now seat repo in
    let is : c.value.result.now ≡ with_journal c.args.self.now (seen pass ++ taken.list.0) =
    lent_is c.args.self.now c.value.result.now (lent c.take-held.result) (seen c.take-held.new.pass) (seen pass ++ taken.list.0) c.value.ensures.value taken.value
    taken.fixed taken.list.1 in
    subst (λ repo. needs c.seat-seat.result repo) (sym is)
    (subst (λ seat. needs seat (with_journal c.args.self.now (seen pass ++ taken.list.0))) (sym c.seat-seat.ensures)
    (c.requires.needs taken.list.0 (are_others (seat_of pass) taken.list.0 taken.list.2)))

pub returns-in-Ok-clause-entered : goal.returns-in-Ok-clause-entered
returns-in-Ok-clause-entered g c =
    let pass = c.args.pass.now in
    let taken = c.take-held.ensures in
    adds_one (limits_of c.args.self.now) (seat_of pass) c.seat-seat.result (seen pass) (seen c.take-held.new.pass) (seen c.give_with-place.new.pass) taken.list.0
    c.entry-entry.result (g.C.Call.does c.args.call.now) c.give_with-place.result taken.list.1 taken.list.2 c.entry-entry.ensures c.seat-seat.ensures
    c.give_with-place.ensures.list c.give_with-place.ensures.place
    (room_in c.args.self.now c.value.result.now (lent c.take-held.result) (seen c.take-held.new.pass) c.value.ensures.value taken.value taken.fixed
    c.in-Ok.ensures.room)

pub returns-clause-fault : goal.returns-clause-fault
returns-clause-fault g c =
    let pass = c.args.pass.now in
    let taken = c.take-held.ensures in
    goes_taken (seat_of pass) (seen pass) (seen c.take-held.new.pass) (seen c.give.new.pass) taken.list.0 taken.list.1 taken.list.2 c.give.ensures.list
