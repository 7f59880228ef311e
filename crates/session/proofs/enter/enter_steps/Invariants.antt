use Rattle.std.proofs.Common.{◌≡◌, ◌+◌, ◌-◌, ◌≤◌, ◌<◌, vec_len}
use Rattle.std.specs.Vec.{vec_capacity}
use Rattle.query_model.specs.Solutions.{lookups_of}
use Rattle.session.specs.Stores.{nothing_pinned}
use Rattle.session.proofs.StepLemmas.{Stepped}
use Rattle.session.proofs.enter.enter_steps.Given as goal

abbrev pub invariant-loop-number : goal.invariant-loop-number
invariant-loop-number g l = record {
  serves : g.T.Store.serves l.store l.pass;
  seats : g.T.Store.seats l.pass ≡ g.T.Store.seats l.initial.pass;
  stepped : Stepped (g.T.Store.limits l.store) (g.T.Store.seats l.initial.pass) (g.T.Store.journals l.initial.pass) (g.T.Store.journals l.pass) l.repo l.txn l.query l.number l.initial.marks.items l.marks.items l.pinned;
  first : l.number ≡ 0 → l.pinned ≡ nothing_pinned;
  later : 0 < l.number → l.number < lookups_of l.query → g.T.Store.holds l.pass l.repo l.txn l.query l.number l.pinned;
  room : vec_len l.marks + (l.count - l.number) ≤ vec_capacity l.marks;
  few : vec_len l.marks ≤ vec_len l.initial.marks + l.number;
}
