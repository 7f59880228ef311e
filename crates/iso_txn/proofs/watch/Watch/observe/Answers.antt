use Rattle.std.proofs.Common.{◌≡◌, Some, rules, ap, sym, ◌∙◌, map}
use Rattle.std.specs.BTreeMap.{is_at}
use Rattle.std.specs.Map.{lookup}
use Rattle.std.specs.Ordering.{nat_cmp}
use Rattle.std.proofs.lemmas.Map.Steps.{set_value_same}
use Rattle.std.proofs.lemmas.Result.{on_err_weaker}
use Rattle.iso_txn.specs.Watch.{Watch}
use Rattle.iso_txn.proofs.WatchParts.{anyway, changed_by}
use Rattle.iso_txn.proofs.watch.Watch.observe.Goals as goal

pub returns-in_err-patterns-clause-memory : goal.returns-in_err-patterns-clause-memory
returns-in_err-patterns-clause-memory c =
    let s = c.self.inside in
    let before = c.in-Some.observed.now in
    let there : lookup (is_at (nat_cmp c.args.place)) s.readers.entries ≡ Some before = search rules in
    anyway c.from_residual.result _
    (ap (λ rs. let w : Watch = record { readers = rs; changed = map changed_by s.log.kept; trimmed = s.log.trimmed } in w)
    ((c.get_mut.follows.holds before).0 ∙ set_value_same (is_at (nat_cmp c.args.place)) s.readers.entries before there)
    ∙ c.self.view_is)

pub returns-clause-memory : goal.returns-clause-memory
returns-clause-memory c =
    let s = c.self.inside in
    let before = c.in-Some.observed.now in
    let after = c.append.new.self in
    let there : lookup (is_at (nat_cmp c.args.place)) s.readers.entries ≡ Some before = search rules in
    on_err_weaker c.append.result
    (λ same. ap (λ rs. let w : Watch = record { readers = rs; changed = map changed_by s.log.kept; trimmed = s.log.trimmed } in w)
    ((c.get_mut.follows.holds after).0 ∙ set_value_same (is_at (nat_cmp c.args.place)) s.readers.entries after (there ∙ ap Some (sym same)))
    ∙ c.self.view_is)
    c.append.ensures.memory
