use Rattle.std.proofs.Common.{◌≡◌, ◌≤◌, None, Option, Some, arith}
use Rattle.std.specs.Prelude.{slice_index_or}
use Rattle.bgp_eval.proofs.PlaceLemmas.{unbound_again}
use Rattle.bgp_eval.proofs.row.bind_at.Goals as goal

pub returns-in_ok-copy-in-Some-None-clause-back : goal.returns-in_ok-copy-in-Some-None-clause-back
returns-in_ok-copy-in-Some-None-clause-back c =
    let here : c.args.number ≤ c.args.number = omega arith in
    let at = c.in-Some-None.ensures.lookup.4 here None in
    let e : slice_index_or c.args.row.now.items c.args.number None ≡ None = cc (at, c.in-Some-None.field-0-is, c.deref.ensures.value) in
    unbound_again c.args.row.now.items c.args.number (Some c.in_ok-copy-in-Some-None.field-0) e
