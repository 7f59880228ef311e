use Rattle.std.proofs.Common.{◌≡◌, ◌≤◌, ◌<◌, Bool, ◌&&◌, true, false, refl, List, Some, length, nat_le, sym, ap, ◌∙◌, arith, rules, subst}
use Rattle.std.proofs.lemmas.Bool.Decides.{nat_tests}
use Rattle.std.specs.Arc.{arc_value}
use Rattle.rdf_term.specs.Statement.{Statement}
use Rattle.change_set.specs.Content.{applied, named_quads}
use Rattle.change_set.proofs.Contents.{sorted-applied}
use Rattle.branch.proofs.DeltaLemmas.{applied-delta}
use Rattle.journal.specs.Replies.{bytes_of, within}
use Rattle.iso_txn.specs.Sizes.{IsSized}
use Rattle.iso_txn.proofs.SizeLemmas.{removed_quads_le, removed_bytes_le, quads_are, bytes_are}
use Rattle.iso_txn.specs.Kept.{changed_within}
use Rattle.iso_txn.proofs.StateLemmas.{changed_fit, changed_is, changed_over}
use Rattle.iso_txn.proofs.content.Content.push_within.Goals as goal
use Rattle.iso_txn.proofs.content.Content.push_within.Goals.{then-quads-limits-via-then-quads-limits, then-quads-limits-via-else-quads-limits+then-bytes-limits}

and_false : (a : Bool) → (a && false) ≡ false
and_false true = refl
and_false false = refl

pub quads_after-quads-requires : goal.quads_after-quads-requires
quads_after-quads-requires c =
    let le = removed_quads_le c.self.inside.branch.quads _ c.in_ok-delta.delta c.in_ok-delta.ensures in
    let is = c.self.invariant.quads_are in
    omega (arith, le, is)

pub bytes_after-bytes-requires : goal.bytes_after-bytes-requires
bytes_after-bytes-requires c =
    let le = removed_bytes_le c.self.inside.branch.quads _ c.in_ok-delta.delta c.in_ok-delta.ensures in
    let is = c.self.invariant.bytes_are in
    omega (arith, le, is)

pub returns-clause-content : goal.returns-clause-content
returns-clause-content c =
    let old = c.self.inside.branch.quads in
    let new = applied old c.args.set.now in
    let shared : c.in_ok-shared.shared.value ≡ c.in_ok-set.set = search rules in
    c.in_ok-push_shared.ensures.quads
    ∙ (ap (applied old) shared
    ∙ (applied-delta old new c.in_ok-delta.delta c.in_ok-set.set (sorted-applied old c.args.set.now) c.in_ok-delta.ensures c.in_ok-set.ensures
    ∙ ap (λ (qs : List Statement). applied qs c.args.set.now) c.self.view_is))

pub returns-clause-fits : goal.returns-clause-fits
returns-clause-fits c =
    let old = c.self.inside.branch.quads in
    let new = applied old c.args.set.now in
    let q = c.quads_after-quads.ensures ∙ quads_are old new c.in_ok-delta.delta c.self.inside.quads c.self.invariant.ascending (sorted-applied old c.args.set.now) c.in_ok-delta.ensures c.self.invariant.quads_are in
    let b = c.bytes_after-bytes.ensures ∙ bytes_are old new c.in_ok-delta.delta c.self.inside.bytes c.self.invariant.ascending (sorted-applied old c.args.set.now) c.in_ok-delta.ensures c.self.invariant.bytes_are in
    let few : length new ≤ c.args.limits.now.quads = omega (arith, q) in
    let small : bytes_of new ≤ c.args.limits.now.bytes = omega (arith, b) in
    let one : nat_le (length new) c.args.limits.now.quads ≡ true = grind (arith, nat_tests) in
    let two : nat_le (bytes_of new) c.args.limits.now.bytes ≡ true = grind (arith, nat_tests) in
    sym (λ i. one i && two i) ∙ ap (λ (qs : List Statement). within c.args.limits.now (applied qs c.args.set.now)) c.self.view_is

pub invariant_of-self-2 : goal.invariant_of-self-2
invariant_of-self-2 c =
    let old = c.self.inside.branch.quads in
    let new = applied old c.args.set.now in
    let q = c.quads_after-quads.ensures ∙ quads_are old new c.in_ok-delta.delta c.self.inside.quads c.self.invariant.ascending (sorted-applied old c.args.set.now) c.in_ok-delta.ensures c.self.invariant.quads_are in
    let b = c.bytes_after-bytes.ensures ∙ bytes_are old new c.in_ok-delta.delta c.self.inside.bytes c.self.invariant.ascending (sorted-applied old c.args.set.now) c.in_ok-delta.ensures c.self.invariant.bytes_are in
    let shared : c.in_ok-shared.shared.value ≡ c.in_ok-set.set = search rules in
    let is = c.in_ok-push_shared.ensures.quads ∙ (ap (applied old) shared ∙ applied-delta old new c.in_ok-delta.delta c.in_ok-set.set (sorted-applied old c.args.set.now) c.in_ok-delta.ensures c.in_ok-set.ensures) in
    let sized : IsSized new c.quads_after-quads.result c.bytes_after-bytes.result = record {
      ascending = sorted-applied old c.args.set.now;
      quads_are = omega (arith, q);
      bytes_are = omega (arith, b);
      few_quads = omega (arith, q);
      few_bytes = omega (arith, b);
    } in
    subst (λ (qs : List Statement). IsSized qs c.quads_after-quads.result c.bytes_after-bytes.result) (sym is) sized

pub returns-then-quads-limits-clause-fits : goal.returns-then-quads-limits-clause-fits
returns-then-quads-limits-clause-fits c =
    let old = c.self.inside.branch.quads in
    let new = applied old c.args.set.now in
    let q = c.quads_after-quads.ensures ∙ quads_are old new c.in_ok-delta.delta c.self.inside.quads c.self.invariant.ascending (sorted-applied old c.args.set.now) c.in_ok-delta.ensures c.self.invariant.quads_are in
    let b = c.bytes_after-bytes.ensures ∙ bytes_are old new c.in_ok-delta.delta c.self.inside.bytes c.self.invariant.ascending (sorted-applied old c.args.set.now) c.in_ok-delta.ensures c.self.invariant.bytes_are in
    let view = ap (λ (qs : List Statement). within c.args.limits.now (applied qs c.args.set.now)) c.self.view_is in
    elim c.then-quads-limits.branch [
      | then-quads-limits-via-then-quads-limits w ↦ (
          let over : c.args.limits.now.quads < length new = omega (arith, q, w.if-quads-limits.true) in
          let one : nat_le (length new) c.args.limits.now.quads ≡ false = grind (arith, nat_tests) in
          sym (ap (λ t. t && nat_le (bytes_of new) c.args.limits.now.bytes) one) ∙ view)
      | then-quads-limits-via-else-quads-limits+then-bytes-limits w ↦ (
          let over : c.args.limits.now.bytes < bytes_of new = omega (arith, b, w.if-bytes-limits.true) in
          let two : nat_le (bytes_of new) c.args.limits.now.bytes ≡ false = grind (arith, nat_tests) in
          sym (ap (λ t. nat_le (length new) c.args.limits.now.quads && t) two ∙ and_false (nat_le (length new) c.args.limits.now.quads)) ∙ view)
    ]

pub returns-clause-delta : goal.returns-clause-delta
returns-clause-delta c =
    let old = c.self.inside.branch.quads in
    let new = applied old c.args.set.now in
    let q = c.quads_after-quads.ensures ∙ quads_are old new c.in_ok-delta.delta c.self.inside.quads c.self.invariant.ascending (sorted-applied old c.args.set.now) c.in_ok-delta.ensures c.self.invariant.quads_are in
    let b = c.bytes_after-bytes.ensures ∙ bytes_are old new c.in_ok-delta.delta c.self.inside.bytes c.self.invariant.ascending (sorted-applied old c.args.set.now) c.in_ok-delta.ensures c.self.invariant.bytes_are in
    let few : length new ≤ c.args.limits.now.quads = omega (arith, q) in
    let small : bytes_of new ≤ c.args.limits.now.bytes = omega (arith, b) in
    let one : nat_le (length new) c.args.limits.now.quads ≡ true = grind (arith, nat_tests) in
    let two : nat_le (bytes_of new) c.args.limits.now.bytes ≡ true = grind (arith, nat_tests) in
    let value : arc_value c.in_ok-changes.changes ≡ c.in_ok-set.set = search rules in
    ap (λ v. Some (named_quads v)) value
    ∙ (ap Some (changed_is old new c.in_ok-delta.delta c.in_ok-set.set c.in_ok-delta.ensures c.in_ok-set.ensures)
    ∙ (changed_fit c.args.limits.now old c.args.set.now (λ i. one i && two i)
    ∙ ap (λ qs. changed_within c.args.limits.now qs c.args.set.now) c.self.view_is))

pub returns-then-quads-limits-clause-delta : goal.returns-then-quads-limits-clause-delta
returns-then-quads-limits-clause-delta c =
    let old = c.self.inside.branch.quads in
    let new = applied old c.args.set.now in
    let q = c.quads_after-quads.ensures ∙ quads_are old new c.in_ok-delta.delta c.self.inside.quads c.self.invariant.ascending (sorted-applied old c.args.set.now) c.in_ok-delta.ensures c.self.invariant.quads_are in
    let b = c.bytes_after-bytes.ensures ∙ bytes_are old new c.in_ok-delta.delta c.self.inside.bytes c.self.invariant.ascending (sorted-applied old c.args.set.now) c.in_ok-delta.ensures c.self.invariant.bytes_are in
    let view = ap (λ qs. changed_within c.args.limits.now qs c.args.set.now) c.self.view_is in
    elim c.then-quads-limits.branch [
      | then-quads-limits-via-then-quads-limits w ↦ (
          let over : c.args.limits.now.quads < length new = omega (arith, q, w.if-quads-limits.true) in
          let one : nat_le (length new) c.args.limits.now.quads ≡ false = grind (arith, nat_tests) in
          changed_over c.args.limits.now old c.args.set.now (ap (λ t. t && nat_le (bytes_of new) c.args.limits.now.bytes) one) ∙ view)
      | then-quads-limits-via-else-quads-limits+then-bytes-limits w ↦ (
          let over : c.args.limits.now.bytes < bytes_of new = omega (arith, b, w.if-bytes-limits.true) in
          let two : nat_le (bytes_of new) c.args.limits.now.bytes ≡ false = grind (arith, nat_tests) in
          changed_over c.args.limits.now old c.args.set.now (ap (λ t. nat_le (length new) c.args.limits.now.quads && t) two ∙ and_false (nat_le (length new) c.args.limits.now.quads)) ∙ view)
    ]
