use Rattle.std.proofs.Common.{rules, ◌≡◌, ◌<◌, ◌+◌, ◌&&◌, ◌∷◌, ◌∙◌, sym, ap, subst, true, ℕ, arith, length, Some, None}
use Rattle.std.proofs.lemmas.Grind.{common_steps}
use Rattle.std.proofs.lemmas.Bool.Decides.{nat_tests}
use Rattle.std.specs.Str.{chars}
use Rattle.query_tokens.specs.Scanner.{next, is_prefix, IsSearched}
use Rattle.query_tokens.proofs.Best.{one_more}
use Rattle.query_tokens.proofs.FrontLemmas.{at_front}
use Rattle.query_tokens.proofs.PlaceLemmas.{text_chars}
use Rattle.query_tokens.proofs.Prefixes.{Going, at_end, go_on, known, stops}
use Rattle.query_tokens.proofs.scan.longest.Goals as goal

pub overflow_add-i : goal.overflow_add-i
overflow_add-i c =
    let first : chars c.loop-c.left.now ≡ c.in-Some.c ∷ chars c.in-Some.rest.now = c.in-Some.ensures.first in
    let long = ap length first in
    let left = c.loop-c.invariant.2 in
    let most = text_chars c.args.text.now c.utf8.text in
    omega arith

pub overflow_add-i-in-Some-next : goal.overflow_add-i-in-Some-next
overflow_add-i-in-Some-next c =
    let first : chars c.loop-c.left.now ≡ c.in-Some.c ∷ chars c.in-Some.rest.now = c.in-Some.ensures.first in
    let long = ap length first in
    let left = c.loop-c.invariant.2 in
    let most = text_chars c.args.text.now c.utf8.text in
    omega arith

pub overflow_add-i-in-Some-next-2 : goal.overflow_add-i-in-Some-next-2
overflow_add-i-in-Some-next-2 c =
    let first : chars c.loop-c.left.now ≡ c.in-Some.c ∷ chars c.in-Some.rest.now = c.in-Some.ensures.first in
    let long = ap length first in
    let left = c.loop-c.invariant.2 in
    let most = text_chars c.args.text.now c.utf8.text in
    omega arith

pub returns-then-is_prefix-i-clause-found : goal.returns-then-is_prefix-i-clause-found
returns-then-is_prefix-i-clause-found c =
    let first : chars c.loop-c.left.now ≡ c.in-Some.c ∷ chars c.in-Some.rest.now = c.in-Some.ensures.first in
    let at = at_front (chars c.args.text.now) (chars c.loop-c.left.now) c.loop-c.i c.in-Some.c (chars c.in-Some.rest.now) c.loop-c.invariant.1 first in
    let step : next c.loop-c.state c.in-Some.c ≡ Some c.in-Some-next.after = search rules in
    let prefix : is_prefix c.in-Some-next.after ≡ true = grind (arith, common_steps) in
    let less : c.loop-c.i + 1 < c.args.searched = grind (arith, nat_tests) in
    sym (c.loop-c.invariant.3 ∙ known (chars c.args.text.now) c.loop-c.i c.in-Some.c c.args.searched c.loop-c.state c.in-Some-next.after c.loop-c.best
    at.0 at.1 step prefix less c.requires)

pub loop-c-preserved : goal.loop-c-preserved
loop-c-preserved c =
    let first : chars c.loop-c.left.now ≡ c.in-Some.c ∷ chars c.in-Some.rest.now = c.in-Some.ensures.first in
    let long = ap length first in
    let left = c.loop-c.invariant.2 in
    let at = at_front (chars c.args.text.now) (chars c.loop-c.left.now) c.loop-c.i c.in-Some.c (chars c.in-Some.rest.now) c.loop-c.invariant.1 first in
    let step : next c.loop-c.state c.in-Some.c ≡ Some c.in-Some-next.after = search rules in (
      search rules,
      at.2,
      omega arith,
      one_more (chars c.args.text.now) c.loop-c.best c.better-best.result c.loop-c.i c.loop-c.state c.in-Some-next.after c.in-Some.c _ at.0 at.1 step (search rules)
          c.loop-c.invariant.3,
      subst (λ b. Going (chars c.args.text.now) (c.loop-c.i + 1) (c.loop-c.named && b) c.in-Some-next.after) (sym c.is_named-named.ensures)
          (go_on (chars c.args.text.now) c.loop-c.i c.in-Some.c c.loop-c.named c.loop-c.state c.in-Some-next.after at.0 at.1 step c.loop-c.invariant.4),
    )
