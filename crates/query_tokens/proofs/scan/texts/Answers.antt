use Rattle.std.proofs.Common.{rules, ◌≡◌, ◌<◌, ◌∷◌, arith, take, Some, None}
use Rattle.std.proofs.lemmas.Bool.Decides.{nat_tests}
use Rattle.std.specs.Str.{chars}
use Rattle.query_tokens.specs.declared.state.State.TheVariants as state
use Rattle.query_tokens.specs.Scanner.{Texts, emit, emitted, next, put}
use Rattle.query_tokens.proofs.TextLemmas.{texts_end, texts_on}
use Rattle.query_tokens.proofs.scan.texts.Goals as goal

pub returns-in_default-next : goal.returns-in_default-next
returns-in_default-next c =
    let first : chars c.loop-to_come.left.now ≡ c.in-Some.c ∷ chars c.in-Some.rest.now = c.in-Some.ensures.first in
    let some : 0 < c.loop-to_come.to_come = c.loop-to_come-test.true in
    let step : next c.loop-to_come.state c.in-Some.c ≡ None = search rules in
    texts_end (record { first = c.loop-to_come.first; second = c.loop-to_come.second }) _ c.loop-to_come.state (chars c.loop-to_come.left.now) (chars c.in-Some.rest.now) c.loop-to_come.to_come
    c.in-Some.c first some step c.loop-to_come.invariant.1

pub loop-to_come-preserved : goal.loop-to_come-preserved
loop-to_come-preserved c =
    let first : chars c.loop-to_come.left.now ≡ c.in-Some.c ∷ chars c.in-Some.rest.now = c.in-Some.ensures.first in
    let some : 0 < c.loop-to_come.to_come = c.loop-to_come-test.true in
    let step : next c.loop-to_come.state c.in-Some.c ≡ Some c.in-Some-next.after = search rules in (
      search rules,
      texts_on (record { first = c.loop-to_come.first; second = c.loop-to_come.second }) _ _ c.loop-to_come.state c.in-Some-next.after (chars c.loop-to_come.left.now)
          (chars c.in-Some.rest.now) c.loop-to_come.to_come c.in-Some.c first some step (search rules) c.loop-to_come.invariant.1,
    )
