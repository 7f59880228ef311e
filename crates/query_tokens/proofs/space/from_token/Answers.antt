use Rattle.std.proofs.Common.{rules, ◌≡◌, ◌∙◌, ◌∷◌, sym, ap, arith, length, Some, None}
use Rattle.std.specs.Str.{chars}
use Rattle.query_tokens.specs.Scanner.{in_space}
use Rattle.query_tokens.specs.Tokens.{behind_space}
use Rattle.query_tokens.proofs.FrontLemmas.{at_front}
use Rattle.query_tokens.proofs.PlaceLemmas.{text_chars}
use Rattle.query_tokens.proofs.SpaceLemmas.{space_on, space_ends}
use Rattle.query_tokens.proofs.space.from_token.Goals as goal

pub overflow_add-count : goal.overflow_add-count
overflow_add-count c =
    let first : chars c.loop-c.left.now ≡ c.in-Some.c ∷ chars c.in-Some.rest.now = c.in-Some.ensures.first in
    let long = ap length first in
    let left = c.loop-c.invariant.3 in
    let most = text_chars c.args.text.now c.utf8.text in
    omega arith

pub loop-c-preserved : goal.loop-c-preserved
loop-c-preserved c =
    let first : chars c.loop-c.left.now ≡ c.in-Some.c ∷ chars c.in-Some.rest.now = c.in-Some.ensures.first in
    let long = ap length first in
    let left = c.loop-c.invariant.3 in
    let at = at_front (chars c.args.text.now) (chars c.loop-c.left.now) c.loop-c.count c.in-Some.c (chars c.in-Some.rest.now) c.loop-c.invariant.2 first in
    let step : in_space c.loop-c.in_comment c.in-Some.c ≡ Some c.in-Some-in_space.goes_on = search rules in (
      search rules,
      sym (space_on c.loop-c.in_comment c.in-Some.c (chars c.in-Some.rest.now) c.in-Some-in_space.goes_on step) ∙ ap (behind_space c.loop-c.in_comment) (sym first) ∙ c.loop-c.invariant.1,
      at.2,
      omega arith,
    )
