use Rattle.std.proofs.Common.{rules, ◌≡◌, sym, subst, take, arith, Some}
use Rattle.std.proofs.lemmas.Grind.{common_steps}
use Rattle.std.specs.Str.{chars}
use Rattle.query_tokens.specs.declared.token.Token.{Token}
use Rattle.query_tokens.specs.declared.state.State.TheVariants as state
use Rattle.query_tokens.specs.Scanner.{longest, emitted, token_of}
use Rattle.query_tokens.specs.Tokens.{IsRead}
use Rattle.query_tokens.proofs.Longest.{is_read, none_first}
use Rattle.query_tokens.proofs.scan.first_token.Goals as goal

pub returns-in-None-clause-first : goal.returns-in-None-clause-first
returns-in-None-clause-first c = none_first (chars c.args.text.now) (search rules)

pub returns-in_ok-token-in-Some-clause-first : goal.returns-in_ok-token-in-Some-clause-first
returns-in_ok-token-in-Some-clause-first c =
    let found : longest state.Start (chars c.args.text.now) ≡ Some (c.in-Some.count, c.in-Some.kind) = search rules in
    let made : c.in_ok-token-in-Some.token ≡ token_of c.in-Some.kind (emitted state.Start (take c.in-Some.count (chars c.args.text.now))) = grind (arith, common_steps) in
    subst (λ (t : Token). IsRead (chars c.args.text.now) t c.in-Some.count) (sym made) (is_read (chars c.args.text.now) (c.in-Some.count, c.in-Some.kind) found)
