use Rattle.std.proofs.Common.{◌≡◌, sym, ap, subst, length, Option, Some}
use Rattle.std.specs.Str.{chars}
use Rattle.std.proofs.lemmas.Str.{encodes-chars}
use Rattle.query_tokens.specs.declared.token.Placed.{Placed}
use Rattle.query_tokens.specs.Tokens.{IsFirstOf, byte_count}
use Rattle.query_grammar.specs.declared.mode.Mode.TheVariants.{Head}
use Rattle.query_grammar.specs.declared.built.Built.{Built}
use Rattle.query_grammar.proofs.ReadingLaws.{Reads, at_start, goes_on, stops}
use Rattle.query_grammar.proofs.reader.run.Goals as goal

pub loop-built-init : goal.loop-built-init
loop-built-init c =
    let size : length c.args.text.now ≡ byte_count (chars c.args.text.now) = sym (ap length (encodes-chars c.args.text.now c.utf8.text)) in
    subst (λ (b : Built). Reads c.args.text.now c.new-tokens.result Head b) (sym c.new-built.ensures)
    (at_start c.one_token_list.ensures c.args.text.now c.new-tokens.result size c.new-tokens.ensures)

pub returns-in-Err : goal.returns-in-Err
returns-in-Err c = λ ps are.
    (let first : IsFirstOf c.loop-built.tokens (Some c.in-Some.placed) c.next.new.self =
    subst (λ (o : Option Placed). IsFirstOf c.loop-built.tokens o c.next.new.self) c.in-Some.is c.in_ok-placed.ensures.first in
    stops c.each_has_tokens.ensures c.args.text.now c.loop-built.tokens c.next.new.self c.loop-built.mode c.loop-built.built c.step.new.built c.in-Some.placed c.in-Err.stop
    c.loop-built.invariant first c.in-Err.ensures ps are)

pub loop-built-preserved : goal.loop-built-preserved
loop-built-preserved c =
    let first : IsFirstOf c.loop-built.tokens (Some c.in-Some.placed) c.next.new.self =
    subst (λ (o : Option Placed). IsFirstOf c.loop-built.tokens o c.next.new.self) c.in-Some.is c.in_ok-placed.ensures.first in
    goes_on c.args.text.now c.loop-built.tokens c.next.new.self c.loop-built.mode c.in-Ok.after c.loop-built.built c.step.new.built c.in-Some.placed c.loop-built.invariant first c.in-Ok.ensures
