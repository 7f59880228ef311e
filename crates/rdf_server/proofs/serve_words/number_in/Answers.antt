use Rattle.std.proofs.Common.{◌≡◌, Ok, sym, ap, ◌∙◌, decimal, arith}
use Rattle.std.proofs.lemmas.Fmt.{parse-decimal}
use Rattle.rdf_server.proofs.ServeLemmas.{differ}
use Rattle.rdf_server.proofs.serve_words.number_in.Goals as goal

pub returns-in_default-clause-none : goal.returns-in_default-clause-none
returns-in_default-clause-none c = λ n few e.
    let r : c.parse.result ≡ Ok n = parse-decimal 64 n c.args.text.now c.parse.result (omega arith) (omega arith) e c.parse.ensures.value.0 in
    cc

pub returns-else-eq-clause-none : goal.returns-else-eq-clause-none
returns-else-eq-clause-none c = λ n few e.
    let r : c.parse.result ≡ Ok n = parse-decimal 64 n c.args.text.now c.parse.result (omega arith) (omega arith) e c.parse.ensures.value.0 in
    let same : c.in-Ok.number ≡ n = cc in
    differ c.format.result.now c.args.text.now c.if-eq.ensures (c.format.ensures.text ∙ ap decimal same ∙ sym e)
