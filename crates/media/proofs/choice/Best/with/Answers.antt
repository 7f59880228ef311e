use Rattle.std.proofs.Common.{◌∙◌, ap, sym, arith}
use Rattle.media.specs.Ranges.{rank_of}
use Rattle.media.proofs.RangeLaws.{takes_found, keeps_found}
use Rattle.media.proofs.choice.Best.with.Goals as goal

pub returns-then-rank : goal.returns-then-rank
returns-then-rank c = λ before e.
    let found = sym c.range_of.ensures ∙ c.in-Some.is in
    let t = takes_found c.args.form before _ c.in-Some.range c.args.self found e (omega (arith, c.rank-in-Some.ensures, c.rank.ensures, ap rank_of c.specificity-specificity.ensures)) in
    cc

pub returns-else-rank : goal.returns-else-rank
returns-else-rank c = λ before e.
    let found = sym c.range_of.ensures ∙ c.in-Some.is in
    keeps_found c.args.form before _ c.in-Some.range c.args.self found e (omega (arith, c.rank-in-Some.ensures, c.rank.ensures, ap rank_of c.specificity-specificity.ensures))
