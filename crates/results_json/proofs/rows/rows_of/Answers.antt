use Rattle.std.proofs.Common.{[], ◌∷◌, ◌++◌, take, map, sym, subst, arith}
use Rattle.std.specs.Option.{MatchOption}
use Rattle.serde_json.specs.View.{view}
use Rattle.results_json.specs.Tables.{IsRowValue, AreRowValues}
use Rattle.results_json.specs.Reading.{HoldsNoTerm}
use Rattle.results_json.proofs.NameLemmas.{view_more}
use Rattle.results_json.proofs.RowLemmas.{rows_more, bad_at}
use Rattle.results_json.proofs.rows.rows_of.Goals as goal

pub returns-in-None-clause-reading : goal.returns-in-None-clause-reading
returns-in-None-clause-reading c =
    let names = c.args.names.now in
    let d = view c.index-values-number.result in
    let bad : HoldsNoTerm d = subst (λ o. MatchOption o (HoldsNoTerm d) (λ row. IsRowValue names d row)) c.in-None.is c.in_ok-row_of.ensures in
    bad_at names c.args.values.now c.loop-number.number c.index-values-number.result c.loop-number.rows (omega arith) c.index-values-number.is c.requires c.loop-number.invariant bad

pub loop-number-preserved : goal.loop-number-preserved
loop-number-preserved c =
    let names = c.args.names.now in
    let v = c.index-values-number.result in
    let front = take c.loop-number.number (map view c.args.values.now) in
    let is : IsRowValue names (view v) c.in-Some.row = subst (λ o. MatchOption o (HoldsNoTerm (view v)) (λ row. IsRowValue names (view v) row)) c.in-Some.is c.in_ok-row_of.ensures in
    subst (λ ds. AreRowValues names ds c.push.new.self) (sym (view_more c.args.values.now c.loop-number.number v (omega arith) c.index-values-number.is))
    (subst (λ rows. AreRowValues names (front ++ view v ∷ []) rows) (sym c.in_ok-push-in-Some.ensures.ok) (rows_more names front c.loop-number.rows (view v) c.in-Some.row c.loop-number.invariant is))
