use Rattle.std.proofs.Common.{◌≡◌, [], ◌∷◌, ◌++◌, ◌+◌, take, sym, ap, subst, ◌∙◌, arith, encode_utf8_all}
use Rattle.std.specs.Option.{MatchOption}
use Rattle.std.proofs.lemmas.List.{take_more}
use Rattle.serde_json.specs.Find.{get}
use Rattle.serde_json.specs.View.{view}
use Rattle.results_json.specs.Tables.{IsCell, IsRowValue}
use Rattle.results_json.specs.Reading.{HoldsNoTerm}
use Rattle.results_json.proofs.RowLemmas.{row_more}
use Rattle.results_json.proofs.rows.row_of.Goals as goal

pub loop-name-preserved : goal.loop-name-preserved
loop-name-preserved c =
    let d = view c.args.value.now in
    let names = c.args.names.now in
    let i = c.loop-name.name-index in
    let n = c.name-item.result in
    let cell = c.in-Some.cell in
    let here : take (i + 1) names ≡ take i names ++ n ∷ [] = take_more names i n (omega arith) ∙ ap (λ m. take i names ++ m ∷ []) (sym c.name-item.is) in
    let is : IsCell (get (encode_utf8_all n) d) cell = subst (λ o. MatchOption o (HoldsNoTerm d) (λ found. IsCell (get (encode_utf8_all n) d) found)) c.in-Some.is c.in_ok-cell.ensures in
    subst (λ ns. IsRowValue ns d c.push.new.self) (sym here)
    (subst (λ r. IsRowValue (take i names ++ n ∷ []) d r) (sym c.in_ok-push.ensures.ok) (row_more (take i names) d c.loop-name.row n cell c.loop-name.invariant is))
