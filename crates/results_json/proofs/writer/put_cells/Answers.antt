use Rattle.std.proofs.Common.{◌≡◌, ◌++◌, ◌∷◌, ap, sym, ◌∙◌, append_assoc, slice_get}
use Rattle.results_json.specs.Columns.{open_tokens, bound, bound_cell, named}
use Rattle.serde_json.specs.Data.{no_members}
use Rattle.results_json.proofs.TokenLemmas.{cell_first}
use Rattle.results_json.proofs.writer.put_cells.Goals as goal

pub loop-name-preserved : goal.loop-name-preserved
loop-name-preserved c =
    let l = c.loop-name in
    let k = c.in-Some.name.now.now in
    let row = c.args.row.now in
    let left = bound (named c.next.new.self) row in
    let cell = slice_get row c.in-Some.place.now in
    let step : l.name-iterator ≡ (c.in-Some.name.now, c.in-Some.place.now) ∷ c.next.new.self = c.in-Some.ensures.steps in
    let so_far : c.put_cell.new.out.tokens ++ open_tokens left ≡ c.loop-name.out.tokens ++ open_tokens (bound (named l.name-iterator) row) =
    ap (λ ts. ts ++ open_tokens left) (c.in_ok-put_cell.ensures.tokens ∙ ap (λ o. l.out.tokens ++ open_tokens (bound_cell k o no_members)) c.at.ensures)
    ∙ append_assoc l.out.tokens (open_tokens (bound_cell k cell no_members)) (open_tokens left)
    ∙ ap (λ ts. l.out.tokens ++ ts) (sym (cell_first k cell left) ∙ ap (λ es. open_tokens (bound (named es) row)) (sym step))
    in (c.put_cell.ensures.before ∙ l.invariant.0, so_far ∙ l.invariant.1)
