use Rattle.std.proofs.Common.{◌≡◌, [], ◌∷◌, ◌++◌, ap, ◌∙◌, map, codes}
use Rattle.json.specs.Print.{print}
use Rattle.json.specs.Token.{begin_object}
use Rattle.serde_json.specs.Data.{object}
use Rattle.results_json.specs.Tables.{text_value}
use Rattle.results_json.specs.Columns.{named, columns_from, open_tokens, bound}
use Rattle.results_json.proofs.TokenLemmas.{nested}
use Rattle.results_json.proofs.TableLemmas.{table_written}
use Rattle.results_json.proofs.table.write_rows.Goals as goal

pub returns : goal.returns
returns c =
    let columns = named c.in_ok-columns.columns.entries in
    let empty : c.end_object.new.self.before ≡ [] =
    c.end_object.ensures.room.0 ∙ c.put_results.ensures.before ∙ c.put_head.ensures.before ∙ c.begin_object.ensures.room.0 ∙ c.new-out.ensures.before ∙ c.new.ensures.items in
    c.from_vec.ensures.items ∙ c.into_inner.ensures.items ∙ ap (λ b. b ++ print c.end_object.new.self.tokens) empty
    ∙ table_written c.args.table.now columns c.begin_object.new.self.tokens c.put_head.new.out.tokens c.put_results.new.out.tokens c.end_object.new.self.tokens
    c.as_slice.ensures.distinct
    (c.in_ok-columns.ensures ∙ ap (columns_from 0) c.as_slice.ensures.value)
    (c.in_ok-begin_object.ensures.ok ∙ ap (λ ts. ts ++ begin_object ∷ []) c.new-out.ensures.tokens)
    (c.in_ok-put_head.ensures.tokens
    ∙ ap (λ names. c.begin_object.new.self.tokens ++ open_tokens (nested (codes "head") (codes "vars") (map text_value names))) c.as_slice-2.ensures.value)
    (c.in_ok-put_results.ensures.tokens
    ∙ ap (λ rows. c.put_head.new.out.tokens ++ open_tokens (nested (codes "results") (codes "bindings") (map (λ row. object (bound columns row)) rows))) c.as_slice-3.ensures)
    c.in_ok-end_object.ensures.ok
