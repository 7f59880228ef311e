use Rattle.std.proofs.Common.{◌≡◌, ◌∷◌, ◌++◌, ◌∙◌, map, sym, ap, rules}
use Rattle.api_replies.specs.Tables.{context_row}
use Rattle.reply_reading.proofs.ListLemmas.{no_images}
use Rattle.reply_reading.proofs.lists.contexts_in.Goals as goal

pub returns-in-None-context_of : goal.returns-in-None-context_of
returns-in-None-context_of c = λ names e.
    let cut : c.loop-row.row-iterator.rest.items ≡ c.in-Some.row ∷ c.next.new.self.rest.items = search rules in
    no_images context_row c.loop-row.names c.in-Some.row c.next.new.self.rest.items names
    (ap (λ items. map context_row c.loop-row.names ++ items) (sym cut) ∙ c.loop-row.invariant ∙ e) c.in-None-context_of.ensures
