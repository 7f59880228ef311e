use Rattle.std.proofs.Common.{◌≡◌, ◌∷◌, ◌++◌, ◌∙◌, map, sym, ap, rules}
use Rattle.api_replies.specs.Tables.{namespace_row}
use Rattle.reply_reading.proofs.ListLemmas.{no_images}
use Rattle.reply_reading.proofs.lists.pairs_in.Goals as goal

pub returns-in-None-pair_of : goal.returns-in-None-pair_of
returns-in-None-pair_of c = λ pairs e.
    let cut : c.loop-row.row-iterator.rest.items ≡ c.in-Some.row ∷ c.next.new.self.rest.items = search rules in
    no_images namespace_row c.loop-row.pairs c.in-Some.row c.next.new.self.rest.items pairs
    (ap (λ items. map namespace_row c.loop-row.pairs ++ items) (sym cut) ∙ c.loop-row.invariant ∙ e) c.in-None-pair_of.ensures
