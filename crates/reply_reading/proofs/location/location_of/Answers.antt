use Rattle.std.proofs.Common.{◌∙◌, List, ℕ, sym, ap, length, codes}
use Rattle.std.specs.List.{find}
use Rattle.http_frame.specs.Fields.{is_named, values_of}
use Rattle.reply_reading.proofs.LocationLemmas.{none_found, one_found}
use Rattle.reply_reading.proofs.location.location_of.Goals as goal

pub returns-in-None : goal.returns-in-None
returns-in-None c =
    none_found (is_named (codes "location")) c.args.fields.now
    (c.in-None.ensures ∙ ap (find (is_named (codes "location"))) c.as_slice-fields.ensures)

pub returns-in-Some : goal.returns-in-Some
returns-in-Some c =
    let one = sym (ap (λ (fields : List (List ℕ × List ℕ)). length (values_of (codes "location") fields)) c.as_slice-fields.ensures)
    ∙ sym c.count_named.ensures.values ∙ c.if-count_named-ne1.false in
    rw c.as_slice.ensures (one_found (is_named (codes "location")) c.args.fields.now c.in-Some.field.now
    (c.in-Some.ensures ∙ ap (find (is_named (codes "location"))) c.as_slice-fields.ensures) one)
