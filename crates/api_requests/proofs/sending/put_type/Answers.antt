use Rattle.std.proofs.Common.{◌≡◌, ◌++◌, ◌∷◌, [], OnOk, codes, ℕ, List, ◌∙◌, ap, subst}
use Rattle.api_requests.proofs.sending.put_type.Goals as goal

pub returns : goal.returns
returns c =
    subst (λ (value : List ℕ). OnOk c.put_field.result (c.put_field.new.fields ≡ c.args.fields.now ++ (codes "Content-Type", value) ∷ []))
    (c.as_slice.ensures ∙ ap (λ (seen : List ℕ × List ℕ). seen.0) c.content.view_is) c.put_field.ensures
