use Rattle.std.proofs.Common.{◌≡◌, ◌++◌, ◌∷◌, [], OnOk, ℕ, List, subst}
use Rattle.api_requests.proofs.sending.put_length.Goals as goal

pub returns : goal.returns
returns c =
    subst (λ (field : List ℕ × List ℕ). OnOk c.push.result (c.push.new.self ≡ c.args.fields.now ++ field ∷ [])) (λ i. (c.in_ok-octets.ensures i, c.in_ok-digits.ensures i)) c.push.ensures.ok
