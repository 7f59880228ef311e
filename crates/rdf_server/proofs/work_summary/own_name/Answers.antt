use Rattle.std.proofs.Common.{◌≡◌, ◌∙◌, ◌++◌, ap, codes, decimal, ℕ, List}
use Rattle.std.specs.Str.{chars}
use Rattle.std.proofs.lemmas.Str.{chars-IsAscii}
use Rattle.rdf_server.proofs.work_summary.own_name.Goals as goal

pub returns : goal.returns
returns c =
    let digits : chars c.format.result.now ≡ decimal c.args.worker = chars-IsAscii c.format.result.now c.format.ensures.ascii ∙ c.format.ensures.text in
    c.in_ok-append.ensures.ok ∙ ap (λ (t : List ℕ). t ++ chars c.format.result.now) c.in_ok-name.ensures ∙ ap (λ (t : List ℕ). codes "w" ++ t) digits
