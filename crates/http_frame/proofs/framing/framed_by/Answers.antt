use Rattle.std.proofs.Common.{◌≡◌, ◌∙◌, ◌<◌, List, ℕ, [], ◌∷◌, length, false, sym, ap, refl, arith, codes}
use Rattle.http_frame.specs.Fields.{values_of}
use Rattle.http_frame.specs.Framing.{framed_by, coded}
use Rattle.http_frame.proofs.framing.framed_by.Goals as goal

more_codings : (most minor : ℕ) (values lengths : List (List ℕ)) → 1 < length values → coded minor lengths false ≡ framed_by most minor values lengths
more_codings most minor [] lengths h = absurd (omega arith)
more_codings most minor (c ∷ []) lengths h = absurd (omega arith)
more_codings most minor (c ∷ d ∷ cs) lengths h = refl

pub returns-in-None-clause-framing : goal.returns-in-None-clause-framing
returns-in-None-clause-framing c =
    c.length_of.ensures.framing
    ∙ sym (ap (λ (vs : List (List ℕ)). framed_by c.args.most c.args.minor vs (values_of (codes "content-length") c.args.fields.now)) c.in-None.ensures)

pub returns-in-One-clause-framing : goal.returns-in-One-clause-framing
returns-in-One-clause-framing c =
    c.coded.ensures.framing
    ∙ ap (λ b. coded c.args.minor (values_of (codes "content-length") c.args.fields.now) b) c.is_chunked.ensures
    ∙ sym (ap (λ (vs : List (List ℕ)). framed_by c.args.most c.args.minor vs (values_of (codes "content-length") c.args.fields.now)) c.in-One.ensures)

pub returns-in-More-clause-framing : goal.returns-in-More-clause-framing
returns-in-More-clause-framing c =
    c.coded-in-More.ensures.framing
    ∙ more_codings c.args.most c.args.minor (values_of (codes "transfer-encoding") c.args.fields.now) (values_of (codes "content-length") c.args.fields.now) c.in-More.ensures
