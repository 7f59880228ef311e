-- Pieces that are appended one after another.
use Rattle.std.proofs.Common.{◌≡◌, ℕ, List, [], ◌++◌, ◌∙◌, ap, sym, append_assoc, append-nil}
use Rattle.std.specs.Prelude.{OnOk, OnErr}
use Rattle.std.specs.declared.result.Result.{Result}
use Rattle.std.specs.declared.result.Result.TheVariants.{Ok, Err}
use Rattle.rdf_term.specs.Writing.{Appends}

-- one more piece was appended
pub then_appends : {E : Type 0} (r : Result (Unit {0}) E) (old mid new a b whole : List ℕ) → mid ≡ old ++ a → a ++ b ≡ whole
    → Appends r mid new b → Appends r old new whole
then_appends (Ok x) old mid new a b whole e w h = h ∙ ap (λ v. v ++ b) e ∙ append_assoc old a b ∙ ap (λ v. old ++ v) w
then_appends (Err x) old mid new a b whole e w h = (a ++ h.0, h.1 ∙ ap (λ v. v ++ h.0) e ∙ append_assoc old a h.0)

pub appends_of : {E : Type 0} (r : Result (Unit {0}) E) (old new piece : List ℕ) → OnOk r (new ≡ old ++ piece) → OnErr r (new ≡ old)
    → Appends r old new piece
appends_of (Ok x) old new piece ok err = ok
appends_of (Err x) old new piece ok err = ([], err ∙ sym (append-nil old))
