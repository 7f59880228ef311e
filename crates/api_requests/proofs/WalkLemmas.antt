-- Steps of the walk through added statements.
use Rattle.std.proofs.Common.{◌≡◌, List, ◌∷◌, Bool, true, false, ◌&&◌, Option, Some, None, refl, sym, ap, ◌∙◌}
use Rattle.std.proofs.lemmas.Option.{same_Some}
use Rattle.rdf_term.specs.Statement.{Statement}
use Rattle.change_set.specs.declared.change.Change.{Change}
use Rattle.change_set.specs.declared.change.Change.TheVariants.{Add, Remove, RemoveMatching}
use Rattle.api_requests.specs.Tests.{is_writable, added, fits, left_after, current_after, walks}

pub walk_stops : (front left : List Change) (current : Option Statement) (change : Change) (rest : List Change) → None ≡ added change → walks front left current (change ∷ rest) ≡ false
walk_stops front left current (Add q) rest e = cc
walk_stops front left current (Remove q) rest e = refl
walk_stops front left current (RemoveMatching p) rest e = refl

pub walk_steps : (front left : List Change) (current : Option Statement) (change : Change) (rest : List Change) (q : Statement) → Some q ≡ added change
    → walks front left current (change ∷ rest) ≡ (is_writable q && (fits front left current q && walks front (left_after front left) (current_after left current q) rest))
walk_steps front left current (Add other) rest q e =
    let same : other ≡ q = sym (same_Some q other e) in
    ap (λ (s : Statement). is_writable s && (fits front left current s && walks front (left_after front left) (current_after left current s) rest)) same
walk_steps front left current (Remove other) rest q e = cc
walk_steps front left current (RemoveMatching p) rest q e = cc

both_hold : (a b d : Bool) → a ≡ true → b ≡ true → (a && (b && d)) ≡ d
both_hold true true d e f = refl
both_hold true false d e f = cc
both_hold false b d e f = cc

first_fails : (a b d : Bool) → a ≡ false → (a && (b && d)) ≡ false
first_fails true b d e = cc
first_fails false b d e = refl

second_fails : (a b d : Bool) → b ≡ false → (a && (b && d)) ≡ false
second_fails true true d e = cc
second_fails true false d e = refl
second_fails false b d e = refl

pub walk_goes : (front left : List Change) (current : Option Statement) (change : Change) (rest : List Change) (q : Statement) → Some q ≡ added change → is_writable q ≡ true
    → fits front left current q ≡ true → walks front left current (change ∷ rest) ≡ walks front (left_after front left) (current_after left current q) rest
walk_goes front left current change rest q e w f = walk_steps front left current change rest q e ∙ both_hold (is_writable q) (fits front left current q) _ w f

pub walk_unwritable : (front left : List Change) (current : Option Statement) (change : Change) (rest : List Change) (q : Statement) → Some q ≡ added change → is_writable q ≡ false
    → walks front left current (change ∷ rest) ≡ false
walk_unwritable front left current change rest q e w = walk_steps front left current change rest q e ∙ first_fails (is_writable q) (fits front left current q) _ w

pub walk_unfit : (front left : List Change) (current : Option Statement) (change : Change) (rest : List Change) (q : Statement) → Some q ≡ added change → fits front left current q ≡ false
    → walks front left current (change ∷ rest) ≡ false
walk_unfit front left current change rest q e w = walk_steps front left current change rest q e ∙ second_fails (is_writable q) (fits front left current q) _ w
