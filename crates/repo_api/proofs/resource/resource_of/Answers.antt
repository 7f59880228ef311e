use Rattle.std.proofs.Common.{rules, ◌≡◌, ◌∙◌, sym, ap, Some, None, refl}
use Rattle.std.proofs.lemmas.Option.{same_Some}
use Rattle.repo_api.specs.Paths.{resource_at}
use Rattle.repo_api.specs.Resources.{path_segments, segments_of}
use Rattle.repo_api.proofs.ResourceLemmas.{resource_is, no_resource}
use Rattle.repo_api.proofs.resource.resource_of.Goals as goal

pub returns-in-Some-2 : goal.returns-in-Some-2
returns-in-Some-2 c =
    let path : path_segments c.args.target.now ≡ Some c.in-Some.segments = search rules in
    let found : resource_at c.in-Some.segments ≡ Some c.in-Some-2.resource = search rules in
    path ∙ ap Some (resource_is c.in-Some.segments c.in-Some-2.resource found)

pub returns : goal.returns
returns c = λ never.
    let path : path_segments c.args.target.now ≡ Some c.in-Some.segments = search rules in
    let found : resource_at c.in-Some.segments ≡ None = search rules in
    (λ resource names. no_resource c.in-Some.segments resource found (same_Some c.in-Some.segments (segments_of resource) (sym path ∙ names)), refl)
