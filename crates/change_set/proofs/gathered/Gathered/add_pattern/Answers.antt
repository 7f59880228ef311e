use Rattle.std.proofs.Common.{◌≡◌, true, List, [], ◌∷◌, ◌++◌, subst, sym, ap, ◌∙◌}
use Rattle.std.specs.List.{list_any}
use Rattle.rdf_term.specs.declared.pattern.Pattern.{Pattern}
use Rattle.change_set.specs.declared.change.Change.{Change}
use Rattle.change_set.specs.declared.change.Change.TheVariants.{RemoveMatching}
use Rattle.change_set.specs.Content.{SameChanges}
use Rattle.change_set.specs.Cover.{covers}
use Rattle.change_set.specs.Kept.{gathered_of}
use Rattle.change_set.proofs.Covers.{matched-covered}
use Rattle.change_set.proofs.Gathering.{SameChanges-older_pattern, SameChanges-covered}
use Rattle.change_set.proofs.gathered.Gathered.add_pattern.Goals as goal

pub returns-then-is_covered : goal.returns-then-is_covered
returns-then-is_covered c =
    let patterns = c.self.inside.patterns.items in
    let entries = c.self.inside.named.items in
    let pattern = c.args.pattern.now in
    let covered : list_any (λ p. covers p pattern) patterns ≡ true =
    sym (c.is_covered.ensures ∙ ap (list_any (λ p. covers p pattern)) c.as_slice.ensures.value) ∙ c.if-is_covered.true in
    subst (λ (old : List Change). SameChanges old (RemoveMatching pattern ∷ old)) c.self.view_is
    (SameChanges-covered patterns entries pattern (matched-covered patterns pattern covered))

pub returns : goal.returns
returns c =
    let patterns = c.self.inside.patterns.items in
    let entries = c.self.inside.named.items in
    let pattern = c.args.pattern.now in
    let more : c.push.new.self.items ≡ patterns ++ pattern ∷ [] =
    c.in_ok-push.ensures.items ∙ ap (λ p. patterns ++ p ∷ []) c.in_ok-copy.ensures in
    subst (λ (ps : List Pattern). SameChanges (gathered_of ps entries) (RemoveMatching pattern ∷ c.args.self.now)) (sym more)
    (subst (λ (old : List Change). SameChanges (gathered_of (patterns ++ pattern ∷ []) entries) (RemoveMatching pattern ∷ old)) c.self.view_is
    (SameChanges-older_pattern patterns entries pattern))
