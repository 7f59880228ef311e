use Rattle.std.proofs.Common.{List, ◌++◌, map, subst, sym, ap, ◌∙◌, append_assoc}
use Rattle.rdf_term.specs.declared.pattern.Pattern.{Pattern}
use Rattle.change_set.specs.declared.change.Change.{Change}
use Rattle.change_set.specs.declared.change.Change.TheVariants.{RemoveMatching}
use Rattle.change_set.specs.Content.{SameChanges}
use Rattle.change_set.specs.Deltas.{removed_patterns}
use Rattle.change_set.specs.Kept.{marked_entry}
use Rattle.change_set.proofs.Effects.{SameChanges-refl, SameChanges-trans, SameChanges-append}
use Rattle.change_set.proofs.gathered.Gathered.add_kept.Goals as goal

pub returns : goal.returns
returns c =
    let old = c.args.self.now in
    let entries = map marked_entry c.named.result.now in
    let patterns = map RemoveMatching c.patterns.result.now in
    let whole = map RemoveMatching (removed_patterns c.args.kept.now) ++ (entries ++ old) in
    subst (λ (all : List Change). SameChanges c.add_patterns.new.self all)
    (ap (λ (ps : List Pattern). map RemoveMatching ps ++ (entries ++ old)) c.patterns.ensures
    ∙ sym (append_assoc (map RemoveMatching (removed_patterns c.args.kept.now)) entries old)
    ∙ ap (λ kept. kept ++ old) c.named.ensures.changes)
    (SameChanges-trans c.add_patterns.new.self (patterns ++ c.add_entries.new.self) (patterns ++ (entries ++ old)) c.in_ok-add_patterns.ensures
    (SameChanges-append patterns patterns c.add_entries.new.self (entries ++ old) (SameChanges-refl patterns) c.in_ok-add_entries.ensures))
