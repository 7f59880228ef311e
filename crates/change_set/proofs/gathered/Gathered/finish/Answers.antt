use Rattle.std.proofs.Common.{◌≡◌, List, subst, sym, ap, ◌∙◌}
use Rattle.std.specs.List.{dedup}
use Rattle.std.specs.Ordering.{eq_by_cmp}
use Rattle.std.proofs.lemmas.List.Filters.{dedup_is}
use Rattle.rdf_term.specs.Statement.{Statement}
use Rattle.change_set.specs.declared.change.Change.{Change}
use Rattle.change_set.specs.declared.effect.Mark.{Mark}
use Rattle.change_set.specs.Content.{SameChanges}
use Rattle.change_set.specs.Kept.{changes_of, gathered_of, marked_cmp, IsInOrder}
use Rattle.change_set.proofs.Gathering.{IsInOrder-dedup, SameChanges-finished}
use Rattle.change_set.proofs.gathered.Gathered.finish.Goals as goal

pub new-requires : goal.new-requires
new-requires c =
    subst IsInOrder (sym (dedup_is (eq_by_cmp marked_cmp) c.sort.new.self.items c.dedup.new.self.items c.dedup.ensures.filtered))
    (IsInOrder-dedup c.sort.new.self.items c.in_ok-sort.ensures.sorted)

pub returns : goal.returns
returns c =
    let patterns = c.self.inside.patterns.items in
    let entries = c.self.inside.named.items in
    let once : c.dedup.new.self.items ≡ dedup (eq_by_cmp marked_cmp) c.sort.new.self.items =
    dedup_is (eq_by_cmp marked_cmp) c.sort.new.self.items c.dedup.new.self.items c.dedup.ensures.filtered in
    subst (λ (kept : List Change). SameChanges kept c.args.self) (sym (c.new.ensures ∙ ap (changes_of patterns) once))
    (subst (λ (all : List Change). SameChanges (changes_of patterns (dedup (eq_by_cmp marked_cmp) c.sort.new.self.items)) all) c.self.view_is
    (SameChanges-finished patterns entries c.sort.new.self.items c.sort.ensures.stable c.in_ok-sort.ensures.sorted))
