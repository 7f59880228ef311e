use Rattle.std.proofs.Common.{◌≡◌, List, [], ◌∷◌, ◌++◌, subst, sym, ap, ◌∙◌, cond}
use Rattle.std.specs.List.{list_any}
use Rattle.rdf_term.specs.Statement.{Statement}
use Rattle.rdf_term.specs.Matching.{matches}
use Rattle.change_set.specs.declared.effect.Mark.{Mark}
use Rattle.change_set.specs.declared.effect.Mark.TheVariants as mark
use Rattle.change_set.specs.declared.change.Change.{Change}
use Rattle.change_set.specs.Content.{SameChanges}
use Rattle.change_set.specs.Kept.{marked_entry, gathered_of}
use Rattle.change_set.proofs.Gathering.{SameChanges-older_mark, settled}
use Rattle.change_set.proofs.gathered.Gathered.add_marked.Goals.{then-is_matched, else-is_matched}
use Rattle.change_set.proofs.gathered.Gathered.add_marked.Goals as goal

pub returns : goal.returns
returns c =
    let patterns = c.self.inside.patterns.items in
    let entries = c.self.inside.named.items in
    let entry = c.args.entry in
    let any : c.is_matched.result ≡ list_any (λ p. matches p entry.0) patterns =
    c.is_matched.ensures ∙ (λ i. list_any (λ p. matches p (c.quad.ensures i)) (c.as_slice.ensures.value i)) in
    let mark_is : c.if-is_matched.mark ≡ settled patterns entry =
    elim c.if-is_matched.branch [
      | then-is_matched w ↦ w.mark-is ∙ ap (λ b. cond b mark.Removes entry.1) (sym w.if-is_matched.true ∙ any)
      | else-is_matched w ↦ w.mark-is ∙ w.mark-mark.ensures ∙ ap (λ b. cond b mark.Removes entry.1) (sym w.if-is_matched.false ∙ any)
    ] in
    let more : c.push.new.self.items ≡ entries ++ (entry.0, settled patterns entry) ∷ [] =
    c.in_ok-push.ensures.items ∙ ap (λ (e : Statement × Mark). entries ++ e ∷ []) (c.with_mark.ensures ∙ ap (λ m. (entry.0, m)) mark_is) in
    subst (λ (es : List (Statement × Mark)). SameChanges (gathered_of patterns es) (marked_entry entry ∷ c.args.self.now)) (sym more)
    (subst (λ (old : List Change). SameChanges (gathered_of patterns (entries ++ (entry.0, settled patterns entry) ∷ [])) (marked_entry entry ∷ old)) c.self.view_is
    (SameChanges-older_mark patterns entries entry))
