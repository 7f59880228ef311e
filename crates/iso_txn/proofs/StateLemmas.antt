-- What changes leave, where a set stands for their list.
use Rattle.std.proofs.Common.{◌≡◌, ℕ, ◌+◌, Bool, true, false, not, ◌&&◌, List, [], ◌∷◌, ◌++◌, map, Some, None, refl, sym, ◌∙◌, ap, cond}
use Rattle.std.specs.Prelude.{Option}
use Rattle.std.specs.Option.{is_some}
use Rattle.std.specs.List.{filter_map}
use Rattle.std.proofs.lemmas.List.Elements.{filter_map-append}
use Rattle.rdf_term.specs.declared.pattern.Pattern.{Pattern}
use Rattle.rdf_term.specs.Statement.{Statement}
use Rattle.rdf_term.specs.Sets.{in_order}
use Rattle.change_set.specs.declared.change.Change.{Change}
use Rattle.change_set.specs.declared.change.Change.TheVariants.{Add, Remove}
use Rattle.change_set.specs.Content.{applied, named, named_quads, SameChanges}
use Rattle.change_set.specs.Deltas.{swapped}
use Rattle.change_set.proofs.Contents.{applied-same}
use Rattle.branch.specs.declared.deltas.Delta.{Delta}
use Rattle.branch.specs.Deltas.{IsDelta}
use Rattle.journal.specs.declared.txn.Txn.{Txn}
use Rattle.journal.specs.declared.limits.Limits.{Limits}
use Rattle.journal.specs.declared.reply.Reply.TheVariants as reply
use Rattle.journal.specs.Levels.{is_txn}
use Rattle.journal.specs.Replies.{within}
use Rattle.iso_txn.specs.Kept.{Kept, applied_kept, changed_kept, changed_within, changes_where, commit_answer, commit_kept, conflict_or, content_with_own, done_if, ended, is_among}
use Rattle.iso_txn.specs.Watch.{Watch, quads_changed, watch_noted, watched_clash}

-- The exact change

named_added : (quads : List Statement) → filter_map named (map Add quads) ≡ quads
named_added [] = refl
named_added (q ∷ quads) = ap (λ r. q ∷ r) (named_added quads)

named_removed : (quads : List Statement) → filter_map named (map Remove quads) ≡ quads
named_removed [] = refl
named_removed (q ∷ quads) = ap (λ r. q ∷ r) (named_removed quads)

-- the changes of a delta name the quads that are in one of the two contents and not in the other
pub changed_is : (old new : List Statement) (it : Delta) (set : List Change) → IsDelta old new it → SameChanges set (swapped it.added it.removed) → named_quads set ≡ quads_changed old new
changed_is old new it set d same =
    same.names
    ∙ (ap in_order (filter_map-append named (map Remove it.removed) (map Add it.added))
    ∙ ((λ i. in_order (named_removed it.removed i ++ named_added it.added i))
    ∙ (λ i. in_order (d.removed i ++ d.added i))))

-- what changes do to a content, where it is known whether they fit
pub changed_fit : (l : Limits) (content : List Statement) (changes : List Change) → within l (applied content changes) ≡ true
    → Some (quads_changed content (applied content changes)) ≡ changed_within l content changes
changed_fit l content changes fits = ap (λ b. cond b (Some (quads_changed content (applied content changes))) None) (sym fits)

pub changed_over : (l : Limits) (content : List Statement) (changes : List Change) → within l (applied content changes) ≡ false → None ≡ changed_within l content changes
changed_over l content changes over = ap (λ b. cond b (Some (quads_changed content (applied content changes))) None) (sym over)

-- The entry at a place applies a set

module _ (l : Limits) (place : ℕ) (k : Kept) (set : List Change) where
  pub applied_fit : within l (applied k.content set) ≡ true → applied_kept l place k set ≡ changed_kept place k (applied k.content set)
  applied_fit fits = ap (λ b. cond b (changed_kept place k (applied k.content set)) k) fits

  pub applied_over : within l (applied k.content set) ≡ false → applied_kept l place k set ≡ k
  applied_over over = ap (λ b. cond b (changed_kept place k (applied k.content set)) k) over

  some_is : (quads : List Statement) → within l (applied k.content set) ≡ true → Some quads ≡ changed_within l k.content set → quads ≡ quads_changed k.content (applied k.content set)
  some_is quads fits is =
      let same : Some quads ≡ Some (quads_changed k.content (applied k.content set)) = is ∙ sym (changed_fit l k.content set fits) in
      cc

  -- the content and what is watched, as they are left
  pub applied_some : (quads content : List Statement) (w : Watch) → within l (applied k.content set) ≡ true → Some quads ≡ changed_within l k.content set
      → content ≡ applied k.content set → w ≡ watch_noted place quads k.watch → (let left : Kept = record k { content = content; watch = w } in left) ≡ applied_kept l place k set
  applied_some quads content w fits is left noted =
      (λ i. record k { content = left i; watch = (noted ∙ ap (λ quads. watch_noted place quads k.watch) (some_is quads fits is)) i })
      ∙ sym (applied_fit fits)

  -- the same of the list that the set stands for
  module _ (changes : List Change) (same : SameChanges set changes) where
    pub fits_same : within l (applied k.content set) ≡ within l (applied k.content changes)
    fits_same = ap (within l) (applied-same k.content set changes same)

    pub applied_kept_same : applied_kept l place k set ≡ applied_kept l place k changes
    applied_kept_same = ap (λ content. cond (within l content) (changed_kept place k content) k) (applied-same k.content set changes same)

-- A Commit of an open transaction, where a set stands for its own changes

module _ (l : Limits) (place : ℕ) (k : Kept) (t : Txn) (live : is_among t k.open_txns ≡ true) where
  answer_is : (clash : Option (Pattern × Statement)) (fits : Bool) → watched_clash k.watch t ≡ clash → within l (content_with_own k t) ≡ fits → conflict_or clash (done_if fits) ≡ commit_answer l k t
  answer_is clash fits a b = sym (λ i. cond (live i) (conflict_or (a i) (done_if (b i))) reply.NoTransaction)

  abbrev left_by : Bool → Option (Pattern × Statement) → Bool → Kept
  left_by live clash fits = cond (live && (not (is_some clash) && fits)) (let left : Kept = ended place (changed_kept place k (content_with_own k t)) t in record left { commits = k.commits + 1 }) k

  left_is : (clash : Option (Pattern × Statement)) (fits : Bool) → watched_clash k.watch t ≡ clash → within l (content_with_own k t) ≡ fits → left_by true clash fits ≡ commit_kept l place k t
  left_is clash fits a b = sym (λ i. left_by (live i) (a i) (b i))

  pub conflict_answer : (p : Pattern) (q : Statement) → watched_clash k.watch t ≡ Some (p, q) → reply.Conflict p q ≡ commit_answer l k t
  conflict_answer p q is = answer_is (Some (p, q)) (within l (content_with_own k t)) is refl

  pub conflict_left : (p : Pattern) (q : Statement) → watched_clash k.watch t ≡ Some (p, q) → k ≡ commit_kept l place k t
  conflict_left p q is = left_is (Some (p, q)) (within l (content_with_own k t)) is refl

  module _ (free : watched_clash k.watch t ≡ None) (set : List Change) (same : SameChanges set (changes_where (is_txn t) k.writes)) where
    own_fits : within l (applied k.content set) ≡ within l (content_with_own k t)
    own_fits = fits_same l place k set (changes_where (is_txn t) k.writes) same

    pub commit_answer_is : (fits : Bool) → fits ≡ within l (applied k.content set) → done_if fits ≡ commit_answer l k t
    commit_answer_is fits is = answer_is None fits free (sym (is ∙ own_fits))

    pub commit_left : true ≡ within l (applied k.content set) → (let left : Kept = ended place (applied_kept l place k set) t in record left { commits = left.commits + 1 }) ≡ commit_kept l place k t
    commit_left fits =
        let own : applied_kept l place k set ≡ changed_kept place k (content_with_own k t) =
        applied_kept_same l place k set (changes_where (is_txn t) k.writes) same ∙ applied_fit l place k (changes_where (is_txn t) k.writes) (sym (fits ∙ own_fits)) in
        ap (λ (now : Kept). let left : Kept = ended place now t in record left { commits = left.commits + 1 }) own
        ∙ left_is None true free (sym (fits ∙ own_fits))

    pub commit_over : false ≡ within l (applied k.content set) → applied_kept l place k set ≡ commit_kept l place k t
    commit_over over = applied_over l place k set (sym over) ∙ left_is None false free (sym (over ∙ own_fits))
