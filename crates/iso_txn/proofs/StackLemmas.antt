-- Stacks of changes: one write more, and the writes of a transaction taken out.
use Rattle.std.proofs.Common.{◌≡◌, ℕ, ◌+◌, ◌<◌, Bool, true, false, not, ◌||◌, List, [], ◌∷◌, ◌++◌, length, get_or, take, filter, Some, refl, sym, ◌∙◌, ap, subst, cond, append-nil, true≢false}
use Rattle.std.specs.List.{All, list_any}
use Rattle.std.specs.Option.{option_map, unwrap_or}
use Rattle.std.specs.List.Retain.{RetainsInTurn}
use Rattle.std.specs.List.Sorted.{IsStrictlySortedBy}
use Rattle.std.proofs.lemmas.List.Elements.{All-nil, All-cons, All-head, All-tail, All-same, All-push}
use Rattle.rdf_term.specs.Statement.{Statement}
use Rattle.rdf_term.specs.Order.{quad_cmp}
use Rattle.change_set.specs.declared.change.Change.{Change}
use Rattle.change_set.specs.Content.{applied, SameChanges}
use Rattle.change_set.proofs.Contents.{applied-append, applied-same}
use Rattle.branch.specs.Layers.{layered}
use Rattle.branch.proofs.LayerLemmas.{sorted-layered}
use Rattle.journal.specs.declared.level.Level.{Level}
use Rattle.journal.specs.declared.level.Level.TheVariants.{NoIsolation, ReadUncommitted, ReadCommitted, SnapshotRead, Snapshot, Serializable}
use Rattle.journal.specs.declared.txn.Txn.{Txn}
use Rattle.journal.specs.Levels.{is_txn}
use Rattle.journal.specs.LevelLaws.{level_is, txn_is}
use Rattle.iso_txn.specs.declared.seen.Seen.{Seen}
use Rattle.iso_txn.specs.Kept.{Opened, Pending, changes_where, find_open, pending_without, picked, sees, sees_at}
use Rattle.iso_txn.specs.Stacks.{AreSeen, IsFollowed, IsHigher, IsStackFor, IsStackOf, find_seen}
use Rattle.iso_txn.proofs.ListLemmas.{applied-none, where_more}
use Rattle.iso_txn.proofs.Views.{where-append}

-- Stacks and changes

pub stack_none : IsStackOf [] []
stack_none = record { same = λ base s. sym (applied-none base s) }

higher_none : (stack : List (List Change)) → IsHigher stack [] stack
higher_none stack = record { more = λ base s. sym (applied-none (layered base stack) (sorted-layered base stack s)) }

pub higher_same : (older newer : List (List Change)) (set changes : List Change) → SameChanges set changes
    → ((base : List Statement) → IsStrictlySortedBy quad_cmp base → layered base newer ≡ applied (layered base older) set) → IsHigher older changes newer
higher_same older newer set changes same pushed = record { more = λ base s. pushed base s ∙ applied-same (layered base older) set changes same }

-- a write that isn't seen adds nothing
pub higher_unseen : (t : Txn) (w : Pending) (stack : List (List Change)) → sees t w.txn ≡ false → IsHigher stack (picked (sees t) w) stack
higher_unseen t w stack unseen = subst (λ (b : Bool). IsHigher stack (cond b w.changes []) stack) (sym unseen) (higher_none stack)

stack_higher : (changes more : List Change) (older newer : List (List Change)) → IsStackOf changes older → IsHigher older more newer → IsStackOf (changes ++ more) newer
stack_higher changes more older newer stands higher = record {
  same = λ base s. higher.more base s ∙ (ap (λ quads. applied quads more) (stands.same base s) ∙ applied-append base changes more);
}

-- one more write of a list that a loop goes over
pub stack_more : (t : Txn) (ws : List Pending) (i : ℕ) (w : Pending) (older newer : List (List Change)) → i < length ws → w ≡ get_or ws i w
    → IsStackFor (take i ws) t older → IsHigher older (picked (sees t) w) newer → IsStackFor (take (i + 1) ws) t newer
stack_more t ws i w older newer h is stands higher =
    subst (λ changes. IsStackOf changes newer) (where_more (sees t) ws i w h is)
    (stack_higher (changes_where (sees t) (take i ws)) (picked (sees t) w) older newer stands higher)

-- Who sees the same

where-same : (f g : Txn → Bool) → ((w : Txn) → f w ≡ g w) → (ws : List Pending) → changes_where f ws ≡ changes_where g ws
where-same f g same [] = refl
where-same f g same (w ∷ ws) = λ i. cond (same w.txn i) w.changes [] ++ where-same f g same ws i

sees-same : (t u : Txn) → sees t u ≡ true → (w : Txn) → sees t w ≡ sees u w
sees-same t u seen w = go t.level refl seen
  where
    own : (v : Level) → t.level ≡ v → is_txn t u ≡ true → sees_at v t w ≡ sees u w
    own v is same = ap (λ v. sees_at v t w) (sym is) ∙ ap (λ x. sees x w) (txn_is t u same)

    go : (v : Level) → t.level ≡ v → sees_at v t u ≡ true → sees_at v t w ≡ sees u w
    go NoIsolation is never = absurd (true≢false (sym never))
    go ReadUncommitted is dirty = ap (λ v. sees_at v u w) (sym (level_is u.level ReadUncommitted dirty))
    go ReadCommitted is same = own ReadCommitted is same
    go SnapshotRead is same = own SnapshotRead is same
    go Snapshot is same = own Snapshot is same
    go Serializable is same = own Serializable is same

stack_found : (ws : List Pending) (t : Txn) (seen : List Seen) (it : Seen) → All (λ (it : Seen). IsStackFor ws it.txn it.stack) seen → find_seen t seen ≡ Some it → IsStackFor ws t it.stack
stack_found ws t [] it all is = cc
stack_found ws t (s ∷ seen) it all is = go (sees t s.txn) refl is (stack_found ws t seen it (All-tail (λ (it : Seen). IsStackFor ws it.txn it.stack) s seen all))
  where
    go : (b : Bool) → sees t s.txn ≡ b → cond b (Some s) (find_seen t seen) ≡ Some it → (find_seen t seen ≡ Some it → IsStackFor ws t it.stack) → IsStackFor ws t it.stack
    go true same is later =
        let there : s ≡ it = cc in
        subst (λ (it : Seen). IsStackFor ws t it.stack) there
        (subst (λ changes. IsStackOf changes s.stack) (sym (where-same (sees t) (sees s.txn) (sees-same t s.txn same) ws)) (All-head (λ (it : Seen). IsStackFor ws it.txn it.stack) s seen all))
    go false differ is later = later is

-- what is found for a transaction is a stack for it
pub found_stack : (ws : List Pending) (t : Txn) (seen : List Seen) (it : Seen) → AreSeen ws seen → find_seen t seen ≡ Some it → IsStackFor ws t it.stack
found_stack ws t seen it h is = stack_found ws t seen it h.all is

-- A write that comes

followed : (ws : List Pending) (w : Pending) (older newer : Seen) → IsFollowed older w newer → IsStackFor ws older.txn older.stack → IsStackFor (ws ++ w ∷ []) newer.txn newer.stack
followed ws w older newer h stands =
    subst (λ (t : Txn). IsStackFor (ws ++ w ∷ []) t newer.stack) (sym h.txn)
    (subst (λ changes. IsStackOf changes newer.stack)
    (ap (λ more. changes_where (sees older.txn) ws ++ more) (sym (append-nil (picked (sees older.txn) w))) ∙ sym (where-append (sees older.txn) ws (w ∷ [])))
    (stack_higher (changes_where (sees older.txn) ws) (picked (sees older.txn) w) older.stack newer.stack stands h.stack))

all_retained : {X F : Type 0} (R : F → X → Bool → F → X → Type 0) (P Q : X → Type 0) (f : F) (h : (x : X) (b : Bool) (f' : F) (y : X) → R f x b f' y → (b ≡ true → P x → Q y) × (f' ≡ f))
    → (xs ys : List X) → RetainsInTurn R f xs ys → All P xs → All Q ys
all_retained {X} {F} R P Q f h [] ys r all = All-same Q ys [] r (All-nil Q)
all_retained {X} {F} R P Q f h (x ∷ xs) ys (b, t, y, called, zs, rest, left) all =
    let step = h x b t y called in
    All-same Q ys (cond b (y ∷ zs) zs) left
    (go b step.0 (all_retained R P Q f h xs zs (subst (λ t. RetainsInTurn R t xs zs) step.1 rest) (All-tail P x xs all)))
  where
    go : (b : Bool) → (b ≡ true → P x → Q y) → All Q zs → All Q (cond b (y ∷ zs) zs)
    go true kept others = All-cons Q y zs (kept refl (All-head P x xs all)) others
    go false kept others = others

pub seen_followed : {F : Type 0} (R : F → Seen → Bool → F → Seen → Type 0) (w : Pending) (f : F) (h : (x : Seen) (b : Bool) (f' : F) (y : Seen) → R f x b f' y → (b ≡ true → IsFollowed x w y) × (f' ≡ f))
    → (xs ys : List Seen) → RetainsInTurn R f xs ys → (ws : List Pending) → AreSeen ws xs → AreSeen (ws ++ w ∷ []) ys
seen_followed R w f h xs ys retained ws seen = record {
  all = all_retained R (λ (it : Seen). IsStackFor ws it.txn it.stack) (λ (it : Seen). IsStackFor (ws ++ w ∷ []) it.txn it.stack) f
      (λ x b f' y r. let step = h x b f' y r in (λ kept stands. followed ws w x y (step.0 kept) stands, step.1)) xs ys retained seen.all;
}

-- A transaction that ends

-- who doesn't see a transaction sees the same without it
where-without : (u t : Txn) → sees u t ≡ false → (ws : List Pending) → changes_where (sees u) (pending_without t ws) ≡ changes_where (sees u) ws
where-without u t unseen [] = refl
where-without u t unseen (w ∷ ws) = go (is_txn w.txn t) refl (where-without u t unseen ws)
  where
    go : (b : Bool) → is_txn w.txn t ≡ b → changes_where (sees u) (pending_without t ws) ≡ changes_where (sees u) ws
        → changes_where (sees u) (cond (not b) (w ∷ pending_without t ws) (pending_without t ws)) ≡ picked (sees u) w ++ changes_where (sees u) ws
    go true same others =
        others
        ∙ ap (λ b. cond b w.changes [] ++ changes_where (sees u) ws) (sym (ap (sees u) (txn_is w.txn t same) ∙ unseen))
    go false differ others = ap (λ more. picked (sees u) w ++ more) others

all_left : (ws : List Pending) (t : Txn) (seen : List Seen) → All (λ (it : Seen). IsStackFor ws it.txn it.stack) seen
    → All (λ (it : Seen). IsStackFor (pending_without t ws) it.txn it.stack) (filter (λ (it : Seen). not (sees it.txn t)) seen)
all_left ws t [] all = All-nil (λ (it : Seen). IsStackFor (pending_without t ws) it.txn it.stack)
all_left ws t (s ∷ seen) all = go (sees s.txn t) refl (all_left ws t seen (All-tail (λ (it : Seen). IsStackFor ws it.txn it.stack) s seen all))
  where
    go : (b : Bool) → sees s.txn t ≡ b → All (λ (it : Seen). IsStackFor (pending_without t ws) it.txn it.stack) (filter (λ (it : Seen). not (sees it.txn t)) seen)
        → All (λ (it : Seen). IsStackFor (pending_without t ws) it.txn it.stack) (cond (not b) (s ∷ filter (λ (it : Seen). not (sees it.txn t)) seen) (filter (λ (it : Seen). not (sees it.txn t)) seen))
    go true shown others = others
    go false unseen others =
        All-cons (λ (it : Seen). IsStackFor (pending_without t ws) it.txn it.stack) s (filter (λ (it : Seen). not (sees it.txn t)) seen)
        (subst (λ changes. IsStackOf changes s.stack) (sym (where-without s.txn t unseen ws)) (All-head (λ (it : Seen). IsStackFor ws it.txn it.stack) s seen all)) others

pub seen_left : (t : Txn) (xs ys : List Seen) → ys ≡ filter (λ (it : Seen). not (sees it.txn t)) xs → (ws : List Pending) → AreSeen ws xs → AreSeen (pending_without t ws) ys
seen_left t xs ys left ws seen = record {
  all = All-same (λ (it : Seen). IsStackFor (pending_without t ws) it.txn it.stack) ys (filter (λ (it : Seen). not (sees it.txn t)) xs) left (all_left ws t xs seen.all);
}

-- without writes of a transaction nothing goes
pub without_none : (t : Txn) (ws : List Pending) → list_any (λ (w : Pending). is_txn w.txn t) ws ≡ false → ws ≡ pending_without t ws
without_none t [] none = refl
without_none t (w ∷ ws) none = go (is_txn w.txn t) none (without_none t ws)
  where
    go : (b : Bool) → (b || list_any (λ (w : Pending). is_txn w.txn t) ws) ≡ false → (list_any (λ (w : Pending). is_txn w.txn t) ws ≡ false → ws ≡ pending_without t ws) → w ∷ ws ≡ cond (not b) (w ∷ pending_without t ws) (pending_without t ws)
    go true absent others = absurd (true≢false absent)
    go false absent others = ap (λ ws. w ∷ ws) (others absent)

-- What is made

-- a stack that was made is kept where memory is found for it
pub seen_pushed : (ws : List Pending) (old new : List Seen) (it : Seen) (t : Txn) (kept : Bool) → AreSeen ws old → it.txn ≡ t → IsStackFor ws t it.stack → new ≡ cond kept (old ++ it ∷ []) old → AreSeen ws new
seen_pushed ws old new it t kept seen is stands pushed = record { all = All-same (λ (it : Seen). IsStackFor ws it.txn it.stack) new (cond kept (old ++ it ∷ []) old) pushed (go kept) }
  where
    go : (b : Bool) → All (λ (it : Seen). IsStackFor ws it.txn it.stack) (cond b (old ++ it ∷ []) old)
    go true = All-push (λ (it : Seen). IsStackFor ws it.txn it.stack) old it seen.all (subst (λ (t : Txn). IsStackFor ws t it.stack) (sym is) stands)
    go false = seen.all

-- what a read sees above its content, with a stack of the pending writes that it sees
pub view_seen : (content : List Statement) (os : List Opened) (ws : List Pending) (t : Txn) (o : Opened) (own : List (List Change)) (quads : List Statement) → Some o ≡ find_open t os
    → quads ≡ layered (unwrap_or o.base content) own → IsStrictlySortedBy quad_cmp (unwrap_or o.base content) → IsStackFor ws t own
    → Some quads ≡ option_map (λ (o : Opened). applied (unwrap_or o.base content) (changes_where (sees t) ws)) (find_open t os)
view_seen content os ws t o own quads found is ascending stands =
    ap Some (is ∙ stands.same (unwrap_or o.base content) ascending)
    ∙ ap (option_map (λ (o : Opened). applied (unwrap_or o.base content) (changes_where (sees t) ws))) found
