-- Steps of what changes hold.
use Rattle.std.proofs.Common.{◌≡◌, ℕ, zero, suc, ◌-◌, ◌<◌, ◌≤◌, List, [], ◌∷◌, ◌++◌, refl, ◌∙◌, sym, ap, append_assoc, length, arith}
use Rattle.rdf_term.specs.Statement.{Statement}
use Rattle.rdf_term.specs.declared.graph.Graph.{Graph}
use Rattle.rdf_term.specs.declared.pattern.GraphPick.{GraphPick}
use Rattle.rdf_term.specs.declared.pattern.GraphPick.TheVariants as picks
use Rattle.change_set.specs.declared.change.Change.{Change}
use Rattle.change_set.specs.declared.change.Change.TheVariants.{Add, Remove, RemoveMatching}
use Rattle.api_requests.specs.Changes.{every, quads_in, graphs_in, with_pick}
use Rattle.api_requests.specs.Requests.{context_pairs, graph_pair}

pub every_taken : (count skipped : ℕ) (q : Statement) (rest : List Statement) → skipped ≡ 0 → every count skipped (q ∷ rest) ≡ q ∷ every count (count - 1) rest
every_taken count zero q rest e = refl
every_taken count (suc n) q rest e = absurd (omega arith)

pub every_skipped : (count skipped : ℕ) (q : Statement) (rest : List Statement) → 0 < skipped → every count skipped (q ∷ rest) ≡ every count (skipped - 1) rest
every_skipped count zero q rest h = absurd (omega arith)
every_skipped count (suc n) q rest h = ap (λ (m : ℕ). every count m rest) (let e : n ≡ suc n - 1 = omega arith in e)

-- what was taken and what is left
pub taken_is : (quads new : List Statement) (count skipped next : ℕ) (q : Statement) (rest : List Statement) → new ≡ quads ++ q ∷ [] → skipped ≤ 0 → next ≡ count - 1
    → new ++ every count next rest ≡ quads ++ every count skipped (q ∷ rest)
taken_is quads new count skipped next q rest e h same =
    (λ i. e i ++ every count (same i) rest) ∙ append_assoc quads (q ∷ []) (every count (count - 1) rest)
    ∙ ap (λ (more : List Statement). quads ++ more) (sym (every_taken count skipped q rest (omega arith)))

pub quads_more : (change : Change) (rest : List Change) → quads_in (change ∷ rest) ≡ quads_in (change ∷ []) ++ quads_in rest
quads_more (Add q) rest = refl
quads_more (Remove q) rest = refl
quads_more (RemoveMatching p) rest = refl

with_pick_more : (pick : GraphPick) (gs : List Graph) → with_pick pick gs ≡ with_pick pick [] ++ gs
with_pick_more picks.Any gs = refl
with_pick_more picks.NamedOnly gs = refl
with_pick_more (picks.One g) gs = refl

pub graphs_more : (change : Change) (rest : List Change) → graphs_in (change ∷ rest) ≡ graphs_in (change ∷ []) ++ graphs_in rest
graphs_more (Add q) rest = refl
graphs_more (Remove q) rest = refl
graphs_more (RemoveMatching p) rest = with_pick_more p.c (graphs_in rest)

contexts_append : (gs more : List Graph) → context_pairs (gs ++ more) ≡ context_pairs gs ++ context_pairs more
contexts_append [] more = refl
contexts_append (g ∷ gs) more = ap (λ (rest : List (List ℕ × List ℕ)). graph_pair g ∷ rest) (contexts_append gs more)

pub picks_more : (change : Change) (rest : List Change) → context_pairs (graphs_in (change ∷ rest)) ≡ context_pairs (graphs_in (change ∷ [])) ++ context_pairs (graphs_in rest)
picks_more change rest = ap context_pairs (graphs_more change rest) ∙ contexts_append (graphs_in (change ∷ [])) (graphs_in rest)

pub length_pairs : (gs : List Graph) → length (context_pairs gs) ≡ length gs
length_pairs [] = refl
length_pairs (g ∷ gs) = ap suc (length_pairs gs)

-- a list that grew by the front of what is left
pub front_moved : {A : Type 0} (old new front rest whole left : List A) → new ≡ old ++ front → left ≡ front ++ rest → old ++ left ≡ whole → new ++ rest ≡ whole
front_moved old new front rest whole left e f g =
    ap (λ xs. xs ++ rest) e ∙ append_assoc old front rest ∙ ap (λ xs. old ++ xs) (sym f) ∙ g

-- two items at the end
pub two_more : {A : Type 0} (xs : List A) (x y : A) → (xs ++ x ∷ []) ++ y ∷ [] ≡ xs ++ x ∷ y ∷ []
two_more xs x y = append_assoc xs (x ∷ []) (y ∷ [])
