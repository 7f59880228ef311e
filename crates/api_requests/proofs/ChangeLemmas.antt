-- What a request is written of, by the changes of a write.
use Rattle.std.proofs.Common.{◌≡◌, ℕ, suc, ◌-◌, List, [], ◌∷◌, ◌++◌, Option, None, map, refl, ◌∙◌, sym, ap, append-nil, length, arith, All, codes}
use Rattle.std.specs.List.{flat_map}
use Rattle.std.proofs.lemmas.List.Elements.{All-nil, All-cons, All-head, All-tail}
use Rattle.rdf_term.specs.Statement.{Statement}
use Rattle.rdf_term.specs.declared.term.Term.{Term}
use Rattle.rdf_term.specs.declared.graph.Graph.{Graph}
use Rattle.rdf_term.specs.declared.pattern.GraphPick.{GraphPick}
use Rattle.rdf_term.specs.declared.pattern.GraphPick.TheVariants as picks
use Rattle.rdf_term.specs.declared.pattern.Pattern.{Pattern}
use Rattle.nquads.specs.Written.{IsWritable}
use Rattle.change_set.specs.declared.change.Change.{Change}
use Rattle.change_set.specs.declared.change.Change.TheVariants.{Add, Remove, RemoveMatching}
use Rattle.api_parts.specs.declared.selection.Selection.{Selection}
use Rattle.api_parts.specs.Writes.{in_graph, placed, removals, everything_in, replacements}
use Rattle.api_requests.specs.declared.sending.Verb.TheVariants as verbs
use Rattle.api_requests.specs.Changes.{quads_in, graphs_in, selection_in, every}
use Rattle.api_requests.specs.Requests.{SeenSending, written, document_content, context_pairs, selection_pairs, sent_removal, sent_alone, write_word}
use Rattle.api_requests.specs.Spellable.{IsContextGraph, AreContextGraphs}

-- a pattern of a selection
abbrev pattern_by : Selection → GraphPick → Pattern
pattern_by it pick = record { s = it.s; p = it.p; o = it.o; c = pick }

abbrev removed_by : Selection → List GraphPick → List Change
removed_by it chosen = map RemoveMatching (map (pattern_by it) chosen)

pub added_quads : (qs : List Statement) → quads_in (map Add qs) ≡ qs
added_quads [] = refl
added_quads (q ∷ qs) = ap (λ (rest : List Statement). q ∷ rest) (added_quads qs)

pub removed_quads : (qs : List Statement) → quads_in (map Remove qs) ≡ qs
removed_quads [] = refl
removed_quads (q ∷ qs) = ap (λ (rest : List Statement). q ∷ rest) (removed_quads qs)

-- behind patterns
quads_behind : (it : Selection) (chosen : List GraphPick) (qs : List Statement) → quads_in (removed_by it chosen ++ map Add qs) ≡ qs
quads_behind it [] qs = added_quads qs
quads_behind it (pick ∷ chosen) qs = quads_behind it chosen qs

graphs_of_additions : (qs : List Statement) → graphs_in (map Add qs) ≡ []
graphs_of_additions [] = refl
graphs_of_additions (q ∷ qs) = graphs_of_additions qs

graphs_before : (it : Selection) (gs : List Graph) (qs : List Statement) → graphs_in (removed_by it (map picks.One gs) ++ map Add qs) ≡ gs
graphs_before it [] qs = graphs_of_additions qs
graphs_before it (g ∷ gs) qs = ap (λ (rest : List Graph). g ∷ rest) (graphs_before it gs qs)

-- nothing is added
no_additions : (it : Selection) (chosen : List GraphPick) → removed_by it chosen ≡ removed_by it chosen ++ map Add []
no_additions it chosen = sym (append-nil (removed_by it chosen))

sent_removed : (repo : List ℕ) (changes : List Change) (quads : List Statement) (it : Selection) → quads ≡ [] → selection_in changes ≡ it
    → sent_removal repo changes quads ≡ written repo verbs.Delete (selection_pairs it) None
sent_removed repo changes quads it e same =
    ap (sent_removal repo changes) e ∙ ap (λ (selected : Selection). written repo verbs.Delete (selection_pairs selected) None) same

-- a removal is a DELETE with the parameters of what is selected
by_graphs : (repo : List ℕ) (s p o : Option Term) (gs : List Graph)
    → sent_alone repo (removals (record { s = s; p = p; o = o; contexts = gs }))
    ≡ written repo verbs.Delete (selection_pairs (record { s = s; p = p; o = o; contexts = gs })) None
by_graphs repo s p o [] = refl
by_graphs repo s p o (g ∷ gs) =
    let it : Selection = record { s = s; p = p; o = o; contexts = g ∷ gs } in
    let rest = no_additions it (map picks.One gs) in
    sent_removed repo (removals it) (quads_in (removed_by it (map picks.One gs))) it (ap quads_in rest ∙ quads_behind it (map picks.One gs) [])
    (ap (λ (graphs : List Graph). record { s = s; p = p; o = o; contexts = g ∷ graphs }) (ap graphs_in rest ∙ graphs_before it gs []))

pub sent_removals : (repo : List ℕ) (it : Selection) → sent_alone repo (removals it) ≡ written repo verbs.Delete (selection_pairs it) None
sent_removals repo it = by_graphs repo it.s it.p it.o it.contexts

-- an addition is a POST
pub sent_additions : (repo : List ℕ) (qs : List Statement) → sent_alone repo (map Add qs) ≡ written repo verbs.Post [] (document_content qs)
sent_additions repo [] = refl
sent_additions repo (q ∷ qs) = ap (λ (quads : List Statement). written repo verbs.Post [] (document_content (q ∷ quads))) (added_quads qs)

-- a replacement is a PUT

abbrev replaced_by : List ℕ → List Graph → List Statement → SeenSending
replaced_by repo contexts quads = written repo verbs.Put (context_pairs contexts) (document_content (every (length contexts) 0 quads))

sent_replaced : (repo : List ℕ) (changes : List Change) (quads : List Statement) (contexts : List Graph) (q : Statement) (qs : List Statement) → quads ≡ q ∷ qs
    → graphs_in changes ≡ contexts → quads_in changes ≡ q ∷ qs → sent_removal repo changes quads ≡ replaced_by repo contexts (q ∷ qs)
sent_replaced repo changes quads contexts q qs e graphs same =
    ap (sent_removal repo changes) e
    ∙ (λ i. written repo verbs.Put (context_pairs (graphs i)) (document_content (every (length (graphs i)) 0 (same i))))

sent_by_graphs : (repo : List ℕ) (gs : List Graph) (q : Statement) (qs : List Statement)
    → sent_alone repo (removals (everything_in gs) ++ map Add (q ∷ qs)) ≡ replaced_by repo gs (q ∷ qs)
sent_by_graphs repo [] q qs =
    sent_replaced repo (removals (everything_in []) ++ map Add (q ∷ qs)) (quads_in (map Add (q ∷ qs))) [] q qs (added_quads (q ∷ qs)) (graphs_of_additions (q ∷ qs)) (added_quads (q ∷ qs))
sent_by_graphs repo (g ∷ gs) q qs =
    let it = everything_in (g ∷ gs) in
    let quads = quads_behind it (map picks.One gs) (q ∷ qs) in
    sent_replaced repo (removals it ++ map Add (q ∷ qs)) (quads_in (removed_by it (map picks.One gs) ++ map Add (q ∷ qs))) (g ∷ gs) q qs quads
    (ap (λ (graphs : List Graph). g ∷ graphs) (graphs_before it gs (q ∷ qs))) quads

-- every quad, or one of each group

every_one : (qs : List Statement) → every 0 0 qs ≡ qs
every_one [] = refl
every_one (q ∷ qs) = ap (λ (rest : List Statement). q ∷ rest) (every_one qs)

pub placed_alone : (qs : List Statement) → flat_map (placed []) qs ≡ qs
placed_alone [] = refl
placed_alone (q ∷ qs) = ap (λ (rest : List Statement). q ∷ rest) (placed_alone qs)

passed_over : (count : ℕ) (q : Statement) (gs : List Graph) (rest : List Statement) → every count (length gs) (map (in_graph q) gs ++ rest) ≡ every count 0 rest
passed_over count q [] rest = refl
passed_over count q (g ∷ gs) rest = passed_over count q gs rest

-- the statements that stand in the first graph
abbrev pub sources : List Graph → List Statement → List Statement
sources [] quads = quads
sources (g ∷ gs) quads = map (λ q. in_graph q g) quads

suc_less : (n : ℕ) → suc n - 1 ≡ n
suc_less n = omega arith

sources_found : (g : Graph) (gs : List Graph) (qs : List Statement) → every (suc (length gs)) 0 (flat_map (placed (g ∷ gs)) qs) ≡ map (λ q. in_graph q g) qs
sources_found g gs [] = refl
sources_found g gs (q ∷ qs) =
    ap (λ (rest : List Statement). in_graph q g ∷ rest)
    (ap (λ (skipped : ℕ). every (suc (length gs)) skipped (map (in_graph q) gs ++ flat_map (placed (g ∷ gs)) qs)) (suc_less (length gs))
    ∙ passed_over (suc (length gs)) q gs (flat_map (placed (g ∷ gs)) qs) ∙ sources_found g gs qs)

pub sources_are : (gs : List Graph) (qs : List Statement) → every (length gs) 0 (flat_map (placed gs) qs) ≡ sources gs qs
sources_are [] qs = every_one (flat_map (placed []) qs) ∙ placed_alone qs
sources_are (g ∷ gs) qs = sources_found g gs qs

placed_again : (g : Graph) (gs : List Graph) (qs : List Statement) → flat_map (placed (g ∷ gs)) (map (λ q. in_graph q g) qs) ≡ flat_map (placed (g ∷ gs)) qs
placed_again g gs [] = refl
placed_again g gs (q ∷ qs) = ap (λ (rest : List Statement). map (in_graph q) (g ∷ gs) ++ rest) (placed_again g gs qs)

-- they make the same replacement
pub same_replacement : (gs : List Graph) (qs : List Statement) → replacements gs (sources gs qs) ≡ replacements gs qs
same_replacement [] qs = refl
same_replacement (g ∷ gs) qs = ap (λ (quads : List Statement). removals (everything_in (g ∷ gs)) ++ map Add quads) (placed_again g gs qs)

pub in_graph_writable : (g : Graph) → IsContextGraph g → (q : Statement) → IsWritable q → IsWritable (in_graph q g)
in_graph_writable g is q w = (record { subject = w.0.subject; predicate = w.0.predicate; graph = is.1 }, (w.1.0, w.1.1, w.1.2, is.0))

moved_writable : (g : Graph) → IsContextGraph g → (qs : List Statement) → All IsWritable qs → All IsWritable (map (λ q. in_graph q g) qs)
moved_writable g is [] all = All-nil IsWritable
moved_writable g is (q ∷ qs) all =
    All-cons IsWritable (in_graph q g) (map (λ r. in_graph r g) qs) (in_graph_writable g is q (All-head IsWritable q qs all)) (moved_writable g is qs (All-tail IsWritable q qs all))

pub sources_writable : (gs : List Graph) (qs : List Statement) → AreContextGraphs gs → All IsWritable qs → All IsWritable (sources gs qs)
sources_writable [] qs are all = all
sources_writable (g ∷ gs) qs are all = moved_writable g (All-head IsContextGraph g gs are.each) qs all

pub sent_replacements : (repo : List ℕ) (gs : List Graph) (q : Statement) (qs : List Statement)
    → sent_alone repo (replacements gs (q ∷ qs)) ≡ written repo verbs.Put (context_pairs gs) (document_content (sources gs (q ∷ qs)))
sent_replacements repo [] q qs =
    sent_by_graphs repo [] q (flat_map (placed []) qs) ∙ ap (λ (quads : List Statement). written repo verbs.Put [] (document_content quads)) (sources_are [] (q ∷ qs))
sent_replacements repo (g ∷ gs) q qs =
    sent_by_graphs repo (g ∷ gs) (in_graph q g) (map (in_graph q) gs ++ flat_map (placed (g ∷ gs)) qs)
    ∙ ap (λ (quads : List Statement). written repo verbs.Put (context_pairs (g ∷ gs)) (document_content quads)) (sources_are (g ∷ gs) (q ∷ qs))

-- a replacement by nothing is a removal
pub replaced_by_nothing : (gs : List Graph) → replacements gs [] ≡ removals (everything_in gs)
replaced_by_nothing gs = append-nil (removals (everything_in gs))

-- actions in a transaction
pub add_word : (qs : List Statement) → write_word (map Add qs) ≡ codes "ADD"
add_word [] = refl
add_word (q ∷ qs) = refl

pub delete_word : (q : Statement) (qs : List Statement) → write_word (map Remove (q ∷ qs)) ≡ codes "DELETE"
delete_word q qs = refl
