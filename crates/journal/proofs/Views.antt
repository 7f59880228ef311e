-- What an ask finds in one view depends on the quads alone that its observed patterns match.
use Rattle.std.proofs.Common.{◌≡◌, ℕ, Bool, true, false, ◌&&◌, List, [], ◌∷◌, length, filter, refl, sym, ◌∙◌, ap}
use Rattle.std.specs.Prelude.{None}
use Rattle.std.specs.List.{flat_map}
use Rattle.std.specs.List.Sorted.{IsStrictlySortedBy}
use Rattle.std.proofs.lemmas.List.Kept.{IsStrictlySortedBy-filter}
use Rattle.rdf_term.specs.declared.term.Term.{Term}
use Rattle.rdf_term.specs.declared.graph.Graph.{Graph}
use Rattle.rdf_term.specs.declared.graph.Graph.TheVariants.{Absent, Named}
use Rattle.rdf_term.specs.declared.pattern.Pattern.{Pattern}
use Rattle.rdf_term.specs.declared.pattern.GraphPick.TheVariants as picks
use Rattle.rdf_term.specs.Statement.{Statement}
use Rattle.rdf_term.specs.Order.{quad_cmp, term_cmp}
use Rattle.rdf_term.specs.OrderLaws.{quad_total, quad_exact}
use Rattle.rdf_term.specs.Sets.{sorted_set}
use Rattle.rdf_term.proofs.SetLemmas.{has, same_set}
use Rattle.change_set.proofs.Contents.{has-filter}
use Rattle.query_model.specs.Solutions.{graph_terms}
use Rattle.query_model.specs.Depends.{HaveSame}
use Rattle.query_model.proofs.DependLemmas.{in_one_view}
use Rattle.journal.specs.declared.ask.Ask.{Ask}
use Rattle.journal.specs.declared.ask.Ask.TheVariants as ask
use Rattle.journal.specs.declared.reply.Reply.TheVariants as reply
use Rattle.journal.specs.Found.{answer_of, found, one_matches, patterns_of}

-- two sets that have the same of the quads that pass, filtered
pub same_filter : (test : Statement → Bool) (V W : List Statement) → IsStrictlySortedBy quad_cmp V → IsStrictlySortedBy quad_cmp W → HaveSame test V W → filter test V ≡ filter test W
same_filter test V W v w same = same_set quad_total quad_exact (filter test V) (filter test W) (IsStrictlySortedBy-filter quad_cmp test V v) (IsStrictlySortedBy-filter quad_cmp test W w)
    (λ q. has-filter test V q ∙ (go q (test q) refl ∙ sym (has-filter test W q)))
  where
    none : (a b : Bool) → (a && false) ≡ (b && false)
    none true true = refl
    none true false = refl
    none false true = refl
    none false false = refl

    go : (q : Statement) (b : Bool) → test q ≡ b → (has quad_cmp V q && b) ≡ (has quad_cmp W q && b)
    go q true is = ap (λ a. a && true) (same q is)
    go q false is = none (has quad_cmp V q) (has quad_cmp W q)

-- the names of graphs are those of the quads in named graphs

abbrev all_named : List Pattern
all_named = record { s = None; p = None; o = None; c = picks.NamedOnly } ∷ []

abbrev terms : List Statement → List Term
terms quads = flat_map (λ (q : Statement). graph_terms q.c) quads

one_named : (s p o : Term) (c : Graph) (V : List Statement) → terms (filter (one_matches all_named) V) ≡ terms V
    → terms (filter (one_matches all_named) (record { s = s; p = p; o = o; c = c } ∷ V)) ≡ terms (record { s = s; p = p; o = o; c = c } ∷ V)
one_named s p o Absent V ih = ih
one_named s p o (Named t) V ih = ap (λ ts. t ∷ ts) ih

named_alone : (V : List Statement) → terms (filter (one_matches all_named) V) ≡ terms V
named_alone [] = refl
named_alone (q ∷ V) = one_named q.s q.p q.o q.c V (named_alone V)

-- two views that have the same of the quads that the ask's patterns match
pub found_same : (a : Ask) (V W : List Statement) (most : ℕ) → IsStrictlySortedBy quad_cmp V → IsStrictlySortedBy quad_cmp W → HaveSame (one_matches (patterns_of a)) V W
    → found a (V ∷ []) most ≡ found a (W ∷ []) most
unfolding found patterns_of
found_same (ask.Query q) V W most v w same = ap answer_of (in_one_view q V W most same)
found_same (ask.List s p o contexts) V W most v w same = ap reply.Quads (same_filter (one_matches (patterns_of (ask.List s p o contexts))) V W v w same)
found_same (ask.Size contexts) V W most v w same = ap (λ qs. reply.Count (length qs)) (same_filter (one_matches (patterns_of (ask.Size contexts))) V W v w same)
found_same ask.Contexts V W most v w same =
    ap (λ ts. reply.Contexts (sorted_set term_cmp ts)) (sym (named_alone V) ∙ (ap terms (same_filter (one_matches all_named) V W v w same) ∙ named_alone W))
