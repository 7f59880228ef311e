-- A pattern that another one covers matches no more than it.
use Rattle.std.proofs.Common.{◌≡◌, Bool, true, false, ◌||◌, ◌&&◌, List, [], ◌∷◌, Option, Some, None, refl, sym, ap, subst, ◌∙◌}
use Rattle.std.specs.List.{list_any}
use Rattle.std.specs.Ordering.{eq_by_cmp, is_eq}
use Rattle.std.specs.declared.cmp.Ordering.{Ordering}
use Rattle.std.specs.declared.cmp.Ordering.TheVariants.{Less, Equal, Greater}
use Rattle.rdf_term.specs.Statement.{Statement}
use Rattle.rdf_term.specs.Order.{term_cmp, graph_cmp}
use Rattle.rdf_term.specs.OrderLaws.{term_exact, graph_exact}
use Rattle.rdf_term.specs.Matching.{matches, fits, picks_graph}
use Rattle.rdf_term.specs.declared.term.Term.{Term}
use Rattle.rdf_term.specs.declared.graph.Graph.{Graph}
use Rattle.rdf_term.specs.declared.pattern.GraphPick.{GraphPick}
use Rattle.rdf_term.specs.declared.pattern.GraphPick.TheVariants as picks
use Rattle.rdf_term.specs.declared.pattern.Pattern.{Pattern}
use Rattle.change_set.specs.Cover.{covers, covers_part, covers_pick}

is_Equal : (o : Ordering) → is_eq o ≡ true → o ≡ Equal
is_Equal Less e = cc
is_Equal Equal e = refl
is_Equal Greater e = cc

part : (a b : Option Term) (t : Term) → covers_part a b ≡ true → fits b t ≡ true → fits a t ≡ true
part None b t c f = refl
part (Some u) None t c f = cc
part (Some u) (Some v) t c f = ap (λ w. eq_by_cmp term_cmp w t) (term_exact u v (is_Equal (term_cmp u v) c)) ∙ f

pick : (a b : GraphPick) (g : Graph) → covers_pick a b ≡ true → picks_graph b g ≡ true → picks_graph a g ≡ true
pick picks.Any b g c f = refl
pick picks.NamedOnly picks.Any g c f = cc
pick picks.NamedOnly picks.NamedOnly g c f = f
pick picks.NamedOnly (picks.One h) g c f = cc
pick (picks.One h) picks.Any g c f = cc
pick (picks.One h) picks.NamedOnly g c f = cc
pick (picks.One h) (picks.One i) g c f = ap (λ j. eq_by_cmp graph_cmp j g) (graph_exact h i (is_Equal (graph_cmp h i) c)) ∙ f

four : (a b c d : Bool) → (a && b && c && d) ≡ true → (a ≡ true) × (b ≡ true) × (c ≡ true) × (d ≡ true)
four true true true true e = (refl, refl, refl, refl)
four true true true false e = cc
four true true false d e = cc
four true false c d e = cc
four false b c d e = cc

all_four : (a b c d : Bool) → a ≡ true → b ≡ true → c ≡ true → d ≡ true → (a && b && c && d) ≡ true
all_four a b c d e f g h = λ i. e i && f i && g i && h i

matches-covered : (p r : Pattern) (q : Statement) → covers p r ≡ true → matches r q ≡ true → matches p q ≡ true
matches-covered p r q c m =
    let k = four (covers_part p.s r.s) (covers_part p.p r.p) (covers_part p.o r.o) (covers_pick p.c r.c) c in
    let n = four (fits r.s q.s) (fits r.p q.p) (fits r.o q.o) (picks_graph r.c q.c) m in
    all_four (fits p.s q.s) (fits p.p q.p) (fits p.o q.o) (picks_graph p.c q.c)
    (part p.s r.s q.s k.0 n.0) (part p.p r.p q.p k.1 n.1) (part p.o r.o q.o k.2 n.2) (pick p.c r.c q.c k.3 n.3)

pub matched-covered : (ps : List Pattern) (r : Pattern) → list_any (λ p. covers p r) ps ≡ true → (q : Statement) → matches r q ≡ true → list_any (λ p. matches p q) ps ≡ true
matched-covered [] r c q m = cc
matched-covered (p ∷ ps) r c q m = at (covers p r) refl (matched-covered ps r) c
  where
    right : (a : Bool) → (a || true) ≡ true
    right true = refl
    right false = refl

    at : (b : Bool) → covers p r ≡ b → (list_any (λ p. covers p r) ps ≡ true → (q : Statement) → matches r q ≡ true → list_any (λ p. matches p q) ps ≡ true)
        → (b || list_any (λ p. covers p r) ps) ≡ true → (matches p q || list_any (λ p. matches p q) ps) ≡ true
    at true e rest h = ap (λ a. a || list_any (λ p. matches p q) ps) (matches-covered p r q e m)
    at false e rest h = ap (λ a. matches p q || a) (rest h q m) ∙ right (matches p q)
