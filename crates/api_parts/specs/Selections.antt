-- What the parameters subj, pred, obj and context select, and which of them is bad.
use Rattle.std.specs.Prelude.{◌≡◌, ℕ, List, [], ◌∷◌, ◌++◌, Option, Some, None, if◌then◌else◌, fold, filter, map, codes}
use Rattle.std.specs.List.{list_any}
use Rattle.std.specs.Ordering.{eq_by_cmp}
use Rattle.rdf_term.specs.declared.term.Term.{Term}
use Rattle.rdf_term.specs.declared.graph.Graph.{Graph}
use Rattle.rdf_term.specs.declared.graph.Graph.TheVariants.{Absent, Named}
use Rattle.rdf_term.specs.declared.pattern.GraphPick.{GraphPick}
use Rattle.rdf_term.specs.declared.pattern.GraphPick.TheVariants as picks
use Rattle.rdf_term.specs.declared.pattern.Pattern.{Pattern}
use Rattle.rdf_term.specs.Statement.{Statement}
use Rattle.rdf_term.specs.Matching.{matches}
use Rattle.rdf_term.specs.Order.{graph_cmp}
use Rattle.rdf_term.specs.Terms.{IsResource, IsIri}
use Rattle.nquads_line.specs.Grammar.{IsTerm, IsShortTerm}
use Rattle.api_parts.specs.declared.selection.Selection.{Selection}
use Rattle.api_parts.specs.declared.selection.TermKind.{TermKind}
use Rattle.api_parts.specs.declared.selection.TermKind.TheVariants as kinds
use Rattle.api_parts.specs.declared.selection.Parameter.{Parameter}
use Rattle.api_parts.specs.declared.selection.Parameter.TheVariants.{Subject, Predicate, Object, Context}
use Rattle.api_parts.specs.Parameters.{values_of}

-- the name of a parameter
abbrev pub name_of : Parameter → List ℕ
name_of Subject = codes "subj"
name_of Predicate = codes "pred"
name_of Object = codes "obj"
name_of Context = codes "context"

-- which terms a parameter takes
abbrev pub IsOfKind : TermKind → Term → Type 0
IsOfKind kinds.Resource t = IsResource t
IsOfKind kinds.Iri t = IsIri t
IsOfKind kinds.Any t = Unit {0}

-- the value is the text of a term of RDF 1.1 N-Triples of this kind, none of whose parts is too long
pub record IsTermValue (kind : TermKind) (value : List ℕ) (t : Term) : Type 0 where
  pub text : IsTerm value t
  pub short : IsShortTerm t
  pub fits : IsOfKind kind t

-- a parameter that stands at most once gives a term, where it stands
abbrev pub IsPart : TermKind → List (List ℕ) → Option Term → Type 0
IsPart kind [] None = Unit {0}
IsPart kind (value ∷ []) (Some t) = IsTermValue kind value t
IsPart kind values part = ⊥

-- a context is the absent graph, written `null`, or the graph of an IRI or of a blank node
abbrev pub IsContext : List ℕ → Graph → Type 0
IsContext value Absent = value ≡ codes "null"
IsContext value (Named t) = IsTermValue kinds.Resource value t

-- each value is a context, in order
pub data AreContexts : List (List ℕ) → List Graph → Type 0 where
  none : AreContexts [] []
  one : {value : List ℕ} {values : List (List ℕ)} {graph : Graph} {graphs : List Graph}
      → IsContext value graph → AreContexts values graphs → AreContexts (value ∷ values) (graph ∷ graphs)

-- a graph joins the list, where it isn't in it
abbrev pub with_graph : List Graph → Graph → List Graph
with_graph graphs g = if list_any (eq_by_cmp graph_cmp g) graphs then graphs else graphs ++ g ∷ []

-- equal graphs are taken once, at the first place
abbrev pub each_once : List Graph → List Graph
each_once graphs = fold with_graph [] graphs

-- the contexts that the parameters name
abbrev pub IsContexts : List (List ℕ × List ℕ) → List Graph → Type 0
IsContexts pairs contexts = (graphs : List Graph) × AreContexts (values_of (name_of Context) pairs) graphs × (contexts ≡ each_once graphs)

-- what the parameters select
pub record IsSelection (pairs : List (List ℕ × List ℕ)) (it : Selection) : Type 0 where
  pub s : IsPart kinds.Resource (values_of (name_of Subject) pairs) it.s
  pub p : IsPart kinds.Iri (values_of (name_of Predicate) pairs) it.p
  pub o : IsPart kinds.Any (values_of (name_of Object) pairs) it.o
  pub contexts : IsContexts pairs it.contexts

-- a parameter that should stand at most once gives nothing
abbrev pub IsBadPart : TermKind → List (List ℕ) → Type 0
IsBadPart kind values = (part : Option Term) → IsPart kind values part → ⊥

abbrev pub IsBadContexts : List (List ℕ × List ℕ) → Type 0
IsBadContexts pairs = (graphs : List Graph) → AreContexts (values_of (name_of Context) pairs) graphs → ⊥

-- the parameter is bad, by itself
abbrev pub IsBad : List (List ℕ × List ℕ) → Parameter → Type 0
IsBad pairs Subject = IsBadPart kinds.Resource (values_of (name_of Subject) pairs)
IsBad pairs Predicate = IsBadPart kinds.Iri (values_of (name_of Predicate) pairs)
IsBad pairs Object = IsBadPart kinds.Any (values_of (name_of Object) pairs)
IsBad pairs Context = IsBadContexts pairs

-- the first bad one in the order subj, pred, obj, context
abbrev pub IsFirstBad : List (List ℕ × List ℕ) → Parameter → Type 0
IsFirstBad pairs Subject = IsBad pairs Subject
IsFirstBad pairs Predicate = (¬ (IsBad pairs Subject)) × IsBad pairs Predicate
IsFirstBad pairs Object = (¬ (IsBad pairs Subject)) × (¬ (IsBad pairs Predicate)) × IsBad pairs Object
IsFirstBad pairs Context = (¬ (IsBad pairs Subject)) × (¬ (IsBad pairs Predicate)) × (¬ (IsBad pairs Object)) × IsBad pairs Context

-- the graphs in which the contexts pick quads: every graph, where none is named
abbrev pub picks_of : List Graph → List GraphPick
picks_of [] = picks.Any ∷ []
picks_of (g ∷ gs) = map picks.One (g ∷ gs)

-- one pattern for each context with the given parts, or one for every graph
abbrev pub patterns_of : Selection → List Pattern
patterns_of it = map (λ pick. record { s = it.s; p = it.p; o = it.o; c = pick }) (picks_of it.contexts)

-- the quads that a selection selects: those that one of its patterns matches
abbrev pub selected : Selection → List Statement → List Statement
selected it quads = filter (λ q. list_any (λ p. matches p q) (patterns_of it)) quads
