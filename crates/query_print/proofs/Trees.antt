-- The tree of what is printed of a query, and that it is the query.
use Rattle.std.proofs.Common.{◌≡◌, ℕ, zero, suc, Bool, true, false, not, if◌then◌else◌, List, [], ◌∷◌, ◌++◌, refl, ◌∙◌, sym, ap, Option, Some, None}
use Rattle.std.specs.List.{flat_map, AllByRecursion}
use Rattle.std.specs.Fmt.{decimal}
use Rattle.std.specs.Str.{bytes_eq}
use Rattle.std.specs.Option.{unwrap_or}
use Rattle.rdf_term.specs.declared.term.Term.TheVariants as term
use Rattle.rdf_term.specs.Validity.{xsd_string}
use Rattle.query_print.proofs.Truths.{split}
use Rattle.query_tokens.specs.declared.token.Token.TheVariants as token
use Rattle.query_model.specs.declared.query.Slot.{Slot}
use Rattle.query_model.specs.declared.query.Slot.TheVariants as slot
use Rattle.query_model.specs.declared.query.Scope.{Scope}
use Rattle.query_model.specs.declared.query.Scope.TheVariants as scope
use Rattle.query_model.specs.declared.query.TriplePattern.{TriplePattern}
use Rattle.query_model.specs.declared.query.Cut.{Cut as ACut}
use Rattle.query_model.specs.declared.query.Query.{Query}
use Rattle.query_model.specs.declared.query.Query.TheVariants as query
use Rattle.query_grammar.specs.Classes.{is_verb, is_graph_name}
use Rattle.query_grammar.specs.Grammar.{In, SlotTree, Word, Literal, Bare, Tagged, Typed, Same, Block, Group, Cut, Cuts, Modifier, Distinct, Projection, All, Vars, Kind, Select, Construct, Ask, Tree}
use Rattle.query_grammar.specs.Meaning.{slot_in, block_in, optional_block_in, group_in, graph_in, limit_in, offset_in, cut_in}
use Rattle.query_grammar.specs.Values.{slot_of, typed}
use Rattle.query_model.specs.WellFormed.{IsSlot, IsVarOrIri, IsPattern, IsTemplatePattern, IsLimit, IsCount, IsCut}
use Rattle.query_print.proofs.Numbers.{decimal_read}

abbrev pub slot_tree : Slot → SlotTree
slot_tree (slot.Var n) = Word (record { token = token.Var n; fits = refl })
slot_tree (slot.Blank l) = Word (record { token = token.Label l; fits = refl })
slot_tree (slot.Fixed (term.Iri i)) = Word (record { token = token.Iri i; fits = refl })
slot_tree (slot.Fixed (term.Blank l)) = Word (record { token = token.Label l; fits = refl })
slot_tree (slot.Fixed (term.Plain t)) = Literal t Bare
slot_tree (slot.Fixed (term.Tagged t g)) = Literal t (Tagged g)
slot_tree (slot.Fixed (term.Typed t d)) = Literal t (Typed (record { token = token.Iri d; fits = refl }))

abbrev pub verb_tree : Slot → In is_verb
verb_tree (slot.Var n) = record { token = token.Var n; fits = refl }
verb_tree (slot.Blank l) = record { token = token.A; fits = refl }
verb_tree (slot.Fixed (term.Iri i)) = record { token = token.Iri i; fits = refl }
verb_tree (slot.Fixed (term.Blank l)) = record { token = token.A; fits = refl }
verb_tree (slot.Fixed (term.Plain t)) = record { token = token.A; fits = refl }
verb_tree (slot.Fixed (term.Tagged t g)) = record { token = token.A; fits = refl }
verb_tree (slot.Fixed (term.Typed t d)) = record { token = token.A; fits = refl }

abbrev pub name_tree : Slot → In is_graph_name
name_tree (slot.Var n) = record { token = token.Var n; fits = refl }
name_tree (slot.Blank l) = record { token = token.Var l; fits = refl }
name_tree (slot.Fixed (term.Iri i)) = record { token = token.Iri i; fits = refl }
name_tree (slot.Fixed (term.Blank l)) = record { token = token.Var l; fits = refl }
name_tree (slot.Fixed (term.Plain t)) = record { token = token.Var t; fits = refl }
name_tree (slot.Fixed (term.Tagged t g)) = record { token = token.Var t; fits = refl }
name_tree (slot.Fixed (term.Typed t d)) = record { token = token.Var t; fits = refl }

abbrev pub same_tree : TriplePattern → Same
same_tree x = record { subject = slot_tree x.s; first = record { verb = verb_tree x.p; first = slot_tree x.o; more = [] }; more = [] }

-- a pattern, and the block behind it
abbrev pub before_block : TriplePattern → Option Block → Block
before_block x None = record { first = same_tree x; more = []; dot = true }
before_block x (Some b) = record { first = same_tree x; more = b.first ∷ b.more; dot = b.dot }

-- a pattern outside GRAPH stands before the block that stands first; behind one in a graph stands what stood first
abbrev pub before_group : Scope → TriplePattern → Group → Group
before_group scope.Any x g = record { block = Some (before_block x g.block); graphs = g.graphs }
before_group (scope.Graph s) x g = record {
  block = None;
  graphs = record { name = name_tree s; inside = Some (before_block x None); dot = false; after = g.block } ∷ g.graphs;
}

abbrev pub group_tree : List TriplePattern → Group
group_tree [] = record { block = None; graphs = [] }
group_tree (x ∷ xs) = before_group x.g x (group_tree xs)

abbrev pub block_tree : List TriplePattern → Option Block
block_tree [] = None
block_tree (x ∷ xs) = Some (before_block x (block_tree xs))

abbrev pub limit_tree : Option ℕ → Option (List ℕ)
limit_tree None = None
limit_tree (Some n) = Some (decimal n)

abbrev pub offset_tree : ℕ → Option (List ℕ)
offset_tree zero = None
offset_tree (suc n) = Some (decimal (suc n))

abbrev pub cut_tree : ACut → Cut
cut_tree c = Cuts (limit_tree c.limit) (offset_tree c.offset)

abbrev pub modifier_tree : Bool → Option Modifier
modifier_tree false = None
modifier_tree true = Some Distinct

abbrev pub projection_tree : List (List ℕ) → Projection
projection_tree [] = All
projection_tree (v ∷ vs) = Vars v vs

abbrev pub kind_tree : Query → Kind
kind_tree (query.Select distinct vars group cut) = Select (modifier_tree distinct) (projection_tree vars) true (group_tree group) (cut_tree cut)
kind_tree (query.Ask group) = Ask true (group_tree group)
kind_tree (query.Construct template group cut) = Construct (block_tree template) true (group_tree group) (cut_tree cut)

abbrev pub query_tree : Query → Tree
query_tree q = record { prefixes = []; kind = kind_tree q }

-- what the tree means

other_typed : (t d : List ℕ) (b : Bool) → not b ≡ true → (if b then term.Plain t else term.Typed t d) ≡ term.Typed t d
other_typed t d true h = cc
other_typed t d false h = refl

slot_means : (s : Slot) → IsSlot s → slot_in [] (slot_tree s) ≡ s
unfolding slot_of typed
slot_means (slot.Var n) h = refl
slot_means (slot.Blank l) h = refl
slot_means (slot.Fixed (term.Iri i)) h = refl
slot_means (slot.Fixed (term.Blank l)) h = absurd h
slot_means (slot.Fixed (term.Plain t)) h = refl
slot_means (slot.Fixed (term.Tagged t g)) h = refl
slot_means (slot.Fixed (term.Typed t d)) h = ap slot.Fixed (other_typed t d (bytes_eq d xsd_string) (split _ (not (bytes_eq d xsd_string)) h).1)

verb_means : (s : Slot) → IsVarOrIri s → slot_of [] (verb_tree s).token ≡ s
unfolding slot_of
verb_means (slot.Var n) h = refl
verb_means (slot.Blank l) h = absurd h
verb_means (slot.Fixed (term.Iri i)) h = refl
verb_means (slot.Fixed (term.Blank l)) h = absurd h
verb_means (slot.Fixed (term.Plain t)) h = absurd h
verb_means (slot.Fixed (term.Tagged t g)) h = absurd h
verb_means (slot.Fixed (term.Typed t d)) h = absurd h

name_means : (s : Slot) → IsVarOrIri s → slot_of [] (name_tree s).token ≡ s
unfolding slot_of
name_means (slot.Var n) h = refl
name_means (slot.Blank l) h = absurd h
name_means (slot.Fixed (term.Iri i)) h = refl
name_means (slot.Fixed (term.Blank l)) h = absurd h
name_means (slot.Fixed (term.Plain t)) h = absurd h
name_means (slot.Fixed (term.Tagged t g)) h = absurd h
name_means (slot.Fixed (term.Typed t d)) h = absurd h

-- the pattern of a tree, in a scope
abbrev pattern_at : Scope → TriplePattern → TriplePattern
pattern_at g x = record { s = slot_in [] (slot_tree x.s); p = slot_of [] (verb_tree x.p).token; o = slot_in [] (slot_tree x.o); g = g }

pattern_means : (x : TriplePattern) (g : Scope) → IsPattern x → g ≡ x.g → pattern_at g x ≡ x
pattern_means x g h e =
    ap (λ (s : Slot). record { s = s; p = slot_of [] (verb_tree x.p).token; o = slot_in [] (slot_tree x.o); g = g }) (slot_means x.s h.subject)
    ∙ ap (λ (p : Slot). record { s = x.s; p = p; o = slot_in [] (slot_tree x.o); g = g }) (verb_means x.p h.predicate)
    ∙ ap (λ (o : Slot). record { s = x.s; p = x.p; o = o; g = g }) (slot_means x.o h.object)
    ∙ ap (λ (g : Scope). record { s = x.s; p = x.p; o = x.o; g = g }) e

block_means : (x : TriplePattern) (g : Scope) (b : Option Block) → block_in [] g (before_block x b) ≡ pattern_at g x ∷ optional_block_in [] g b
block_means x g None = refl
block_means x g (Some b) = refl

step : (x : TriplePattern) (g : Scope) (xs : List TriplePattern) (rest : Group) → IsPattern x → x.g ≡ g → group_in [] rest ≡ xs
    → group_in [] (before_group g x rest) ≡ x ∷ xs
step x scope.Any xs rest h e k =
    ap (λ ys. ys ++ flat_map (graph_in []) rest.graphs) (block_means x scope.Any rest.block)
    ∙ ap (λ y. y ∷ group_in [] rest) (pattern_means x scope.Any h (sym e)) ∙ ap (λ ys. x ∷ ys) k
step x (scope.Graph s) xs rest h e k =
    let named : IsVarOrIri s = rw e at h.scope in
    ap (λ g. pattern_at (scope.Graph g) x ∷ group_in [] rest) (name_means s named)
    ∙ ap (λ y. y ∷ group_in [] rest) (pattern_means x (scope.Graph s) h (sym e)) ∙ ap (λ ys. x ∷ ys) k

pub group_means : (xs : List TriplePattern) → AllByRecursion IsPattern xs → group_in [] (group_tree xs) ≡ xs
group_means [] h = refl
group_means (x ∷ xs) h = step x x.g xs (group_tree xs) h.0 refl (group_means xs h.1)

pub template_means : (xs : List TriplePattern) → AllByRecursion IsTemplatePattern xs → optional_block_in [] scope.Any (block_tree xs) ≡ xs
template_means [] h = refl
template_means (x ∷ xs) h =
    block_means x scope.Any (block_tree xs) ∙ ap (λ y. y ∷ optional_block_in [] scope.Any (block_tree xs)) (pattern_means x scope.Any h.0.pattern (sym h.0.scope))
    ∙ ap (λ ys. x ∷ ys) (template_means xs h.1)

limit_means : (l : Option ℕ) → IsLimit l → limit_in (limit_tree l) ≡ l
limit_means None h = refl
limit_means (Some n) h = decimal_read n h

offset_means : (n : ℕ) → IsCount n → offset_in (offset_tree n) ≡ n
offset_means zero h = refl
offset_means (suc n) h = ap (λ o. unwrap_or o 0) (decimal_read (suc n) h)

pub cut_means : (c : ACut) → IsCut c → cut_in (cut_tree c) ≡ c
cut_means c h =
    ap (λ (l : Option ℕ). record { limit = l; offset = offset_in (offset_tree c.offset) }) (limit_means c.limit h.limit)
    ∙ ap (λ (n : ℕ). record { limit = c.limit; offset = n }) (offset_means c.offset h.offset)
