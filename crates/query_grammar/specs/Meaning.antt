-- The query that a tree is, rule by rule.
use Rattle.std.specs.Prelude.{ℕ, Bool, true, false, List, [], ◌∷◌, ◌++◌, Option, Some, None, map, encode_utf8_all}
use Rattle.std.specs.List.{flat_map}
use Rattle.std.specs.Option.{unwrap_or}
use Rattle.rdf_term.specs.declared.term.Term.TheVariants as term
use Rattle.query_model.specs.declared.query.Slot.{Slot}
use Rattle.query_model.specs.declared.query.Slot.TheVariants as slot
use Rattle.query_model.specs.declared.query.Scope.{Scope}
use Rattle.query_model.specs.declared.query.Scope.TheVariants as scope
use Rattle.query_model.specs.declared.query.TriplePattern.{TriplePattern}
use Rattle.query_model.specs.declared.query.Cut.{Cut as ACut}
use Rattle.query_model.specs.declared.query.Query.{Query}
use Rattle.query_model.specs.declared.query.Query.TheVariants as query
use Rattle.query_grammar.specs.Values.{Namespaces, declare, slot_of, with_type, count_of}
use Rattle.query_grammar.specs.Names.{standing, firsts}
use Rattle.query_grammar.specs.Grammar.{SlotTree, Word, Literal, Bare, Tagged, Typed, Part, Same, Block, GraphTree, Group, Cut, Cuts, Turned, Modifier, Distinct, Reduced, Projection, All, Vars, Kind, Select, Construct, Short, Ask, Tree}

-- a slot, where the prefixes stand for these namespaces
abbrev pub slot_in : Namespaces → SlotTree → Slot
slot_in ns (Word w) = slot_of ns w.token
slot_in ns (Literal t Bare) = slot.Fixed (term.Plain t)
slot_in ns (Literal t (Tagged g)) = slot.Fixed (term.Tagged t g)
slot_in ns (Literal t (Typed i)) = with_type (slot.Fixed (term.Plain t)) (slot_of ns i.token)

-- each object of a list makes a pattern with the subject and the verb before it, in the scope of its block
abbrev pub pattern_in : Namespaces → Scope → Slot → Slot → SlotTree → TriplePattern
pattern_in ns g s p o = record { s = s; p = p; o = slot_in ns o; g = g }

abbrev pub part_in : Namespaces → Scope → Slot → Part → List TriplePattern
part_in ns g s v = map (pattern_in ns g s (slot_of ns v.verb.token)) (v.first ∷ v.more)

abbrev pub optional_part_in : Namespaces → Scope → Slot → Option Part → List TriplePattern
optional_part_in ns g s None = []
optional_part_in ns g s (Some v) = part_in ns g s v

abbrev pub same_in : Namespaces → Scope → Same → List TriplePattern
same_in ns g x = part_in ns g (slot_in ns x.subject) x.first ++ flat_map (optional_part_in ns g (slot_in ns x.subject)) x.more

abbrev pub block_in : Namespaces → Scope → Block → List TriplePattern
block_in ns g b = same_in ns g b.first ++ flat_map (same_in ns g) b.more

abbrev pub optional_block_in : Namespaces → Scope → Option Block → List TriplePattern
optional_block_in ns g None = []
optional_block_in ns g (Some b) = block_in ns g b

-- the block of GRAPH stands in the graph that is named, and what is behind it outside of it
abbrev pub graph_in : Namespaces → GraphTree → List TriplePattern
graph_in ns t = optional_block_in ns (scope.Graph (slot_of ns t.name.token)) t.inside ++ optional_block_in ns scope.Any t.after

abbrev pub group_in : Namespaces → Group → List TriplePattern
group_in ns g = optional_block_in ns scope.Any g.block ++ flat_map (graph_in ns) g.graphs

-- the numbers behind LIMIT and OFFSET; without an OFFSET nothing is left out
abbrev pub limit_in : Option (List ℕ) → Option ℕ
limit_in None = None
limit_in (Some n) = count_of (encode_utf8_all n)

abbrev pub offset_in : Option (List ℕ) → ℕ
offset_in None = 0
offset_in (Some n) = unwrap_or (count_of (encode_utf8_all n)) 0

abbrev pub cut_in : Cut → ACut
cut_in (Cuts l o) = record { limit = limit_in l; offset = offset_in o }
cut_in (Turned o l) = record { limit = limit_in (Some l); offset = offset_in (Some o) }

-- `*` stands for the variables of the group
abbrev pub projected_in : Projection → List TriplePattern → List (List ℕ)
projected_in All patterns = standing patterns
projected_in (Vars v vs) patterns = firsts (v ∷ vs)

-- REDUCED has no effect
abbrev pub is_distinct : Option Modifier → Bool
is_distinct None = false
is_distinct (Some Distinct) = true
is_distinct (Some Reduced) = false

abbrev pub kind_in : Namespaces → Kind → Query
kind_in ns (Select m p w g c) = query.Select (is_distinct m) (projected_in p (group_in ns g)) (group_in ns g) (cut_in c)
kind_in ns (Construct b w g c) = query.Construct (optional_block_in ns scope.Any b) (group_in ns g) (cut_in c)
kind_in ns (Short b c) = query.Construct (optional_block_in ns scope.Any b) (optional_block_in ns scope.Any b) (cut_in c)
kind_in ns (Ask w g) = query.Ask (group_in ns g)

-- the namespaces behind these declarations
abbrev pub declared_in : Namespaces → List (List ℕ × List ℕ) → Namespaces
declared_in ns [] = ns
declared_in ns (p ∷ ps) = declared_in (declare ns p.0 p.1) ps

abbrev pub query_in : Tree → Query
query_in t = kind_in (declared_in [] t.prefixes) t.kind
