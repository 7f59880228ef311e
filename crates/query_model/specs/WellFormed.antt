-- The queries that some text gives: their parts meet the grammar (SPARQL 1.1, section 19.8) and the limits of this product.
use Rattle.std.specs.Prelude.{◌≡◌, ◌<◌, ◌≤◌, ◌^◌, ℕ, Bool, true, false, ◌&&◌, ◌||◌, IsTrue, List, [], ◌∷◌, Option, Some, None, codes, length}
use Rattle.std.specs.List.{list_all, list_any, AllByRecursion}
use Rattle.std.specs.Str.{all_scalars}
use Rattle.rdf_term.specs.declared.term.Term.{Term}
use Rattle.rdf_term.specs.declared.term.Term.TheVariants as term
use Rattle.rdf_term.specs.Classes.{is_digit, is_in, is_one_of, pn_chars_base}
use Rattle.rdf_term.specs.EachOnce.{EachOnce}
use Rattle.rdf_term.specs.Validity.{IsValidTerm, is_part}
use Rattle.query_model.specs.declared.query.Slot.{Slot}
use Rattle.query_model.specs.declared.query.Slot.TheVariants as slot
use Rattle.query_model.specs.declared.query.Scope.{Scope}
use Rattle.query_model.specs.declared.query.Scope.TheVariants as scope
use Rattle.query_model.specs.declared.query.TriplePattern.{TriplePattern}
use Rattle.query_model.specs.declared.query.Cut.{Cut}
use Rattle.query_model.specs.declared.query.Query.{Query}
use Rattle.query_model.specs.declared.query.Query.TheVariants as query

-- PN_CHARS_U ::= PN_CHARS_BASE | '_'
abbrev pub is_name_start : ℕ → Bool
is_name_start c = is_in pn_chars_base c || is_one_of (codes "_") c

-- PN_CHARS_U | [0-9], with which a variable's name and a label begin
abbrev pub is_label_start : ℕ → Bool
is_label_start c = is_name_start c || is_digit c

-- what VARNAME may go on with: PN_CHARS_U | [0-9] | #x00B7 | [#x0300-#x036F] | [#x203F-#x2040]
abbrev pub is_var_char : ℕ → Bool
is_var_char c = is_name_start c || is_in ((0x30, 0x39) ∷ (0xB7, 0xB7) ∷ (0x300, 0x36F) ∷ (0x203F, 0x2040) ∷ []) c

-- PN_CHARS ::= PN_CHARS_U | '-' | [0-9] | #x00B7 | [#x0300-#x036F] | [#x203F-#x2040]
abbrev pub is_name_char : ℕ → Bool
is_name_char c = is_var_char c || is_one_of (codes "-") c

-- PN_CHARS | '.'
abbrev pub is_dotted : ℕ → Bool
is_dotted c = is_name_char c || is_one_of (codes ".") c

-- VARNAME ::= ( PN_CHARS_U | [0-9] ) ( PN_CHARS_U | [0-9] | #x00B7 | [#x0300-#x036F] | [#x203F-#x2040] )*
abbrev pub is_var_name : List ℕ → Bool
is_var_name [] = false
is_var_name (c ∷ cs) = is_label_start c && list_all is_var_char cs

-- ( ( PN_CHARS | '.' )* PN_CHARS )?
abbrev pub is_label_rest : List ℕ → Bool
is_label_rest [] = true
is_label_rest (c ∷ []) = is_name_char c
is_label_rest (c ∷ d ∷ cs) = is_dotted c && is_label_rest (d ∷ cs)

-- BLANK_NODE_LABEL without `_:` ::= ( PN_CHARS_U | [0-9] ) ( ( PN_CHARS | '.' )* PN_CHARS )?
abbrev pub is_label : List ℕ → Bool
is_label [] = false
is_label (c ∷ cs) = is_label_start c && is_label_rest cs

-- a variable's name: a text of Unicode characters, of any length
abbrev pub IsVarName : List ℕ → Type 0
IsVarName name = IsTrue (all_scalars name && is_var_name name)

-- a blank node's label, which is no longer than any part of a term
abbrev pub IsLabel : List ℕ → Type 0
IsLabel label = IsTrue (is_part label && is_label label)

-- a valid term but a blank node, which is a slot of its own
abbrev pub IsFixed : Term → Type 0
IsFixed (term.Iri iri) = IsValidTerm (term.Iri iri)
IsFixed (term.Blank label) = ⊥
IsFixed (term.Plain text) = IsValidTerm (term.Plain text)
IsFixed (term.Tagged text tag) = IsValidTerm (term.Tagged text tag)
IsFixed (term.Typed text datatype) = IsValidTerm (term.Typed text datatype)

-- a subject or an object
abbrev pub IsSlot : Slot → Type 0
IsSlot (slot.Var name) = IsVarName name
IsSlot (slot.Blank label) = IsLabel label
IsSlot (slot.Fixed term) = IsFixed term

abbrev pub IsIri : Term → Type 0
IsIri (term.Iri iri) = IsValidTerm (term.Iri iri)
IsIri (term.Blank label) = ⊥
IsIri (term.Plain text) = ⊥
IsIri (term.Tagged text tag) = ⊥
IsIri (term.Typed text datatype) = ⊥

-- a predicate or a graph's name: a variable or an IRI
abbrev pub IsVarOrIri : Slot → Type 0
IsVarOrIri (slot.Var name) = IsVarName name
IsVarOrIri (slot.Blank label) = ⊥
IsVarOrIri (slot.Fixed term) = IsIri term

abbrev pub IsScope : Scope → Type 0
IsScope scope.Any = Unit {0}
IsScope (scope.Graph name) = IsVarOrIri name

-- a pattern of a group
pub record IsPattern (x : TriplePattern) : Type 0 where
  pub subject : IsSlot x.s
  pub predicate : IsVarOrIri x.p
  pub object : IsSlot x.o
  pub scope : IsScope x.g

-- no blank node
abbrev pub IsLabelFree : Slot → Type 0
IsLabelFree (slot.Var name) = Unit {0}
IsLabelFree (slot.Blank label) = ⊥
IsLabelFree (slot.Fixed term) = Unit {0}

-- a pattern of a template, which stands outside GRAPH and has no blank node
pub record IsTemplatePattern (x : TriplePattern) : Type 0 where
  pub pattern : IsPattern x
  pub subject : IsLabelFree x.s
  pub object : IsLabelFree x.o
  pub scope : x.g ≡ scope.Any

-- at most 256 patterns
pub record ArePatterns (xs : List TriplePattern) : Type 0 where
  pub count : length xs ≤ 256
  pub each : AllByRecursion IsPattern xs

pub record AreTemplate (xs : List TriplePattern) : Type 0 where
  pub count : length xs ≤ 256
  pub each : AllByRecursion IsTemplatePattern xs

-- LIMIT and OFFSET take at most 18 digits
abbrev pub IsCount : ℕ → Type 0
IsCount n = n < 10 ^ 18

abbrev pub IsLimit : Option ℕ → Type 0
IsLimit None = Unit {0}
IsLimit (Some n) = IsCount n

pub record IsCut (c : Cut) : Type 0 where
  pub limit : IsLimit c.limit
  pub offset : IsCount c.offset

abbrev pub is_variable : Slot → Bool
is_variable (slot.Var name) = true
is_variable (slot.Blank label) = false
is_variable (slot.Fixed term) = false

abbrev pub is_variable_graph : Scope → Bool
is_variable_graph scope.Any = false
is_variable_graph (scope.Graph name) = is_variable name

-- whether a variable stands in the pattern
abbrev pub has_variable : TriplePattern → Bool
has_variable x = is_variable_graph x.g || (is_variable x.s || (is_variable x.p || is_variable x.o))

-- distinct variables; there is none only where SELECT * finds none in the group
pub record AreProjected (vars : List (List ℕ)) (group : List TriplePattern) : Type 0 where
  pub each : AllByRecursion IsVarName vars
  pub once : EachOnce vars
  pub none : vars ≡ [] → list_any has_variable group ≡ false

-- a query that some text gives
abbrev pub IsWellFormed : Query → Type 0
IsWellFormed (query.Select distinct vars group cut) = AreProjected vars group × ArePatterns group × IsCut cut
IsWellFormed (query.Ask group) = ArePatterns group
IsWellFormed (query.Construct template group cut) = AreTemplate template × ArePatterns group × IsCut cut
