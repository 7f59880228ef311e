-- Well-formedness as tests that compute. That the variables are distinct isn't tested: the type of their list says so.
use Rattle.std.specs.Prelude.{ℕ, ◌^◌, ◌==◌, Bool, true, false, ◌&&◌, ◌||◌, not, nat_le, nat_lt, List, [], ◌∷◌, Option, Some, None, length}
use Rattle.std.specs.List.{list_all, list_any}
use Rattle.std.specs.Str.{all_scalars}
use Rattle.rdf_term.specs.declared.term.Term.{Term}
use Rattle.rdf_term.specs.declared.term.Term.TheVariants as term
use Rattle.rdf_term.specs.Validity.{is_part, is_valid}
use Rattle.query_model.specs.declared.query.Slot.{Slot}
use Rattle.query_model.specs.declared.query.Slot.TheVariants as slot
use Rattle.query_model.specs.declared.query.Scope.{Scope}
use Rattle.query_model.specs.declared.query.Scope.TheVariants as scope
use Rattle.query_model.specs.declared.query.TriplePattern.{TriplePattern}
use Rattle.query_model.specs.declared.query.Cut.{Cut}
use Rattle.query_model.specs.WellFormed.{has_variable, is_label, is_var_name}

abbrev pub is_name : List ℕ → Bool
is_name name = all_scalars name && is_var_name name

abbrev pub is_no_colon : ℕ → Bool
is_no_colon c = not (c == 58)

abbrev pub is_blank : List ℕ → Bool
is_blank label = is_part label && is_label label

abbrev pub is_fixed : Term → Bool
is_fixed (term.Iri iri) = is_valid (term.Iri iri)
is_fixed (term.Blank label) = false
is_fixed (term.Plain text) = is_valid (term.Plain text)
is_fixed (term.Tagged text tag) = is_valid (term.Tagged text tag)
is_fixed (term.Typed text datatype) = is_valid (term.Typed text datatype)

abbrev pub is_slot : Slot → Bool
is_slot (slot.Var name) = is_name name
is_slot (slot.Blank label) = is_blank label
is_slot (slot.Fixed term) = is_fixed term

abbrev pub is_fixed_iri : Term → Bool
is_fixed_iri (term.Iri iri) = is_valid (term.Iri iri)
is_fixed_iri (term.Blank label) = false
is_fixed_iri (term.Plain text) = false
is_fixed_iri (term.Tagged text tag) = false
is_fixed_iri (term.Typed text datatype) = false

abbrev pub is_var_or_iri : Slot → Bool
is_var_or_iri (slot.Var name) = is_name name
is_var_or_iri (slot.Blank label) = false
is_var_or_iri (slot.Fixed term) = is_fixed_iri term

abbrev pub is_scope : Scope → Bool
is_scope scope.Any = true
is_scope (scope.Graph name) = is_var_or_iri name

abbrev pub is_pattern : TriplePattern → Bool
is_pattern x = is_slot x.s && (is_var_or_iri x.p && (is_slot x.o && is_scope x.g))

abbrev pub is_label_free : Slot → Bool
is_label_free (slot.Var name) = true
is_label_free (slot.Blank label) = false
is_label_free (slot.Fixed term) = true

abbrev pub is_any : Scope → Bool
is_any scope.Any = true
is_any (scope.Graph name) = false

abbrev pub is_template_pattern : TriplePattern → Bool
is_template_pattern x = is_pattern x && (is_label_free x.s && (is_label_free x.o && is_any x.g))

abbrev pub are_patterns : List TriplePattern → Bool
are_patterns xs = nat_le (length xs) 256 && list_all is_pattern xs

abbrev pub are_template : List TriplePattern → Bool
are_template xs = nat_le (length xs) 256 && list_all is_template_pattern xs

abbrev pub is_count : ℕ → Bool
is_count n = nat_lt n (10 ^ 18)

abbrev pub is_limit : Option ℕ → Bool
is_limit None = true
is_limit (Some n) = is_count n

abbrev pub is_cut : Cut → Bool
is_cut c = is_limit c.limit && is_count c.offset

abbrev pub is_none : List (List ℕ) → Bool
is_none [] = true
is_none (v ∷ vs) = false

abbrev pub are_projected : List (List ℕ) → List TriplePattern → Bool
are_projected vars group = list_all is_name vars && (not (is_none vars) || not (list_any has_variable group))
