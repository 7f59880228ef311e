-- Worked cases of the definitions, by computation.
use Rattle.std.proofs.Common.{◌≡◌, refl, true, false, [], ◌∷◌, Some, None, codes}
use Rattle.std.specs.Fmt.{digits}
use Rattle.rdf_term.specs.declared.term.Term.TheVariants as term
use Rattle.query_model.specs.declared.query.Query.TheVariants as query
use Rattle.query_model.specs.declared.query.Slot.TheVariants as slot
use Rattle.query_model.specs.declared.query.Scope.TheVariants as scope
use Rattle.query_print.specs.Printed.{printed}
use Rattle.query_model.specs.WellFormed.{is_label, is_var_name, IsWellFormed}

-- a string with an escape and a tag, in a named graph
in_a_graph : printed (query.Ask (record {
  s = slot.Var (codes "s");
  p = slot.Fixed (term.Iri (codes "e:p"));
  o = slot.Fixed (term.Tagged (codes "a\"b") (codes "en"));
  g = scope.Graph (slot.Var (codes "g"));
} ∷ [])) ≡ codes "ASK WHERE { GRAPH ?g { ?s <e:p> \"a\\\"b\"@en . } }"
in_a_graph = refl

-- no variable, DISTINCT and both numbers
cut_short : printed (query.Select true [] [] (record { limit = Some 0; offset = 17 })) ≡ codes "SELECT DISTINCT * WHERE { } LIMIT 0 OFFSET 17"
unfolding digits
cut_short = refl

-- a template and a group, without OFFSET
made : printed (query.Construct
    (record { s = slot.Var (codes "x"); p = slot.Var (codes "y"); o = slot.Fixed (term.Typed (codes "5") (codes "e:d")); g = scope.Any } ∷ [])
    (record { s = slot.Blank (codes "b"); p = slot.Var (codes "y"); o = slot.Var (codes "x"); g = scope.Any } ∷ [])
    (record { limit = None; offset = 0 }))
    ≡ codes "CONSTRUCT { ?x ?y \"5\"^^<e:d> . } WHERE { _:b ?y ?x . }"
made = refl

-- a label ends with no dot, and holds no colon; a variable's name holds no dash
dot_inside : is_label (codes "a.b") ≡ true
dot_inside = refl

dot_at_the_end : is_label (codes "a.") ≡ false
dot_at_the_end = refl

colon_inside : is_label (codes "a:b") ≡ false
colon_inside = refl

dash_inside : is_var_name (codes "a-b") ≡ false
dash_inside = refl

-- a blank node is a slot, and no term of a query
blank_term : IsWellFormed (query.Ask (record { s = slot.Var (codes "s"); p = slot.Var (codes "p"); o = slot.Fixed (term.Blank (codes "b")); g = scope.Any } ∷ [])) → ⊥
blank_term = λ h. h.each.0.object
