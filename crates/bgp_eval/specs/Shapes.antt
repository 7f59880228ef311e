-- The triples that a template makes of rows.
use Rattle.std.specs.Prelude.{List, Option}
use Rattle.std.specs.List.{filter_map}
use Rattle.rdf_term.specs.declared.term.Term.{Term}
use Rattle.rdf_term.specs.Statement.{Statement}
use Rattle.query_model.specs.declared.query.Slot.{Slot}
use Rattle.query_model.specs.declared.query.TriplePattern.{TriplePattern}
use Rattle.bgp_eval.specs.declared.construct.Shape.{Shape}
use Rattle.bgp_eval.specs.Parts.{part_of, part_value}
use Rattle.query_model.specs.Found.{triple_of}

-- a pattern of a template, with numbers in the place of unknowns
abbrev pub shape_of : List Slot → TriplePattern → Shape
shape_of names p = record { s = part_of names p.s; p = part_of names p.p; o = part_of names p.o }

-- the triple that a row makes of it
abbrev pub triple_in : List (Option Term) → Shape → Option Statement
triple_in row shape = triple_of (part_value row shape.s) (part_value row shape.p) (part_value row shape.o)

abbrev pub triples_in : List Shape → List (Option Term) → List Statement
triples_in shapes row = filter_map (triple_in row) shapes
