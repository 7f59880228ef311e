-- Worked cases of the definitions, by computation.
use Rattle.std.proofs.Common.{◌≡◌, refl, [], ◌∷◌, ℕ, List, codes}
use Rattle.rdf_term.specs.declared.term.Term.TheVariants.{Iri, Plain}
use Rattle.rdf_term.specs.declared.graph.Graph.{Graph}
use Rattle.rdf_term.specs.declared.graph.Graph.TheVariants.{Absent, Named}
use Rattle.rdf_term.specs.Statement.{Statement}
use Rattle.change_set.specs.Content.{applied}
use Rattle.form_urlencoded.specs.Form.{raw_pairs, split}
use Rattle.api_parts.specs.Parameters.{path_of, query_of}
use Rattle.api_parts.specs.Selections.{each_once, selected}
use Rattle.api_parts.specs.Writes.{additions, removals, everything_in, replacements}

cut : (path_of (codes "/a?b=c?d") ≡ codes "/a") × (query_of (codes "/a?b=c?d") ≡ codes "b=c?d") × (query_of (codes "/a") ≡ [])
cut = (refl, refl, refl)

-- names and values as they stand, in their order
read : raw_pairs (codes "context=null&x+y=%22a%22") ≡ (codes "context", codes "null") ∷ (codes "x+y", codes "%22a%22") ∷ []
unfolding raw_pairs split
read = refl

abbrev quad : Graph → List ℕ → Statement
quad graph text = record { s = Iri (codes "http://e/s"); p = Iri (codes "http://e/p"); o = Plain text; c = graph }

abbrev g1 : Graph
g1 = Named (Iri (codes "http://e/g1"))

abbrev g2 : Graph
g2 = Named (Iri (codes "http://e/g2"))

-- a quad in no graph, and one in each of two
abbrev held : List Statement
held = quad Absent (codes "1") ∷ quad g1 (codes "2") ∷ quad g2 (codes "3") ∷ []

-- equal contexts count once
once : each_once (Absent ∷ g1 ∷ Absent ∷ []) ≡ Absent ∷ g1 ∷ []
unfolding lib.Utf8.encode
once = refl

-- a replacement in the absent graph and in g1 leaves what g2 holds, and puts its statement in both
replaced : applied held (replacements (Absent ∷ g1 ∷ []) (quad g2 (codes "9") ∷ []))
    ≡ quad g2 (codes "3") ∷ quad Absent (codes "9") ∷ quad g1 (codes "9") ∷ []
unfolding lib.Utf8.encode
replaced = refl

-- without contexts it leaves its own statements alone, each in its own graph
replaced_everywhere : applied held (replacements [] (quad g2 (codes "9") ∷ [])) ≡ quad g2 (codes "9") ∷ []
unfolding lib.Utf8.encode
replaced_everywhere = refl

-- what a context selects, and what is left where that is removed
chosen : (selected (everything_in (g1 ∷ [])) held ≡ quad g1 (codes "2") ∷ [])
    × (applied held (removals (everything_in (g1 ∷ []))) ≡ quad Absent (codes "1") ∷ quad g2 (codes "3") ∷ [])
unfolding lib.Utf8.encode
chosen = (refl, refl)

-- a statement is added in each context, and without contexts in its own graph
added : (applied [] (additions (g2 ∷ g1 ∷ []) (quad Absent (codes "1") ∷ [])) ≡ quad g1 (codes "1") ∷ quad g2 (codes "1") ∷ [])
    × (applied [] (additions [] (quad g1 (codes "1") ∷ [])) ≡ quad g1 (codes "1") ∷ [])
unfolding lib.Utf8.encode
added = (refl, refl)
