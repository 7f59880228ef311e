-- The tables of repositories, contexts and namespaces.
use Rattle.std.specs.Prelude.{ℕ, List, [], ◌∷◌, ◌++◌, Option, Some, map, codes}
use Rattle.rdf_term.specs.declared.term.Term.{Term}
use Rattle.rdf_term.specs.declared.term.Term.TheVariants.{Iri, Plain, Typed}
use Rattle.query_model.specs.declared.table.Table.{Table}
use Rattle.query_grammar.specs.Values.{xsd_boolean}

-- the literal true (XML Schema 1.1 Part 2, section 3.3.2)
abbrev pub true_term : Term
true_term = Typed (codes "true") xsd_boolean

-- a repository: its IRI, its ID, its ID once more as its title, and that it can be read and written
abbrev pub repository_row : List ℕ → List (Option Term)
repository_row id = Some (Iri (codes "urn:repository:" ++ id)) ∷ Some (Plain id) ∷ Some (Plain id) ∷ Some true_term ∷ Some true_term ∷ []

abbrev pub repository_names : List (List ℕ)
repository_names = codes "uri" ∷ codes "id" ∷ codes "title" ∷ codes "readable" ∷ codes "writable" ∷ []

-- the repositories, in the order in which they were named
abbrev pub repositories_table : List (List ℕ) → Table
repositories_table ids = record { vars = repository_names; rows = map repository_row ids }

abbrev pub context_names : List (List ℕ)
context_names = codes "contextID" ∷ []

abbrev pub context_row : Term → List (Option Term)
context_row name = Some name ∷ []

-- the names of graphs
abbrev pub contexts_table : List Term → Table
contexts_table names = record { vars = context_names; rows = map context_row names }

abbrev pub namespace_names : List (List ℕ)
namespace_names = codes "prefix" ∷ codes "namespace" ∷ []

abbrev pub namespace_row : List ℕ × List ℕ → List (Option Term)
namespace_row pair = Some (Plain pair.0) ∷ Some (Plain pair.1) ∷ []

-- prefixes with the names that they stand for
abbrev pub namespaces_table : List (List ℕ × List ℕ) → Table
namespaces_table pairs = record { vars = namespace_names; rows = map namespace_row pairs }
