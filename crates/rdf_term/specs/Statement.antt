-- What contracts see of a quad, and which parts make one.
use Rattle.rdf_term.specs.declared.term.Term.{Term}
use Rattle.rdf_term.specs.declared.graph.Graph.{Graph}
use Rattle.rdf_term.specs.Terms.{IsResource, IsIri, IsGraph}

-- a quad as contracts see it
pub record Statement : Type 0 where
  pub s : Term
  pub p : Term
  pub o : Term
  pub c : Graph

-- a literal is no subject, a predicate is an IRI, and a graph is named by no literal
pub record IsStatement (s p : Term) (c : Graph) : Type 0 where
  pub subject : IsResource s
  pub predicate : IsIri p
  pub graph : IsGraph c
