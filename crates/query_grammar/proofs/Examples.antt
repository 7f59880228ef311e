-- Worked cases by computation.
use Rattle.std.proofs.Common.{◌≡◌, refl, true, false, [], ◌∷◌, Some, None, codes}
use Rattle.std.specs.declared.result.Result.TheVariants.{Err}
use Rattle.query_tokens.specs.declared.token.Token.TheVariants as token
use Rattle.rdf_term.specs.declared.term.Term.TheVariants as term
use Rattle.query_model.specs.declared.query.Query.TheVariants as query
use Rattle.query_model.specs.declared.query.Slot.TheVariants as slot
use Rattle.query_model.specs.declared.query.Scope.TheVariants as scope
use Rattle.query_grammar.specs.declared.fault.Kind.TheVariants as kind
use Rattle.query_grammar.specs.declared.mode.Mode.TheVariants.{Head}
use Rattle.query_grammar.specs.Values.{part_refusal, iri_refusal, namespace, slot_of}
use Rattle.query_grammar.specs.Built.{empty, add, refusal, slot_refusal}
use Rattle.query_grammar.specs.Grammar.{Ask, Word, Literal, Tagged}
use Rattle.query_grammar.specs.Meaning.{query_in}
use Rattle.query_grammar.specs.Runs.{run}

-- the empty text
nothing : run Head empty [] ≡ Err (0, kind.BadAt)
nothing = refl

-- SELECT ?x WHERE { ?x ?p }
no_object : run Head empty (token.Select ∷ token.Var (codes "x") ∷ token.Where ∷ token.Open ∷ token.Var (codes "x") ∷ token.Var (codes "p") ∷ token.Close ∷ [])
    ≡ Err (6, kind.BadAt)
unfolding add refusal slot_refusal part_refusal
no_object = refl

-- SELECT ?x FROM <http://e/g> WHERE {}
from : run Head empty (token.Select ∷ token.Var (codes "x") ∷ token.Unsupported ∷ token.Iri (codes "http://e/g") ∷ []) ≡ Err (2, kind.Unsupported)
unfolding add refusal slot_refusal part_refusal
from = refl

-- ASK { e:a ?p ?o }
unknown : run Head empty (token.Ask ∷ token.Open ∷ token.Name (codes "e") (codes "a") ∷ token.Var (codes "p") ∷ token.Var (codes "o") ∷ token.Close ∷ [])
    ≡ Err (2, kind.UnknownPrefix)
unfolding add refusal slot_refusal part_refusal iri_refusal namespace
unknown = refl

-- ASK { GRAPH ?g { } }
empty_graph : run Head empty (token.Ask ∷ token.Open ∷ token.Graph ∷ token.Var (codes "g") ∷ token.Open ∷ token.Close ∷ token.Close ∷ []) ≡ Err (5, kind.Unsupported)
unfolding add refusal slot_refusal part_refusal
empty_graph = refl

-- """
quotes_at_the_start : run Head empty (token.Quotes ∷ []) ≡ Err (0, kind.BadAt)
quotes_at_the_start = refl

-- ASK { ?s ?p """
quotes_as_object : run Head empty (token.Ask ∷ token.Open ∷ token.Var (codes "s") ∷ token.Var (codes "p") ∷ token.Quotes ∷ []) ≡ Err (4, kind.Unsupported)
unfolding add refusal slot_refusal part_refusal
quotes_as_object = refl

-- ASK { ?s ?p "x"@en ;; . }
tagged : query_in (record {
  prefixes = [];
  kind = Ask false (record {
    block = Some (record {
      first = record {
        subject = Word (record { token = token.Var (codes "s"); fits = refl });
        first = record { verb = record { token = token.Var (codes "p"); fits = refl }; first = Literal (codes "x") (Tagged (codes "en")); more = [] };
        more = None ∷ None ∷ [];
      };
      more = [];
      dot = true;
    });
    graphs = [];
  });
})
    ≡ query.Ask (record { s = slot.Var (codes "s"); p = slot.Var (codes "p"); o = slot.Fixed (term.Tagged (codes "x") (codes "en")); g = scope.Any } ∷ [])
unfolding slot_of
tagged = refl
