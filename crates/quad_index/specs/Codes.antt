-- Quads as numbers: the ranks of their terms in a dictionary, a strictly ascending list of terms.
use Rattle.std.specs.Prelude.{◌≡◌, ℕ, ◌<◌, ◌≤◌, ◌-◌, ◌^◌, Bool, true, false, cond, nat_le, nat_lt, ◌&&◌, List, [], ◌∷◌, ◌++◌, slice_index_or, length}
use Rattle.std.specs.List.{list_any, count_by, All}
use Rattle.std.specs.List.Sorted.{IsStrictlySortedBy, IsSorted}
use Rattle.std.proofs.Common.{zero, suc}
use Rattle.std.specs.Ordering.{on, then_cmp, nat_cmp, eq_by_cmp, is_lt, is_le}
use Rattle.std.specs.Cmp.{IsTotalOrder}
use Rattle.std.specs.declared.cmp.Ordering.{Ordering}
use Rattle.std.proofs.lemmas.Cmp.{on_total, then_total, nat_cmp_total}
use Rattle.rdf_term.specs.declared.term.Term.{Term}
use Rattle.rdf_term.specs.declared.term.Term.TheVariants.{Iri}
use Rattle.rdf_term.specs.declared.graph.Graph.{Graph}
use Rattle.rdf_term.specs.declared.graph.Graph.TheVariants.{Absent, Named}
use Rattle.rdf_term.specs.Order.{term_cmp, graph_cmp}
use Rattle.rdf_term.specs.Statement.{Statement, IsStatement}
use Rattle.quad_index.specs.declared.letter.Letter.{Letter}
use Rattle.quad_index.specs.declared.letter.Letter.TheVariants.{S, P, O, C}
use Rattle.quad_index.specs.declared.code.Code.{Code}
use Rattle.quad_index.specs.Letters.{same_letter}

-- codes are ordered number by number
abbrev pub code_cmp : Code → Code → Ordering
code_cmp = then_cmp (on (λ k. k.first) nat_cmp) (then_cmp (on (λ k. k.second) nat_cmp)
    (then_cmp (on (λ k. k.third) nat_cmp) (on (λ k. k.fourth) nat_cmp)))

pub code_total : IsTotalOrder code_cmp
code_total = then_total (on_total (λ k. k.first) nat_cmp_total) (then_total (on_total (λ k. k.second) nat_cmp_total)
    (then_total (on_total (λ k. k.third) nat_cmp_total) (on_total (λ k. k.fourth) nat_cmp_total)))

-- the terms ascend, and there are so few that a rank and one more than it are a u32
pub record IsDictionary (terms : List Term) : Type 0 where
  pub ascending : IsStrictlySortedBy term_cmp terms
  pub few : length terms < 2 ^ 32 - 1

-- the term of a rank
abbrev pub term_at : List Term → ℕ → Term
term_at terms rank = slice_index_or terms rank (Iri [])

-- the graph of a number: 0 for the absent one, or one more than the rank of its name
abbrev pub graph_at : List Term → ℕ → Graph
graph_at terms zero = Absent
graph_at terms (suc rank) = Named (term_at terms rank)

-- the quad of a code in the order subject, predicate, object, graph
abbrev pub decode : List Term → Code → Statement
decode terms k = record { s = term_at terms k.first; p = term_at terms k.second; o = term_at terms k.third; c = graph_at terms k.fourth }

-- the code is a quad's
pub record IsCode (terms : List Term) (k : Code) : Type 0 where
  pub subject : k.first < length terms
  pub predicate : k.second < length terms
  pub object : k.third < length terms
  pub graph : k.fourth ≤ length terms
  pub statement : IsStatement (term_at terms k.first) (term_at terms k.second) (graph_at terms k.fourth)

-- the numbers of a code are ranks in the dictionary
abbrev pub is_ranked : List Term → Code → Bool
is_ranked terms k = nat_lt k.first (length terms) && nat_lt k.second (length terms) && nat_lt k.third (length terms) && nat_le k.fourth (length terms)

-- the quad of a code passes a test
abbrev pub passes_at : (Statement → Bool) → List Term → Code → Bool
passes_at test terms k = is_ranked terms k && test (decode terms k)

-- a term is in the dictionary
abbrev pub is_known : List Term → Term → Bool
is_known terms t = list_any (eq_by_cmp term_cmp t) terms

abbrev pub IsKnown : List Term → Term → Type 0
IsKnown terms t = is_known terms t ≡ true

-- the terms of a graph's name, and of a quad
abbrev pub graph_terms : Graph → List Term
graph_terms Absent = []
graph_terms (Named t) = t ∷ []

abbrev pub terms_of : Statement → List Term
terms_of q = q.s ∷ q.p ∷ q.o ∷ graph_terms q.c

-- a term, unless it is another one; the name of a graph, unless it is another graph; and the terms of a quad
-- without its subject, predicate and graph where they are those of another quad
abbrev pub unless_same : Term → Term → List Term
unless_same other t = cond (eq_by_cmp term_cmp t other) [] (t ∷ [])

abbrev pub unless_same_graph : Graph → Graph → List Term
unless_same_graph other g = cond (eq_by_cmp graph_cmp g other) [] (graph_terms g)

abbrev pub new_terms : Statement → Statement → List Term
new_terms other q = unless_same other.s q.s ++ unless_same other.p q.p ++ q.o ∷ unless_same_graph other.c q.c

-- the number of the part that a letter names
abbrev pub part : Code → Letter → ℕ
part k S = k.first
part k P = k.second
part k O = k.third
part k C = k.fourth

-- the numbers of a code in an order
abbrev pub arrange : List Letter → Code → Code
arrange order k = record {
  first = part k (slice_index_or order 0 S);
  second = part k (slice_index_or order 1 S);
  third = part k (slice_index_or order 2 S);
  fourth = part k (slice_index_or order 3 S);
}

-- the number that stands at a letter's place in an order
abbrev pub number_of : List Letter → Code → Letter → ℕ
number_of order k letter = cond (same_letter letter (slice_index_or order 0 S)) k.first
    (cond (same_letter letter (slice_index_or order 1 S)) k.second
    (cond (same_letter letter (slice_index_or order 2 S)) k.third k.fourth))

-- the code whose numbers stand in an order
abbrev pub arrange_back : List Letter → Code → Code
arrange_back order k = record { first = number_of order k S; second = number_of order k P; third = number_of order k O; fourth = number_of order k C }

-- each number lies between those of two other codes
abbrev pub is_between : ℕ → ℕ → ℕ → Bool
is_between low high n = nat_le low n && nat_le n high

abbrev pub is_within : Code → Code → Code → Bool
is_within low high k = is_between low.first high.first k.first && is_between low.second high.second k.second
    && is_between low.third high.third k.third && is_between low.fourth high.fourth k.fourth

-- the same codes, each as often
pub record HasSame (xs ys : List Code) : Type 0 where
  pub counts : (test : Code → Bool) → count_by test xs ≡ count_by test ys

-- as many codes of each kind that lies within bounds
pub record HasSameWithin (low high : Code) (xs ys : List Code) : Type 0 where
  pub counts : (test : Code → Bool) → ((k : Code) → test k ≡ true → is_within low high k ≡ true) → count_by test xs ≡ count_by test ys

-- a key lies between two others or is one of them
pub record IsFromTo (first last key : Code) : Type 0 where
  pub from : is_lt (code_cmp key first) ≡ false
  pub to : is_le (code_cmp key last) ≡ true

-- keys that ascend, each of them a code's numbers in an order
pub record IsRun (letters : List Letter) (keys : List Code) : Type 0 where
  pub sorted : IsSorted code_cmp keys
  pub arranged : All (λ key. arrange letters (arrange_back letters key) ≡ key) keys
