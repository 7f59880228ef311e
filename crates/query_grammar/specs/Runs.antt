-- What the code does, as a function on lists of tokens: the query, or at which of the tokens it stops.
use Rattle.std.specs.Prelude.{ℕ, suc, Bool, true, false, List, [], ◌∷◌, Option, Some, None}
use Rattle.std.specs.declared.result.Result.{Result}
use Rattle.std.specs.declared.result.Result.TheVariants.{Ok, Err}
use Rattle.query_tokens.specs.declared.token.Token.{Token}
use Rattle.query_grammar.specs.declared.mode.Role.{Role}
use Rattle.query_grammar.specs.declared.mode.Mode.{Mode}
use Rattle.query_model.specs.declared.query.Query.{Query}
use Rattle.query_grammar.specs.declared.fault.Kind.{Kind}
use Rattle.query_grammar.specs.declared.fault.Kind.TheVariants as fault
use Rattle.query_grammar.specs.declared.built.Built.{Built}
use Rattle.query_grammar.specs.Machine.{next, can_end}
use Rattle.query_grammar.specs.Built.{refusal, add, query_of}
use Rattle.query_grammar.specs.Queries.{by_itself}

abbrev pub later : Result Query (ℕ × Kind) → Result Query (ℕ × Kind)
later (Ok q) = Ok q
later (Err e) = Err (suc e.0, e.1)

abbrev pub checked : Option Kind → Result Query (ℕ × Kind) → Result Query (ℕ × Kind)
checked None r = later r
checked (Some k) r = Err (0, k)

abbrev pub taken : Built → Token → (Mode → Built → Result Query (ℕ × Kind)) → Option (Role × Mode) → Result Query (ℕ × Kind)
taken b t go None = Err (0, by_itself t)
taken b t go (Some x) = checked (refusal b x.0 t) (go x.1 (add b x.0 t))

abbrev pub at_end : Built → Bool → Result Query (ℕ × Kind)
at_end b true = Ok (query_of b)
at_end b false = Err (0, fault.BadAt)

abbrev pub run : Mode → Built → List Token → Result Query (ℕ × Kind)
run m b [] = at_end b (can_end m)
run m b (t ∷ ts) = taken b t (λ m' b'. run m' b' ts) (next m t)
