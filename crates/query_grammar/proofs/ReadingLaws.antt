-- How far the reading of a text has come: what is left leads to what the whole text leads to.
use Rattle.std.proofs.Common.{◌≡◌, ◌+◌, ◌∙◌, refl, sym, ap, subst, arith, ℕ, suc, Bool, true, false, List, [], ◌∷◌, length, Option, Some, None}
use Rattle.std.specs.declared.result.Result.{Result}
use Rattle.std.specs.declared.result.Result.TheVariants.{Ok, Err}
use Rattle.std.specs.Str.{chars}
use Rattle.query_tokens.specs.declared.token.Token.{Token}
use Rattle.query_tokens.specs.declared.token.Placed.{Placed}
use Rattle.query_tokens.specs.Laws.{EachHasTokens, OneTokenList}
use Rattle.query_tokens.specs.Tokens.{AreTokens, AreTokensLeft, IsFirstOf, Left, byte_count}
use Rattle.query_model.specs.declared.query.Query.{Query}
use Rattle.query_grammar.specs.declared.fault.Kind.{Kind}
use Rattle.query_grammar.specs.declared.fault.Stop.{Stop}
use Rattle.query_grammar.specs.declared.fault.Stop.TheVariants as stop
use Rattle.query_grammar.specs.declared.mode.Role.{Role}
use Rattle.query_grammar.specs.declared.mode.Mode.{Mode}
use Rattle.query_grammar.specs.declared.mode.Mode.TheVariants.{Head}
use Rattle.query_grammar.specs.declared.built.Built.{Built}
use Rattle.query_grammar.specs.Answers.{Gives, Leads, located, start_of, tokens_of}
use Rattle.query_grammar.specs.Built.{add, empty, refusal}
use Rattle.query_grammar.specs.Machine.{next}
use Rattle.query_grammar.specs.Queries.{by_itself}
use Rattle.query_grammar.specs.QueryText.{AreTokensOf}
use Rattle.query_grammar.specs.Runs.{run, taken, checked, later}

-- one token

pub not_taken : (m : Mode) (b : Built) (t : Token) (k : Kind) → next m t ≡ None → k ≡ by_itself t → (ts : List Token) → run m b (t ∷ ts) ≡ Err (0, k)
not_taken m b t k n e ts = ap (taken b t (λ m' b'. run m' b' ts)) n ∙ ap (λ (j : Kind). Err (0, j)) (sym e)

pub taken_refused : (m : Mode) (b : Built) (t : Token) (r : Role) (m' : Mode) (k : Kind) → next m t ≡ Some (r, m') → Some k ≡ refusal b r t → (ts : List Token) → run m b (t ∷ ts) ≡ Err (0, k)
taken_refused m b t r m' k n e ts =
    ap (taken b t (λ m' b'. run m' b' ts)) n ∙ ap (λ (o : Option Kind). checked o (run m' (add b r t) ts)) (sym e)

pub taken_on : (m : Mode) (b : Built) (t : Token) (r : Role) (m' : Mode) (b' : Built) → next m t ≡ Some (r, m') → None ≡ refusal b r t → b' ≡ add b r t
    → (ts : List Token) → run m b (t ∷ ts) ≡ later (run m' b' ts)
taken_on m b t r m' b' n e is ts =
    ap (taken b t (λ m' b'. run m' b' ts)) n
    ∙ ap (λ (o : Option Kind). checked o (run m' (add b r t) ts)) (sym e)
    ∙ ap (λ (c : Built). later (run m' c ts)) (sym is)

-- whatever tokens the text has and whatever is left has
pub record Reads (text : List ℕ) (left : Left) (m : Mode) (b : Built) : Type 0 where
  pub reads : (ps more : List Placed) → AreTokensOf text ps → AreTokensLeft left more
      → located ps (length text) (run Head empty (tokens_of ps)) ≡ located more (length text) (run m b (tokens_of more))

pub at_start : OneTokenList → (text : List ℕ) (left : Left) → length text ≡ byte_count (chars text) → left ≡ record { start = 0; text = chars text } → Reads text left Head empty
at_start one text left size is = record {
  reads = λ ps more are left_are. (let all : AreTokensLeft (record { start = 0; text = chars text }) more = subst (λ (l : Left). AreTokensLeft l more) is left_are in
      let same : ps ≡ more = one (length text) (chars text) ps more are (subst (λ (n : ℕ). AreTokens n (chars text) more) (omega arith) all) in
      ap (λ (qs : List Placed). located qs (length text) (run Head empty (tokens_of qs))) same);
}

-- behind the first token
located_later : (p : Placed) (ps : List Placed) (end : ℕ) (r : Result Query (ℕ × Kind)) → located (p ∷ ps) end (later r) ≡ located ps end r
located_later p ps end (Ok q) = refl
located_later p ps end (Err e) = refl

pub goes_on : (text : List ℕ) (left rest : Left) (m m' : Mode) (b b' : Built) (p : Placed) → Reads text left m b → IsFirstOf left (Some p) rest
    → Leads m b p (Ok m') b' → Reads text rest m' b'
goes_on text left rest m m' b b' p r first leads = record {
  reads = λ ps more are left_are.
      r.reads ps (p ∷ more) are (first more left_are)
      ∙ ap (located (p ∷ more) (length text)) (leads (tokens_of more))
      ∙ located_later p more (length text) (run m' b' (tokens_of more));
}

-- where a token is refused
pub stops : EachHasTokens → (text : List ℕ) (left rest : Left) (m : Mode) (b b' : Built) (p : Placed) (e : Stop) → Reads text left m b → IsFirstOf left (Some p) rest
    → Leads m b p (Err e) b' → (ps : List Placed) → AreTokensOf text ps → Gives (Err e) (located ps (length text) (run Head empty (tokens_of ps)))
stops each text left rest m b b' p stop.Memory r first leads ps are = tt
stops each text left rest m b b' p (stop.Refused at k) r first leads ps are =
    let more = each rest in
    r.reads ps (p ∷ more.0) are (first more.0 more.1)
    ∙ ap (located (p ∷ more.0) (length text)) (leads.1 (tokens_of more.0))
    ∙ ap (λ (n : ℕ). Err (n, k)) (sym leads.0)

-- at the end
pub ends : (text : List ℕ) (left rest : Left) (m : Mode) (b : Built) (result : Result Query Stop) → Reads text left m b → IsFirstOf left None rest
    → Gives result (located [] (length text) (run m b [])) → (ps : List Placed) → AreTokensOf text ps
    → Gives result (located ps (length text) (run Head empty (tokens_of ps)))
ends text left rest m b result r first gives ps are = subst (Gives result) (sym (r.reads ps [] are first)) gives
