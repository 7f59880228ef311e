use Rattle.std.proofs.Common.{◌≡◌, ℕ, List, Result, Err, ap, sym, ◌∙◌, subst, length}
use Rattle.std.specs.Str.{chars}
use Rattle.query_tokens.specs.declared.token.Placed.{Placed}
use Rattle.query_model.specs.declared.query.Query.{Query}
use Rattle.query_grammar.specs.declared.fault.Kind.{Kind}
use Rattle.query_grammar.specs.Answers.{tokens_of, start_of, fault_at}
use Rattle.query_grammar.specs.Queries.{FirstRefused}
use Rattle.query_grammar.proofs.OneFault.{refused_run}
use Rattle.query_grammar.proofs.laws.one_fault.Goals as goal

same_pair : (a b : ℕ × Kind) → ◌≡◌ {A = Result Query (ℕ × Kind)} (Err a) (Err b) → a ≡ b
same_pair a b e = cc

same_place : (m n : ℕ) (j k : Kind) (r : Result Query (ℕ × Kind)) → r ≡ Err (m, j) → r ≡ Err (n, k) → (m ≡ n) × (j ≡ k)
same_place m n j k r e g =
    let same = same_pair (m, j) (n, k) (sym e ∙ g) in
    (ap (λ (x : ℕ × Kind). x.0) same, ap (λ (x : ℕ × Kind). x.1) same)

pub returns : goal.returns
returns c = λ text e f x y.
    let same : x.tokens ≡ y.tokens = c.one_token_list.ensures (length text) (chars text) x.tokens y.tokens x.are y.are in
    let moved = subst (λ (ts : List Placed). FirstRefused (tokens_of ts) y.number y.kind) (sym same) y.refused in
    let at = same_place x.number y.number x.kind y.kind _ (refused_run (tokens_of x.tokens) x.number x.kind x.refused) (refused_run (tokens_of x.tokens) y.number y.kind moved) in
    x.fault ∙ (λ i. fault_at (at.1 i) (start_of (same i) (length text) (at.0 i))) ∙ sym y.fault
