-- From the run of the code to what a call answers.
use Rattle.std.proofs.Common.{◌≡◌, ◌+◌, ap, refl, sym, subst, ◌∙◌, arith, List, ℕ, length}
use Rattle.std.specs.declared.result.Result.{Result}
use Rattle.std.specs.declared.result.Result.TheVariants.{Ok, Err}
use Rattle.std.specs.Str.{chars, IsUtf8}
use Rattle.std.proofs.lemmas.Str.{encodes-chars}
use Rattle.query_tokens.specs.Laws.{EachHasTokens}
use Rattle.query_tokens.specs.Tokens.{AreTokens, byte_count}
use Rattle.query_tokens.specs.declared.token.Token.{Token}
use Rattle.query_tokens.specs.declared.token.Placed.{Placed}
use Rattle.query_model.specs.declared.query.Query.{Query}
use Rattle.query_grammar.specs.declared.fault.Kind.{Kind}
use Rattle.query_grammar.specs.declared.fault.Kind.TheVariants as kind
use Rattle.query_grammar.specs.declared.fault.QueryFault.{QueryFault}
use Rattle.query_grammar.specs.declared.fault.Stop.{Stop}
use Rattle.query_grammar.specs.declared.fault.Stop.TheVariants as stop
use Rattle.query_grammar.specs.declared.mode.Mode.TheVariants.{Head}
use Rattle.query_grammar.specs.Built.{empty}
use Rattle.query_grammar.specs.Queries.{IsQuery, FirstRefused}
use Rattle.query_grammar.specs.Runs.{run}
use Rattle.query_grammar.specs.Answers.{tokens_of, start_of, fault_at, located, Gives, IsOrMemory}
use Rattle.query_grammar.specs.QueryText.{AreTokensOf, IsFaultOf, IsQueryFault, IsQueryText}
use Rattle.query_grammar.proofs.RunLaws.{is_query, query_is, first_refused}
use Rattle.query_grammar.proofs.OneFault.{refused_run}

one_ok : (r : Result Query (ℕ × Kind)) (p q : Query) → r ≡ Ok p → r ≡ Ok q → p ≡ q
one_ok r p q g h = cc

not_both : (r : Result Query (ℕ × Kind)) (e : ℕ × Kind) (q : Query) → r ≡ Err e → r ≡ Ok q → ⊥
not_both r e q g h = cc

same_err : (r : Result Query (ℕ × Kind)) (d e : ℕ × Kind) → r ≡ Err d → r ≡ Err e → d ≡ e
same_err r d e g h = cc

ok_only : (ts : List Token) (p q : Query) → run Head empty ts ≡ Ok p → IsQuery ts q → p ≡ q
ok_only ts p q g h = one_ok (run Head empty ts) p q g (query_is ts q h)

err_only : (ts : List Token) (e : ℕ × Kind) (q : Query) → run Head empty ts ≡ Err e → IsQuery ts q → ⊥
err_only ts e q g h = not_both (run Head empty ts) e q g (query_is ts q h)

ok_not_refused : (ts : List Token) (p : Query) (n : ℕ) (k : Kind) → run Head empty ts ≡ Ok p → FirstRefused ts n k → ⊥
ok_not_refused ts p n k g h = not_both (run Head empty ts) (n, k) p (refused_run ts n k h) g

-- what is located is the same answer
located_ok : (ps : List Placed) (end : ℕ) (r : Result Query (ℕ × Kind)) (q : Query) → located ps end r ≡ Ok q → r ≡ Ok q
located_ok ps end (Ok p) q e = e
located_ok ps end (Err d) q e = cc

by_parts : (ps : List Placed) (end : ℕ) (d : ℕ × Kind) (at : ℕ) (k : Kind) → ◌≡◌ {A = ℕ × Kind} (start_of ps end d.0, d.1) (at, k)
    → (n : ℕ) × (◌≡◌ {A = Result Query (ℕ × Kind)} (Err d) (Err (n, k))) × (at ≡ start_of ps end n)
by_parts ps end d at k f = (d.0, ap (λ (j : Kind). Err (d.0, j)) (ap (λ (x : ℕ × Kind). x.1) f), sym (ap (λ (x : ℕ × Kind). x.0) f))

located_err : (ps : List Placed) (end : ℕ) (r : Result Query (ℕ × Kind)) (at : ℕ) (k : Kind) → located ps end r ≡ Err (at, k)
    → (n : ℕ) × (r ≡ Err (n, k)) × (at ≡ start_of ps end n)
located_err ps end (Ok q) at k e = cc
located_err ps end (Err d) at k e = by_parts ps end d at k (same_err (Err (start_of ps end d.0, d.1)) (start_of ps end d.0, d.1) (at, k) refl e)

-- the tokens of a text
pub its_tokens : EachHasTokens → (text : List ℕ) → IsUtf8 text → (ps : List Placed) × AreTokensOf text ps
its_tokens each text u =
    let w = each (record { start = 0; text = chars text }) in
    let size : length text ≡ byte_count (chars text) = sym (ap length (encodes-chars text u)) in
    (w.0, subst (λ (n : ℕ). AreTokens n (chars text) w.0) (omega arith) w.1)

-- What the code does with any tokens of the text.
abbrev pub Runs : List ℕ → Result Query Stop → Type 0
Runs text result = (ps : List Placed) → AreTokensOf text ps → Gives result (located ps (length text) (run Head empty (tokens_of ps)))

pub is_text : EachHasTokens → (text : List ℕ) → IsUtf8 text → (q : Query) → Runs text (Ok q) → IsQueryText text q
is_text each text u q runs =
    let w = its_tokens each text u in
    record { tokens = w.0; are = w.1; query = is_query (tokens_of w.0) q (located_ok w.0 (length text) (run Head empty (tokens_of w.0)) q (runs w.0 w.1)) }

pub only_query : (text : List ℕ) (p q : Query) → Runs text (Ok p) → IsQueryText text q → p ≡ q
only_query text p q runs w =
    ok_only (tokens_of w.tokens) p q (located_ok w.tokens (length text) (run Head empty (tokens_of w.tokens)) p (runs w.tokens w.are)) w.query

pub no_fault : (text : List ℕ) (p : Query) (e : QueryFault) → Runs text (Ok p) → IsQueryFault text e → ⊥
no_fault text p e runs w =
    ok_not_refused (tokens_of w.tokens) p w.number w.kind (located_ok w.tokens (length text) (run Head empty (tokens_of w.tokens)) p (runs w.tokens w.are)) w.refused

pub no_query : (text : List ℕ) (at : ℕ) (k : Kind) (q : Query) → Runs text (Err (stop.Refused at k)) → IsQueryText text q → ⊥
no_query text at k q runs w =
    let l = located_err w.tokens (length text) (run Head empty (tokens_of w.tokens)) at k (runs w.tokens w.are) in
    err_only (tokens_of w.tokens) (l.0, k) q l.1 w.query

as_fault : (text : List ℕ) (k : Kind) (at : ℕ) → IsQueryFault text (fault_at k at) → IsFaultOf text (fault_at k at)
as_fault text kind.BadAt at w = w
as_fault text kind.Unsupported at w = w
as_fault text kind.UnknownPrefix at w = w

pub is_fault : EachHasTokens → (text : List ℕ) → IsUtf8 text → (at : ℕ) (k : Kind) → Runs text (Err (stop.Refused at k)) → IsFaultOf text (fault_at k at)
is_fault each text u at k runs =
    let w = its_tokens each text u in
    let l = located_err w.0 (length text) (run Head empty (tokens_of w.0)) at k (runs w.0 w.1) in
    as_fault text k at (record { tokens = w.0; are = w.1; number = l.0; kind = k; refused = first_refused (tokens_of w.0) l.0 k l.1; fault = ap (fault_at k) l.2 })

same_fault : (k j : Kind) (n m : ℕ) → k ≡ j → n ≡ m → IsOrMemory (fault_at k n) (fault_at j m)
same_fault kind.BadAt j n m e f = ap (λ x. fault_at kind.BadAt x) f ∙ ap (λ (i : Kind). fault_at i m) e
same_fault kind.Unsupported j n m e f = ap (λ x. fault_at kind.Unsupported x) f ∙ ap (λ (i : Kind). fault_at i m) e
same_fault kind.UnknownPrefix j n m e f = ap (λ x. fault_at kind.UnknownPrefix x) f ∙ ap (λ (i : Kind). fault_at i m) e

pub only_fault : (text : List ℕ) (at : ℕ) (k : Kind) (e : QueryFault) → Runs text (Err (stop.Refused at k)) → IsQueryFault text e → IsOrMemory (fault_at k at) e
only_fault text at k e runs w =
    let l = located_err w.tokens (length text) (run Head empty (tokens_of w.tokens)) at k (runs w.tokens w.are) in
    let same = same_err (run Head empty (tokens_of w.tokens)) (l.0, k) (w.number, w.kind) l.1 (refused_run (tokens_of w.tokens) w.number w.kind w.refused) in
    subst (IsOrMemory (fault_at k at)) (sym w.fault)
    (same_fault k w.kind at (start_of w.tokens (length text) w.number) (ap (λ (d : ℕ × Kind). d.1) same)
    (l.2 ∙ ap (λ (d : ℕ × Kind). start_of w.tokens (length text) d.0) same))

pub one_query : (ts : List Token) (q r : Query) → IsQuery ts q → IsQuery ts r → q ≡ r
one_query ts q r v w = ok_only ts q r (query_is ts q v) w
