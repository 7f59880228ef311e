use Rattle.std.proofs.Common.{rules, ◌≡◌, ◌≢◌, ◌≤◌, ◌<◌, ◌+◌, ◌-◌, ◌∙◌, sym, ap, subst, [], ℕ, length, arith, Some}
use Rattle.std.proofs.lemmas.Grind.{common_steps}
use Rattle.std.proofs.lemmas.Str.{chars-nil}
use Rattle.std.specs.Str.{chars}
use Rattle.query_tokens.specs.declared.token.Token.TheVariants as token
use Rattle.query_tokens.specs.Scanner.{IsSearched}
use Rattle.query_tokens.specs.Tokens.{BeginsNone, IsFirstOf, IsRead, Left, byte_count, from_token}
use Rattle.query_tokens.proofs.Exist.{space_shorter}
use Rattle.query_tokens.proofs.NextLemmas.{next_bad, next_token, some_left}
use Rattle.query_tokens.proofs.PlaceLemmas.{in_two}
use Rattle.query_tokens.proofs.Prefixes.{nothing_searched, searched_left}
use Rattle.query_tokens.proofs.ReadLemmas.{read_lengths}
use Rattle.query_tokens.proofs.read.Tokens.next.Goals as goal

pub returns-then-is_end-clause-first : goal.returns-then-is_end-clause-first
returns-then-is_end-clause-first c =
    let end : chars c.from_token-skipped.result.0.now ≡ [] = search rules in
    ap (λ (l : Left). from_token l.text) (sym c.self.view_is) ∙ sym c.from_token-skipped.ensures.rest ∙ end

pub bytes_before-requires : goal.bytes_before-requires
bytes_before-requires c =
    let s = space_shorter (chars c.self.inside.rest.now) in
    let most = s.1 in
    let same = ap byte_count c.from_token-skipped.ensures.rest in
    omega arith

pub bytes_before-requires-in-Some : goal.bytes_before-requires-in-Some
bytes_before-requires-in-Some c =
    let two = in_two c.in-Some.count (chars c.from_token-skipped.result.0.now) in
    let same = ap byte_count c.behind-rest.ensures in
    omega arith

pub invariant_of-self : goal.invariant_of-self
invariant_of-self c =
    let one = c.bytes_before.ensures in
    let two = c.bytes_before-in-None.ensures in
    let most = c.self.invariant.1 in
    (nothing_searched (chars []), omega arith)

pub invariant_of-self-in-Some : goal.invariant_of-self-in-Some
invariant_of-self-in-Some c =
    let one = c.bytes_before.ensures in
    let two = c.bytes_before-in-Some.ensures in
    let most = c.self.invariant.1 in
    let vain : IsSearched c.in_ok-first.further (chars c.from_token-skipped.result.0.now) = search rules in
    let left : c.saturating_sub-self-inside.result ≡ c.in_ok-first.further - c.in-Some.count = grind (arith, common_steps) in (
      searched_left c.in_ok-first.further c.in-Some.count c.saturating_sub-self-inside.result (chars c.from_token-skipped.result.0.now) (chars c.behind-rest.result.now) vain
          c.behind-rest.ensures left,
      omega arith,
    )

pub returns-in-None-clause-first : goal.returns-in-None-clause-first
returns-in-None-clause-first c =
    let one = c.bytes_before.ensures in
    let left : Left = record { start = c.self.inside.start; text = chars c.self.inside.rest.now } in
    let start : ℕ = c.self.inside.start + c.bytes_before.result in
    let placed : c.self.inside.start + c.bytes_before.result + byte_count (chars c.from_token-skipped.result.0.now) ≡ c.self.inside.start + byte_count (chars c.self.inside.rest.now) = omega arith in
    let some : chars c.from_token-skipped.result.0.now ≢ [] = search rules in
    let none : BeginsNone (chars c.from_token-skipped.result.0.now) = search rules in
    subst (λ (l : Left). IsFirstOf l (Some (record { token = token.Bad; start = start })) (record { start = start + c.bytes_before-in-None.result; text = chars [] })) c.self.view_is
    (next_bad left (chars c.from_token-skipped.result.0.now) (chars []) start (start + c.bytes_before-in-None.result) c.from_token-skipped.ensures.rest placed some none chars-nil)

pub returns-in-None-clause-shorter : goal.returns-in-None-clause-shorter
returns-in-None-clause-shorter c =
    let some : chars c.from_token-skipped.result.0.now ≢ [] = search rules in
    let more = some_left (chars c.from_token-skipped.result.0.now) some in
    let s = space_shorter (chars c.self.inside.rest.now) in
    let most = s.0 in
    let same = ap length c.from_token-skipped.ensures.rest in
    let whole = ap (λ (l : Left). length l.text) c.self.view_is in
    let nothing = ap length chars-nil in
    omega arith

pub returns-in-Some-clause-shorter : goal.returns-in-Some-clause-shorter
returns-in-Some-clause-shorter c =
    let read : IsRead (chars c.from_token-skipped.result.0.now) c.in-Some.token c.in-Some.count = search rules in
    let lengths = read_lengths (chars c.from_token-skipped.result.0.now) c.in-Some.token c.in-Some.count read in
    let less = lengths.1 in
    let s = space_shorter (chars c.self.inside.rest.now) in
    let most = s.0 in
    let same = ap length c.from_token-skipped.ensures.rest in
    let whole = ap (λ (l : Left). length l.text) c.self.view_is in
    let behind = ap length c.behind-rest.ensures in
    omega arith

pub returns-in-Some-clause-first : goal.returns-in-Some-clause-first
returns-in-Some-clause-first c =
    let one = c.bytes_before.ensures in
    let two = c.bytes_before-in-Some.ensures in
    let left : Left = record { start = c.self.inside.start; text = chars c.self.inside.rest.now } in
    let start : ℕ = c.self.inside.start + c.bytes_before.result in
    let placed : c.self.inside.start + c.bytes_before.result + byte_count (chars c.from_token-skipped.result.0.now) ≡ c.self.inside.start + byte_count (chars c.self.inside.rest.now) = omega arith in
    let moved : c.self.inside.start + c.bytes_before.result + c.bytes_before-in-Some.result + byte_count (chars c.behind-rest.result.now)
    ≡ c.self.inside.start + c.bytes_before.result + byte_count (chars c.from_token-skipped.result.0.now) = omega arith in
    let read : IsRead (chars c.from_token-skipped.result.0.now) c.in-Some.token c.in-Some.count = search rules in
    subst (λ (l : Left). IsFirstOf l (Some (record { token = c.in-Some.token; start = start })) (record { start = start + c.bytes_before-in-Some.result; text = chars c.behind-rest.result.now })) c.self.view_is
    (next_token left (chars c.from_token-skipped.result.0.now) (chars c.behind-rest.result.now) start (start + c.bytes_before-in-Some.result) c.in-Some.count c.in-Some.token c.from_token-skipped.ensures.rest
    placed read c.behind-rest.ensures moved)

pub bytes_before-requires-in-None : goal.bytes_before-requires-in-None
bytes_before-requires-in-None c = let nothing : byte_count (chars []) ≡ 0 = ap byte_count chars-nil in omega arith
