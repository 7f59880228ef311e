-- Steps of the reading.
use Rattle.std.proofs.Common.{◌≡◌, ℕ, suc, zero, ◌<◌, ◌≤◌, ◌^◌, List, [], ◌∷◌, ◌++◌, false, ◌==◌, refl, ap, ◌∙◌, sym, drop, append_assoc, Option, Some, None, arith, nat_lt}
use Rattle.std.specs.Char.{digit_value}
use Rattle.std.proofs.lemmas.Bool.Decides.{nat_tests}
use Rattle.rdf_term.specs.Classes.{is_hex_digit}
use Rattle.nquads_line.specs.declared.quoted.Quoted.{Quoted}
use Rattle.std.proofs.Math.Nat.{pow-le-pow_right}
use Rattle.rdf_term.specs.declared.quad.TermFault.{TermFault}
use Rattle.rdf_term.specs.declared.quad.TermFault.TheVariants.{Subject, Predicate, GraphName}
use Rattle.nquads_line.specs.Reading.{with_front, after_piece, piece_at, body_at}
use Rattle.nquads_line.specs.Written.{closing}
use Rattle.nquads_line.proofs.Steps.{take_else}

pub body_skip : (form : Quoted) (cs : List ℕ) (n : ℕ) → body_at form cs n ≡ body_at form (drop n cs) 0
body_skip form [] zero = refl
body_skip form [] (suc n) = refl
body_skip form (c ∷ cs) zero = refl
body_skip form (c ∷ cs) (suc n) = body_skip form cs n

pub front_front : (a b : List ℕ) (r : Option (List ℕ × List ℕ)) → with_front a (with_front b r) ≡ with_front (a ++ b) r
front_front a b None = refl
front_front a b (Some x) = ap (λ v. Some (v, x.1)) (sym (append_assoc a b x.0))

pub hex_digit : (c : ℕ) → is_hex_digit c ≡ nat_lt (digit_value c) 16
hex_digit c = grind (arith, nat_tests)

-- one character more is read
pub body_step : (form : Quoted) (text rest after next : List ℕ) (first c count : ℕ) → rest ≡ first ∷ after
    → (first == closing form) ≡ false → piece_at form first after ≡ Some (c, count) → next ≡ drop count after
    → with_front (text ++ c ∷ []) (body_at form next 0) ≡ with_front text (body_at form rest 0)
body_step form text rest after next first c count r h p n =
    sym (ap (λ l. with_front text (body_at form l 0)) r
    ∙ ap (with_front text) (take_else (first == closing form) _ _ h ∙ ap (λ x. after_piece x (λ k. body_at form after k)) p
    ∙ ap (with_front (c ∷ [])) (body_skip form after count ∙ ap (λ l. body_at form l 0) (sym n)))
    ∙ front_front text (c ∷ []) (body_at form next 0))

-- a number of at most seven digits has room for one more
pub hex_room : (n i : ℕ) → n < 16 ^ i → i < 8 → n < 16 ^ 7
hex_room n i h l =
    let small : i ≤ 7 = omega arith in
    let grows : 16 ^ i ≤ 16 ^ 7 = pow-le-pow_right {n = 16} (omega arith) small in
    omega arith

-- a fault of a quad is one of three
pub no_fault : (e : TermFault) → (e ≡ Subject → ⊥) → (e ≡ Predicate → ⊥) → (e ≡ GraphName → ⊥) → ⊥
no_fault Subject a b c = a refl
no_fault Predicate a b c = b refl
no_fault GraphName a b c = c refl
