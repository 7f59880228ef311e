-- Lemmas on streams.
use Rattle.std.proofs.Common.{◌≡◌, ℕ, ◌+◌, ◌<◌, ◌≤◌, List, [], ◌∷◌, ◌++◌, length, take, drop, Option, Some, None, sym, ap, ◌∙◌, refl, arith, append_assoc, length-take-le, length-drop, take-add, append-nil, length-append}
use Rattle.std.proofs.lemmas.List.{take_at}
use Rattle.std.specs.Io.KnownBytes.{Consumes, Keeps, IsAtEnd}
use Rattle.client_script.specs.Inputs.{KeepsStream}
use Rattle.client_script.specs.Waits.{Fills}

consumes_told : (left left' : Option (List ℕ)) (bs rest : List ℕ) → Consumes left left' bs → left ≡ Some rest
    → (rest' : List ℕ) × (left' ≡ Some rest') × (rest ≡ bs ++ rest')
consumes_told None left' bs rest c e = cc
consumes_told (Some xs) None bs rest c e = absurd c
consumes_told (Some xs) (Some ys) bs rest c e = (ys, refl, cc)

keeps_told : (left left' : Option (List ℕ)) (rest : List ℕ) → Keeps left left' → left ≡ Some rest → left' ≡ Some rest
keeps_told None left' rest k e = cc
keeps_told (Some xs) None rest k e = absurd k
keeps_told (Some xs) (Some ys) rest k e = cc

end_told : (left : Option (List ℕ)) (rest : List ℕ) → IsAtEnd left → left ≡ Some rest → rest ≡ []
end_told None rest k e = cc
end_told (Some xs) rest k e = cc

-- a read behind the held bytes
pub fills_at : (held before after : List ℕ) (at n : ℕ) (left left' : Option (List ℕ))
    → take at before ≡ held → take at after ≡ take at before → at + n ≤ length after → at < length after
    → Consumes left left' (take n (drop at after)) → (n ≡ 0 → 0 < length (drop at after) → IsAtEnd left')
    → Fills held left (take (at + n) after) left' n
fills_at held before after at n left left' eh eb bound room c end =
    let joined : take (at + n) after ≡ held ++ take n (drop at after) = take-add at n after ∙ ap (λ x. x ++ take n (drop at after)) (eb ∙ eh) in
    let fits : n ≤ length (drop at after) = omega (arith, length-drop at after) in
    record {
      grown = (take n (drop at after), joined, length-take-le n (drop at after) fits);
      same = λ b s.
          let t = consumes_told left left' (take n (drop at after)) s.0 c s.1 in
          (t.0, t.1, s.2 ∙ ap (λ x. held ++ x) t.2 ∙ sym (append_assoc held (take n (drop at after)) t.0) ∙ ap (λ x. x ++ t.0) (sym joined));
      end = λ none rest told. end_told left' rest (end none (omega (arith, length-drop at after))) told;
    }

-- nothing happened
pub kept_stream : (held held' : List ℕ) (left left' : Option (List ℕ)) → held' ≡ held → Keeps left left'
    → KeepsStream held left held' left'
kept_stream held held' left left' e k b s = (s.0, keeps_told left left' s.0 k s.1, s.2 ∙ ap (λ x. x ++ s.0) (sym e))

empty_of : (xs : List ℕ) → length xs ≡ 0 → xs ≡ []
empty_of [] e = refl
empty_of (x ∷ xs) e = absurd (omega arith)

-- a fill of no bytes leaves what is held
pub fills_none : (held held' : List ℕ) (left left' : Option (List ℕ)) (n : ℕ) → Fills held left held' left' n → n ≡ 0 → held' ≡ held
fills_none held held' left left' n fills none =
    fills.grown.1 ∙ ap (λ x. held ++ x) (empty_of fills.grown.0 (fills.grown.2 ∙ none)) ∙ append-nil held

-- what was held stands in front
pub fills_front : (held held' : List ℕ) (left left' : Option (List ℕ)) (n : ℕ) → Fills held left held' left' n → take (length held) held' ≡ held
fills_front held held' left left' n fills = ap (take (length held)) fills.grown.1 ∙ take_at held fills.grown.0 (length held) refl

pub fills_within : (held held' : List ℕ) (left left' : Option (List ℕ)) (n size : ℕ) → Fills held left held' left' n → size ≡ length held → size ≤ length held'
fills_within held held' left left' n size fills e =
    let all = simp length-append at (ap length fills.grown.1) in
    omega arith
