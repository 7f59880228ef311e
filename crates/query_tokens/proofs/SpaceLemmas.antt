-- One character of white space or a comment.
use Rattle.std.proofs.Common.{◌≡◌, refl, ap, ℕ, Bool, true, false, not, ◌==◌, if◌then◌else◌, List, ◌∷◌, Option, Some, None}
use Rattle.query_tokens.specs.Scanner.{in_space}
use Rattle.query_tokens.specs.Tokens.{behind_space, is_blank, is_line_end}

in_comment : (x : Bool) (cs : List ℕ) (b : Bool) → Some (not x) ≡ Some b → (if x then behind_space false cs else behind_space true cs) ≡ behind_space b cs
in_comment true cs b e = let same : false ≡ b = cc in ap (λ (v : Bool). behind_space v cs) same
in_comment false cs b e = let same : true ≡ b = cc in ap (λ (v : Bool). behind_space v cs) same

outside : (x y : Bool) (c : ℕ) (cs : List ℕ) (b : Bool) → (if x then Some false else if y then Some true else None) ≡ Some b
    → (if x then behind_space false cs else if y then behind_space true cs else c ∷ cs) ≡ behind_space b cs
outside true y c cs b e = let same : false ≡ b = cc in ap (λ (v : Bool). behind_space v cs) same
outside false true c cs b e = let same : true ≡ b = cc in ap (λ (v : Bool). behind_space v cs) same
outside false false c cs b e = cc

pub space_on : (a : Bool) (c : ℕ) (cs : List ℕ) (b : Bool) → in_space a c ≡ Some b → behind_space a (c ∷ cs) ≡ behind_space b cs
space_on true c cs b e = in_comment (is_line_end c) cs b e
space_on false c cs b e = outside (is_blank c) (c == 35) c cs b e

begins : (x y : Bool) (c : ℕ) (cs : List ℕ) → (if x then Some false else if y then Some true else None) ≡ None
    → (if x then behind_space false cs else if y then behind_space true cs else c ∷ cs) ≡ c ∷ cs
begins true y c cs e = cc
begins false true c cs e = cc
begins false false c cs e = refl

pub space_ends : (a : Bool) (c : ℕ) (cs : List ℕ) → in_space a c ≡ None → behind_space a (c ∷ cs) ≡ c ∷ cs
space_ends true c cs e = cc
space_ends false c cs e = begins (is_blank c) (c == 35) c cs e
