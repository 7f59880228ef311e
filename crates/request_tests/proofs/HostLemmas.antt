-- The host of the tests.
use Rattle.std.proofs.Common.{◌≡◌, ℕ, ◌≤◌, List, [], ◌∷◌, Result, Ok, Err, IfOk, codes, refl, sym, ◌∙◌, subst, arith, encode_utf8_all}
use Rattle.std.proofs.lemmas.Str.{encodes_same}
use Rattle.std.proofs.lemmas.List.Elements.{All-nil, All-cons}
use Rattle.api_requests.specs.Spellable.{IsHost}

own_bytes : encode_utf8_all (codes "h:1") ≡ codes "h:1"
unfolding lib.Utf8.encode
own_bytes = refl

abbrev IsShown : ℕ → Type 0
IsShown c = (33 ≤ c) × (c ≤ 126)

is_host : IsHost (codes "h:1")
is_host =
    All-cons IsShown 104 (58 ∷ 49 ∷ []) (omega arith, omega arith)
    (All-cons IsShown 58 (49 ∷ []) (omega arith, omega arith) (All-cons IsShown 49 [] (omega arith, omega arith) (All-nil IsShown)))

pub host_is : {E : Type 0} (r : Result (List ℕ) E) → IfOk r (λ it. encode_utf8_all it ≡ codes "h:1") → IfOk r (λ it. IsHost it)
host_is (Ok it) e = subst IsHost (sym (encodes_same it (codes "h:1") (e ∙ sym own_bytes))) is_host
host_is (Err fault) e = tt
