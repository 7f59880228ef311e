-- The test of a host.
use Rattle.std.proofs.Common.{◌≡◌, ◌≤◌, ◌&&◌, ℕ, List, [], ◌∷◌, Bool, true, false, IsTrue, refl, sym, ◌∙◌}
use Rattle.std.specs.Prelude.{nat_le}
use Rattle.std.specs.List.{list_all}
use Rattle.std.proofs.lemmas.Bool.{le-leb, leb-true}
use Rattle.std.proofs.lemmas.List.Elements.{All-cons, All-head, All-nil, All-tail}
use Rattle.api_requests.specs.Spellable.{IsHost}
use Rattle.rdf_client.specs.Exchanges.{is_host_char}

first_of : (a b : Bool) → (a && b) ≡ true → a ≡ true
first_of true b e = refl
first_of false b e = cc

second_of : (a b : Bool) → (a && b) ≡ true → b ≡ true
second_of true b e = e
second_of false b e = cc

both : (a b : Bool) → a ≡ true → b ≡ true → (a && b) ≡ true
both true b e h = h
both false b e h = cc

host_char_told : (c : ℕ) → is_host_char c ≡ true → (33 ≤ c) × (c ≤ 126)
host_char_told c e = (leb-true 33 c (first_of (nat_le 33 c) (nat_le c 126) e), leb-true c 126 (second_of (nat_le 33 c) (nat_le c 126) e))

host_char_is : (c : ℕ) → (33 ≤ c) × (c ≤ 126) → is_host_char c ≡ true
host_char_is c h = both (nat_le 33 c) (nat_le c 126) (le-leb 33 c h.0) (le-leb c 126 h.1)

each_told : (host : List ℕ) → list_all is_host_char host ≡ true → IsHost host
each_told [] e = All-nil (λ c. (33 ≤ c) × (c ≤ 126))
each_told (c ∷ cs) e =
    All-cons (λ c. (33 ≤ c) × (c ≤ 126)) c cs (host_char_told c (first_of (is_host_char c) (list_all is_host_char cs) e))
    (each_told cs (second_of (is_host_char c) (list_all is_host_char cs) e))

each_is : (host : List ℕ) → IsHost host → list_all is_host_char host ≡ true
each_is [] all = refl
each_is (c ∷ cs) all =
    both (is_host_char c) (list_all is_host_char cs) (host_char_is c (All-head (λ c. (33 ≤ c) × (c ≤ 126)) c cs all))
    (each_is cs (All-tail (λ c. (33 ≤ c) × (c ≤ 126)) c cs all))

pub host_told : (answer : Bool) (host : List ℕ) → answer ≡ list_all is_host_char host → IsTrue answer → IsHost host
host_told answer host e h = each_told host (sym e ∙ h)

pub host_is : (answer : Bool) (host : List ℕ) → answer ≡ list_all is_host_char host → IsHost host → IsTrue answer
host_is answer host e all = e ∙ each_is host all
