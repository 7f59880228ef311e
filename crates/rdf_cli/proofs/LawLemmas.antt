-- The words of each server and each ID.
use Rattle.std.proofs.Common.{◌≡◌, ◌≤◌, ◌<◌, ◌∙◌, ◌&&◌, ◌||◌, ◌==◌, ◌⊎◌, ℕ, List, [], ◌∷◌, ◌++◌, Bool, true, false, Option, Some, None, codes, length, encode_utf8_all, if◌then◌else◌, refl, subst, ap, inl, inr, arith}
use lib.Utf8.{scalar, low_scalar}
use Rattle.std.specs.Prelude.{nat_le}
use Rattle.std.specs.Char.{is_ascii_alphanumeric}
use Rattle.std.specs.Int.{is_in_range}
use Rattle.std.specs.List.{list_all}
use Rattle.std.specs.Str.{all_scalars, chars}
use Rattle.std.proofs.lemmas.Bool.{eqb-true, leb-true}
use Rattle.std.proofs.lemmas.Option.{same_Some}
use Rattle.std.proofs.lemmas.Str.{chars-encodes}
use Rattle.clap.proofs.OnLiterals.{clap_on_literals}
use Rattle.api_replies.specs.Ids.{is_id, is_id_char}
use Rattle.rdf_client.specs.Exchanges.{is_host_char}
use Rattle.rdf_cli.specs.Words.{client_words, if_right, is_refused, value_of}

-- hosts and IDs are texts

either : (a b : Bool) → (a || b) ≡ true → (a ≡ true) ⊎ (b ≡ true)
either true b e = inl refl
either false b e = inr e

two : (a b : Bool) → (a && b) ≡ true → (a ≡ true) × (b ≡ true)
two true b e = (refl, e)
two false b e = cc

join : (a b : Bool) → a ≡ true → b ≡ true → (a && b) ≡ true
join true b e h = h
join false b e h = cc

below : (low high c : ℕ) → (nat_le low c && nat_le c high) ≡ true → c ≤ high
below low high c e = leb-true c high (two (nat_le low c) (nat_le c high) e).1

alphanumeric_low : (c : ℕ) → is_ascii_alphanumeric c ≡ true → c < 55296
alphanumeric_low c e =
    elim (either (is_in_range 48 57 c || is_in_range 65 90 c) (is_in_range 97 122 c) e) [
      | inl first ↦ elim (either (is_in_range 48 57 c) (is_in_range 65 90 c) first) [
        | inl digit ↦ let small = below 48 57 c digit in omega arith
        | inr upper ↦ let small = below 65 90 c upper in omega arith
      ]
      | inr lower ↦ let small = below 97 122 c lower in omega arith
    ]

id_char_low : (c : ℕ) → is_id_char c ≡ true → c < 55296
id_char_low c e =
    elim (either (is_ascii_alphanumeric c || c == 95) (c == 45) e) [
      | inl first ↦ elim (either (is_ascii_alphanumeric c) (c == 95) first) [
        | inl letter ↦ alphanumeric_low c letter
        | inr line ↦ let same = eqb-true c 95 line in omega arith
      ]
      | inr hyphen ↦ let same = eqb-true c 45 hyphen in omega arith
    ]

host_char_low : (c : ℕ) → is_host_char c ≡ true → c < 55296
host_char_low c e = let small = below 33 126 c e in omega arith

texts_of : (p : ℕ → Bool) → ((c : ℕ) → p c ≡ true → c < 55296) → (cs : List ℕ) → list_all p cs ≡ true → all_scalars cs ≡ true
texts_of p low [] e = refl
texts_of p low (c ∷ cs) e =
    let parts = two (p c) (list_all p cs) e in join (scalar c) (all_scalars cs) (low_scalar c (low c parts.0)) (texts_of p low cs parts.1)

id_text : (repo : List ℕ) → is_id repo ≡ true → all_scalars repo ≡ true
id_text [] e = cc
id_text (c ∷ cs) e =
    let front = two (is_ascii_alphanumeric c && nat_le (length cs) 63) (list_all is_id_char cs) e in
    join (scalar c) (all_scalars cs) (low_scalar c (alphanumeric_low c (two (is_ascii_alphanumeric c) (nat_le (length cs) 63) front.0).0))
    (texts_of is_id_char id_char_low cs front.1)

-- what `clap` makes of two words with their values in them

abbrev words_of : List ℕ → List ℕ → List (List ℕ)
words_of server repo = (codes "--server=" ++ server) ∷ (codes "--repository=" ++ repo) ∷ []

no_fault : (server repo : List ℕ) → is_refused (words_of server repo) ≡ false
unfolding clap_on_literals
no_fault server repo = refl

server_of : (server repo : List ℕ) → value_of (codes "server") (words_of server repo) ≡ Some (chars (encode_utf8_all server))
unfolding clap_on_literals
server_of server repo = refl

repository_of : (server repo : List ℕ) → value_of (codes "repository") (words_of server repo) ≡ Some (chars (encode_utf8_all repo))
unfolding clap_on_literals
repository_of server repo = refl

right : (server repo : List ℕ) → list_all is_host_char server ≡ true → is_id repo ≡ true → if_right (Some server) (Some repo) ≡ Some (server, repo)
right server repo host id = rw (host, id) refl

pub named : (server repo : List ℕ) → list_all is_host_char server ≡ true → is_id repo ≡ true → client_words (words_of server repo) ≡ Some (server, repo)
named server repo host id =
    let server_is = server_of server repo ∙ ap Some (chars-encodes server (texts_of is_host_char host_char_low server host)) in
    let repo_is = repository_of server repo ∙ ap Some (chars-encodes repo (id_text repo id)) in
    rw (no_fault server repo, server_is, repo_is) (right server repo host id)

-- what is named is right

abbrev given : Bool → List ℕ → List ℕ → Option (List ℕ × List ℕ)
given b server id = if b then Some (server, id) else None

named_right : (server id : Option (List ℕ)) (s r : List ℕ) → if_right server id ≡ Some (s, r) → (list_all is_host_char s ≡ true) × (is_id r ≡ true)
named_right (Some server) (Some id) s r e = go (list_all is_host_char server && is_id id) refl e
  where
    go : (b : Bool) → (list_all is_host_char server && is_id id) ≡ b → given b server id ≡ Some (s, r) → (list_all is_host_char s ≡ true) × (is_id r ≡ true)
    go true is h = let both = two (list_all is_host_char server) (is_id id) is in let pair = same_Some (server, id) (s, r) h in
        (subst (λ cs. list_all is_host_char cs ≡ true) (ap (λ p. p.0) pair) both.0, subst (λ cs. is_id cs ≡ true) (ap (λ p. p.1) pair) both.1)
    go false is h = cc
named_right (Some server) None s r e = cc
named_right None id s r e = cc

pub only : (words : List (List ℕ)) (server repo : List ℕ) → client_words words ≡ Some (server, repo) → (list_all is_host_char server ≡ true) × (is_id repo ≡ true)
only words server repo e = go (is_refused words) e
  where
    go : (b : Bool) → (if b then None else if_right (value_of (codes "server") words) (value_of (codes "repository") words)) ≡ Some (server, repo)
        → (list_all is_host_char server ≡ true) × (is_id repo ≡ true)
    go true h = cc
    go false h = named_right (value_of (codes "server") words) (value_of (codes "repository") words) server repo h
