-- The segments that are read from the front are those of the resource that is found.
use Rattle.std.proofs.Common.{◌≡◌, ℕ, List, [], ◌∷◌, Bool, true, false, ◌⊎◌, inl, inr, Option, Some, None, if◌then◌else◌, refl, sym, ap, ◌∙◌, codes, encode_utf8_all}
use Rattle.std.proofs.lemmas.Option.{same_Some}
use Rattle.std.proofs.lemmas.Slice.Eq.{bytes_eq-Decides}
use Rattle.std.proofs.lemmas.Str.{encodes_same}
use Rattle.repo_api.specs.declared.resource.Part.{Part}
use Rattle.repo_api.specs.declared.resource.Part.TheVariants.{Queries, Statements, Contexts, Size, Namespaces, Namespace, Transactions}
use Rattle.repo_api.specs.declared.resource.Resource.{Resource}
use Rattle.repo_api.specs.declared.resource.Resource.TheVariants.{Protocol, Repositories, Of, Transaction}
use Rattle.repo_api.specs.Paths.{part_named, of_part, nested, in_repository, top, in_server, resource_at}
use Rattle.repo_api.specs.Resources.{segments_below, behind_repositories, segments_of, is_text}

-- each resource is found by its own segments
pub resource_found : (resource : Resource) → resource_at (segments_of resource) ≡ Some resource
unfolding lib.Utf8.encode
resource_found Protocol = refl
resource_found Repositories = refl
resource_found (Of id Queries) = refl
resource_found (Of id Statements) = refl
resource_found (Of id Contexts) = refl
resource_found (Of id Size) = refl
resource_found (Of id Namespaces) = refl
resource_found (Of id (Namespace prefix)) = refl
resource_found (Of id Transactions) = refl
resource_found (Transaction id name) = refl

-- the words of paths are of ASCII
own_server : encode_utf8_all (codes "rdf4j-server") ≡ codes "rdf4j-server"
unfolding lib.Utf8.encode
own_server = refl

own_protocol : encode_utf8_all (codes "protocol") ≡ codes "protocol"
unfolding lib.Utf8.encode
own_protocol = refl

own_repositories : encode_utf8_all (codes "repositories") ≡ codes "repositories"
unfolding lib.Utf8.encode
own_repositories = refl

own_statements : encode_utf8_all (codes "statements") ≡ codes "statements"
unfolding lib.Utf8.encode
own_statements = refl

own_contexts : encode_utf8_all (codes "contexts") ≡ codes "contexts"
unfolding lib.Utf8.encode
own_contexts = refl

own_size : encode_utf8_all (codes "size") ≡ codes "size"
unfolding lib.Utf8.encode
own_size = refl

own_namespaces : encode_utf8_all (codes "namespaces") ≡ codes "namespaces"
unfolding lib.Utf8.encode
own_namespaces = refl

own_transactions : encode_utf8_all (codes "transactions") ≡ codes "transactions"
unfolding lib.Utf8.encode
own_transactions = refl

own_nothing : encode_utf8_all [] ≡ []
own_nothing = refl

word : (text wanted : List ℕ) → encode_utf8_all wanted ≡ wanted → is_text text wanted ≡ true → text ≡ wanted
word text wanted own told = encodes_same text wanted ((bytes_eq-Decides (encode_utf8_all text) wanted).0 told ∙ sym own)

-- what a choice gives comes from one of its sides
chosen : {X : Type 0} (test : Bool) (here other : Option X) (x : X) → (if test then here else other) ≡ Some x → ((test ≡ true) × (here ≡ Some x)) ⊎ (other ≡ Some x)
chosen true here other x e = inl (refl, e)
chosen false here other x e = inr e

-- the same where there is nothing on the other side
chosen_only : {X : Type 0} (test : Bool) (here : Option X) (x : X) → (if test then here else None) ≡ Some x → (test ≡ true) × (here ≡ Some x)
chosen_only true here x e = (refl, e)
chosen_only false here x e = cc

one_segment : (name wanted : List ℕ) (part found : Part) → encode_utf8_all wanted ≡ wanted → wanted ∷ [] ≡ segments_below part
    → (is_text name wanted ≡ true) × (Some part ≡ Some found) → name ∷ [] ≡ segments_below found
one_segment name wanted part found own is h =
    ap (λ (text : List ℕ). text ∷ []) (word name wanted own h.0) ∙ is ∙ ap segments_below (same_Some part found h.1)

part_is : (name : List ℕ) (found : Part) → part_named name ≡ Some found → name ∷ [] ≡ segments_below found
part_is name found e =
    elim (chosen (is_text name (codes "statements")) (Some Statements) _ found e) [
      | inl h ↦ one_segment name (codes "statements") Statements found own_statements refl h
      | inr e ↦ elim (chosen (is_text name (codes "contexts")) (Some Contexts) _ found e) [
        | inl h ↦ one_segment name (codes "contexts") Contexts found own_contexts refl h
        | inr e ↦ elim (chosen (is_text name (codes "size")) (Some Size) _ found e) [
          | inl h ↦ one_segment name (codes "size") Size found own_size refl h
          | inr e ↦ elim (chosen (is_text name (codes "namespaces")) (Some Namespaces) _ found e) [
            | inl h ↦ one_segment name (codes "namespaces") Namespaces found own_namespaces refl h
            | inr e ↦ one_segment name (codes "transactions") Transactions found own_transactions refl
                (chosen_only (is_text name (codes "transactions")) (Some Transactions) found e)
          ]
        ]
      ]
    ]

-- segments behind /rdf4j-server/repositories
Behind : List (List ℕ) → Resource → Type 0
Behind segments found = behind_repositories segments ≡ segments_of found

by_part : (id name : List ℕ) (part : Option Part) (found : Resource) → part_named name ≡ part → of_part id part ≡ Some found → Behind (id ∷ name ∷ []) found
unfolding Behind
by_part id name None found p e = cc
by_part id name (Some part) found p e =
    ap (λ (more : List (List ℕ)). behind_repositories (id ∷ more)) (part_is name part p) ∙ ap segments_of (same_Some (Of id part) found e)

by_nested : (id name inner : List ℕ) (found : Resource) → nested id name inner ≡ Some found → Behind (id ∷ name ∷ inner ∷ []) found
unfolding Behind
by_nested id name inner found e =
    elim (chosen (is_text name (codes "namespaces")) (Some (Of id (Namespace inner))) _ found e) [
      | inl h ↦ ap (λ (text : List ℕ). behind_repositories (id ∷ text ∷ inner ∷ [])) (word name (codes "namespaces") own_namespaces h.0)
          ∙ ap segments_of (same_Some (Of id (Namespace inner)) found h.1)
      | inr e ↦ (let h = chosen_only (is_text name (codes "transactions")) (Some (Transaction id inner)) found e in
          ap (λ (text : List ℕ). behind_repositories (id ∷ text ∷ inner ∷ [])) (word name (codes "transactions") own_transactions h.0)
          ∙ ap segments_of (same_Some (Transaction id inner) found h.1))
    ]

by_repository : (id : List ℕ) (rest : List (List ℕ)) (found : Resource) → in_repository id rest ≡ Some found → Behind (id ∷ rest) found
unfolding Behind
by_repository id [] found e = ap segments_of (same_Some (Of id Queries) found e)
by_repository id (name ∷ []) found e = by_part id name (part_named name) found refl e
by_repository id (name ∷ inner ∷ []) found e = by_nested id name inner found e
by_repository id (name ∷ inner ∷ more ∷ rest) found e = cc

-- segments behind /rdf4j-server
InServer : List (List ℕ) → Resource → Type 0
InServer segments found = [] ∷ codes "rdf4j-server" ∷ segments ≡ segments_of found

by_top : (name : List ℕ) (found : Resource) → top name ≡ Some found → InServer (name ∷ []) found
unfolding InServer
by_top name found e =
    elim (chosen (is_text name (codes "protocol")) (Some Protocol) _ found e) [
      | inl h ↦ ap (λ (text : List ℕ). [] ∷ codes "rdf4j-server" ∷ text ∷ []) (word name (codes "protocol") own_protocol h.0)
          ∙ ap segments_of (same_Some Protocol found h.1)
      | inr e ↦ (let h = chosen_only (is_text name (codes "repositories")) (Some Repositories) found e in
          ap (λ (text : List ℕ). [] ∷ codes "rdf4j-server" ∷ text ∷ []) (word name (codes "repositories") own_repositories h.0)
          ∙ ap segments_of (same_Some Repositories found h.1))
    ]

by_server : (rest : List (List ℕ)) (found : Resource) → in_server rest ≡ Some found → InServer rest found
unfolding InServer Behind
by_server [] found e = cc
by_server (name ∷ []) found e = by_top name found e
by_server (name ∷ id ∷ rest) found e =
    let h = chosen_only (is_text name (codes "repositories")) (in_repository id rest) found e in
    ap (λ (text : List ℕ). [] ∷ codes "rdf4j-server" ∷ text ∷ id ∷ rest) (word name (codes "repositories") own_repositories h.0)
    ∙ by_repository id rest found h.1

pub resource_is : (segments : List (List ℕ)) (found : Resource) → resource_at segments ≡ Some found → segments ≡ segments_of found
unfolding InServer
resource_is [] found e = cc
resource_is (front ∷ []) found e = cc
resource_is (front ∷ server ∷ rest) found e =
    let h = chosen_only (is_text front []) _ found e in
    let g = chosen_only (is_text server (codes "rdf4j-server")) (in_server rest) found h.1 in
    ap (λ (text : List ℕ). text ∷ server ∷ rest) (word front [] own_nothing h.0)
    ∙ ap (λ (text : List ℕ). [] ∷ text ∷ rest) (word server (codes "rdf4j-server") own_server g.0)
    ∙ by_server rest found g.1

-- other segments are those of no resource
pub no_resource : (segments : List (List ℕ)) (resource : Resource) → resource_at segments ≡ None → segments ≡ segments_of resource → ⊥
no_resource segments resource e is = let found = resource_found resource in let same = ap resource_at is in let none : None ≡ Some resource = sym e ∙ same ∙ found in cc
