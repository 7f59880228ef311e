-- The words of the client, as `clap` reads them.
use Rattle.std.proofs.Common.{◌≡◌, ◌∙◌, ◌==◌, true, not, ℕ, List, [], Option, Some, None, option_map, codes, encode_utf8_all, length, if◌then◌else◌, sym, refl, ap, ap₂}
use Rattle.std.specs.Str.{IsUtf8, chars}
use Rattle.clap.specs.Words.{App, Row, Text, fault_of, first_of, first_value, found_of, is_simple, is_simple_and_free, matches_of, rows_of}
use Rattle.clap.specs.declared.parser.matches.ArgMatches.{ArgMatches}
use Rattle.clap.proofs.OnLiterals.{clap_on_literals}
use Rattle.clap.proofs.WalkLemmas.{first_value-rows}
use Rattle.rdf_term.proofs.TextLemmas.{chars_of}
use Rattle.rdf_cli.specs.Words.{client_app, client_line, client_words, if_right, value_of}

-- an option that has no value
pub no_value : (m : ArgMatches) (name : List ℕ) → None ≡ first_value (found_of m) name → None ≡ option_map chars (first_of name (rows_of (found_of m)))
no_value m name e = ap (option_map chars) (e ∙ first_value-rows (found_of m) name)

-- an option's value, read as text
pub some_value : (m : ArgMatches) (name value text : List ℕ) → IsUtf8 value → Some value ≡ first_value (found_of m) name → encode_utf8_all text ≡ value
    → Some text ≡ option_map chars (first_of name (rows_of (found_of m)))
some_value m name value text utf8 e spelled =
    ap Some (sym (chars_of text value utf8 (sym spelled))) ∙ ap (option_map chars) (e ∙ first_value-rows (found_of m) name)

-- the command is one of which `clap` says all
is_plain : is_simple client_app ≡ true
unfolding clap_on_literals
is_plain = refl

is_free : is_simple_and_free client_app ≡ true
unfolding clap_on_literals
is_free = refl

not_refused : (words : List (List ℕ)) (server id : Option (List ℕ)) → fault_of client_app (client_line words) ≡ []
    → server ≡ value_of (codes "server") words → id ≡ value_of (codes "repository") words → if_right server id ≡ client_words words
not_refused words server id none server_is id_is =
    rw (server_is, id_is) (sym (ap (λ kinds. if not (length kinds == 0) then None else if_right (value_of (codes "server") words) (value_of (codes "repository") words)) none))

-- what is made of words that `clap` takes
pub taken : (app : App) (line : List Text) (words : List (List ℕ)) (rows : List Row) (rest : Type 0) (server id : Option (List ℕ)) → app ≡ client_app → line ≡ client_line words
    → (is_simple_and_free app ≡ true → fault_of app line ≡ []) → (is_simple app ≡ true → (rows ≡ matches_of app line) × rest)
    → server ≡ option_map chars (first_of (codes "server") rows) → id ≡ option_map chars (first_of (codes "repository") rows)
    → if_right server id ≡ client_words words
taken app line words rows rest server id app_is line_is free simple server_is id_is =
    let same = (simple (ap is_simple app_is ∙ is_plain)).0 ∙ ap₂ matches_of app_is line_is in
    not_refused words server id (sym (ap₂ fault_of app_is line_is) ∙ free (ap is_simple_and_free app_is ∙ is_free)) (server_is ∙ ap (λ r. option_map chars (first_of (codes "server") r)) same)
    (id_is ∙ ap (λ r. option_map chars (first_of (codes "repository") r)) same)
