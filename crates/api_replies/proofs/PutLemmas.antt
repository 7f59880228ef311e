-- What is put at the end of a buffer.
use Rattle.std.proofs.Common.{◌≡◌, ◌≤◌, ◌+◌, ℕ, List, [], ◌++◌, Ok, Err, ap, ◌∙◌, arith, length, codes, encode_utf8_all, append_assoc, append-nil, length-append}
use Rattle.std.specs.Prelude.{IsOk, OnOk}
use Rattle.std.specs.declared.result.Result.{Result}
use Rattle.journal.specs.declared.txn.Txn.{Txn}
use Rattle.http_frame.specs.Wire.{field_lines}
use Rattle.api_paths.specs.TransactionNames.{name_of}
use Rattle.api_replies.specs.Parts.{created}

-- no room is lost where bytes are put into spare ones
pub room_kept : {E : Type 0} (r : Result (Unit {0}) E) (old new bytes : List ℕ) (spare spare' : ℕ) → IsOk r → OnOk r (new ≡ old ++ bytes)
    → spare ≤ spare' + length bytes → spare + length old ≤ spare' + length new
room_kept (Ok u) old new bytes spare spare' ok e h = let sum = ap length e ∙ length-append old bytes in omega arith
room_kept (Err w) old new bytes spare spare' ok e h = cc

pieces : (old key mark base repo part name end : List ℕ)
    → (((((old ++ (key ++ mark)) ++ base) ++ repo) ++ part) ++ name) ++ end ≡ old ++ ((((key ++ mark) ++ (((base ++ repo) ++ part) ++ name)) ++ end) ++ [])
pieces old key mark base repo part name end = simp (append_assoc, append-nil)

-- the field Location, piece by piece
pub location_put : (old a b c d e new repo : List ℕ) (t : Txn) → a ≡ old ++ codes "Location: " → b ≡ a ++ codes "/rdf4j-server/repositories/"
    → c ≡ b ++ encode_utf8_all repo → d ≡ c ++ codes "/transactions/" → e ≡ d ++ name_of t → new ≡ e ++ codes "\r\n"
    → new ≡ old ++ field_lines (created repo t).fields
location_put old a b c d e new repo t ha hb hc hd he hn =
    hn ∙ ap (λ v. v ++ codes "\r\n") (he ∙ ap (λ v. v ++ name_of t) (hd ∙ ap (λ v. v ++ codes "/transactions/") (hc
    ∙ ap (λ v. v ++ encode_utf8_all repo) (hb ∙ ap (λ v. v ++ codes "/rdf4j-server/repositories/") ha))))
    ∙ pieces old (codes "Location") (codes ": ") (codes "/rdf4j-server/repositories/") (encode_utf8_all repo) (codes "/transactions/") (name_of t) (codes "\r\n")
