-- What stands at a key of an object.
use Rattle.std.specs.Prelude.{◌≡◌, List, ℕ, Option, Some, None}
use Rattle.results_json.specs.declared.member.Member.{Member}
use Rattle.results_json.specs.declared.member.Member.TheVariants.{Absent, Text, Other}
use Rattle.serde_json.specs.Data.{Data, string}

abbrev pub IsMember : Member → Option Data → Type 0
IsMember Absent found = found ≡ None
IsMember (Text text) found = found ≡ Some (string text.now)
IsMember Other found = (found ≡ None → ⊥) × ((s : List ℕ) → found ≡ Some (string s) → ⊥)
