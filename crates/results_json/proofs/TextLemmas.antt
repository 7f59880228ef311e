-- The text of a value without numbers is UTF-8 and reads as that value.
use Rattle.std.proofs.Common.{◌≡◌, ◌≤◌, List, [], ◌∷◌, ◌++◌, Bool, true, false, Option, Some, IsUtf8, refl, sym, ap, ◌∙◌, append-nil, option_and_then}
use Rattle.json.specs.Token.{Token}
use Rattle.json.specs.Lex.{tokens}
use Rattle.json.specs.Json as json
use Rattle.json.specs.Tree.{json_tokens, HasNumbers, ItemsHaveNumbers, MembersHaveNumbers, depth as json_depth}
use Rattle.json.proofs.Printed.Tokens.{tokens-print}
use Rattle.json.proofs.Printed.Trees.{value-json_tokens, ArePrintable-json_tokens}
use Rattle.json.proofs.Printed.Utf8.{IsUtf8-are_ascii, IsUtf8-quoted, IsUtf8-boolean}
use Rattle.std.proofs.lemmas.Str.{IsUtf8-append, IsUtf8-nil}
use Rattle.serde_json.specs.Data.{Data, null, boolean, number, string, array, object, Items, no_items, item, Members, no_members, member}
use Rattle.serde_json.specs.Read.{read, of_json, max_depth}
use Rattle.serde_json.specs.Written.{outline, items_outline, members_outline, compact_text, items_text, members_text, comma_if}
use Rattle.serde_json.proofs.Texts.{print-outline}

-- a value without numbers, whose strings are UTF-8
abbrev mutual
  pub IsText : Data → Type 0
  IsText null = Unit {0}
  IsText (boolean b) = Unit {0}
  IsText (number n) = ⊥
  IsText (string s) = IsUtf8 s
  IsText (array ds) = AreTexts ds
  IsText (object ms) = AreTextMembers ms

  pub AreTexts : Items → Type 0
  AreTexts no_items = Unit {0}
  AreTexts (item d ds) = IsText d × AreTexts ds

  pub AreTextMembers : Members → Type 0
  AreTextMembers no_members = Unit {0}
  AreTextMembers (member k d ms) = IsUtf8 k × IsText d × AreTextMembers ms

comma : (b : Bool) → IsUtf8 (comma_if b)
comma true = IsUtf8-are_ascii (44 ∷ []) refl
comma false = IsUtf8-nil

mutual
  pub text_utf8 : (d : Data) → IsText d → IsUtf8 (compact_text d)
  text_utf8 null h = IsUtf8-are_ascii (110 ∷ 117 ∷ 108 ∷ 108 ∷ []) refl
  text_utf8 (boolean b) h = IsUtf8-boolean b
  text_utf8 (number n) h = absurd h
  text_utf8 (string s) h = IsUtf8-quoted s h
  text_utf8 (array ds) h = IsUtf8-append (91 ∷ []) (items_text false ds) (IsUtf8-are_ascii (91 ∷ []) refl) (items_utf8 false ds h)
  text_utf8 (object ms) h = IsUtf8-append (123 ∷ []) (members_text false ms) (IsUtf8-are_ascii (123 ∷ []) refl) (members_utf8 false ms h)

  items_utf8 : (later : Bool) (ds : Items) → AreTexts ds → IsUtf8 (items_text later ds)
  items_utf8 later no_items h = IsUtf8-are_ascii (93 ∷ []) refl
  items_utf8 later (item d ds) h = IsUtf8-append (comma_if later) _ (comma later) (IsUtf8-append (compact_text d) (items_text true ds) (text_utf8 d h.0) (items_utf8 true ds h.1))

  members_utf8 : (later : Bool) (ms : Members) → AreTextMembers ms → IsUtf8 (members_text later ms)
  members_utf8 later no_members h = IsUtf8-are_ascii (125 ∷ []) refl
  members_utf8 later (member k d ms) h =
      IsUtf8-append (comma_if later) _ (comma later) (IsUtf8-append _ (58 ∷ (compact_text d ++ members_text true ms)) (IsUtf8-quoted k h.0)
      (IsUtf8-append (58 ∷ []) (compact_text d ++ members_text true ms) (IsUtf8-are_ascii (58 ∷ []) refl)
      (IsUtf8-append (compact_text d) (members_text true ms) (text_utf8 d h.1) (members_utf8 true ms h.2))))

mutual
  pub no_numbers : (d : Data) → IsText d → HasNumbers (outline d)
  no_numbers null h = tt
  no_numbers (boolean b) h = tt
  no_numbers (number n) h = absurd h
  no_numbers (string s) h = tt
  no_numbers (array ds) h = no_item_numbers ds h
  no_numbers (object ms) h = no_member_numbers ms h

  no_item_numbers : (ds : Items) → AreTexts ds → ItemsHaveNumbers (items_outline ds)
  no_item_numbers no_items h = tt
  no_item_numbers (item d ds) h = (no_numbers d h.0, no_item_numbers ds h.1)

  no_member_numbers : (ms : Members) → AreTextMembers ms → MembersHaveNumbers (members_outline ms)
  no_member_numbers no_members h = tt
  no_member_numbers (member k d ms) h = (no_numbers d h.1, no_member_numbers ms h.2)

abbrev whole : Option (json.Json × List Token) → Option Data
whole r = option_and_then of_json (option_and_then (λ p. json.if_last p.0 p.1) r)

pub text_reads : (d : Data) → IsText d → json_depth (outline d) ≤ max_depth → of_json (outline d) ≡ Some d → read (compact_text d) ≡ Some d
text_reads d h shallow back =
    let ts = json_tokens (outline d) in
    let same : tokens (compact_text d) ≡ ts ++ [] = ap tokens (sym (print-outline d)) ∙ tokens-print ts (ArePrintable-json_tokens (outline d) (no_numbers d h)) ∙ sym (append-nil ts) in
    ap (λ us. whole (json.value max_depth us)) same ∙ ap whole (value-json_tokens (outline d) max_depth [] shallow) ∙ back
