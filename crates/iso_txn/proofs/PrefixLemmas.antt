-- Maps of prefixes as lists in the order of the prefixes.
use Rattle.std.proofs.Common.{◌≡◌, ℕ, Bool, true, false, not, ◌||◌, List, [], ◌∷◌, filter, find, refl, sym, ◌∙◌, ap, cond, Some, None}
use Rattle.std.specs.Prelude.{Option}
use Rattle.std.specs.List.{AllByRecursion, list_any}
use Rattle.std.specs.Option.{is_some}
use Rattle.std.specs.Map.{keys_of, lookup}
use Rattle.std.specs.BTreeMap.{insert_entry}
use Rattle.std.specs.declared.cmp.Ordering.{Ordering}
use Rattle.std.specs.declared.cmp.Ordering.TheVariants.{Less, Equal, Greater}
use Rattle.rdf_term.specs.TextOrder.{text_cmp}
use Rattle.journal.specs.declared.reply.Reply.{Reply}
use Rattle.journal.specs.declared.reply.Reply.TheVariants as reply
use Rattle.journal.specs.Committed.{is_prefix, with_prefix}
use Rattle.journal.specs.Replies.{name_reply}
use Rattle.std.specs.Ordering.{is_eq, match_ordering}
use Rattle.std.specs.BTreeMap.{is_at}
use Rattle.std.specs.Map.{remove_entry}
use Rattle.std.specs.List.Sorted.{IsStrictlySortedBy}
use Rattle.std.proofs.lemmas.Map.Keys.{sorted_head, sorted_tail}
use Rattle.rdf_term.specs.OrderLaws.{text_exact}

equal : (o : Ordering) → is_eq o ≡ true → o ≡ Equal
equal Less is = cc
equal Equal is = refl
equal Greater is = cc

-- texts that tie are one
same_text : (a b : List ℕ) → is_eq (text_cmp a b) ≡ true → a ≡ b
same_text a b is = text_exact a b (equal (text_cmp a b) is)

-- a put pair
pub put_is : (a b : List ℕ) (es : List (List ℕ × List ℕ)) → insert_entry text_cmp es a b ≡ with_prefix a b es
put_is a b [] = refl
put_is a b (e ∷ es) = go (text_cmp a e.0) refl (put_is a b es)
  where
    go : (o : Ordering) → text_cmp a e.0 ≡ o → insert_entry text_cmp es a b ≡ with_prefix a b es
        → match_ordering o ((a, b) ∷ e ∷ es) ((e.0, b) ∷ es) (e ∷ insert_entry text_cmp es a b)
        ≡ elim o [ Less ↦ (a, b) ∷ e ∷ es | Equal ↦ (a, b) ∷ es | Greater ↦ e ∷ with_prefix a b es ]
    go Less is ih = refl
    go Equal is ih = ap (λ k. (k, b) ∷ es) (sym (text_exact a e.0 is))
    go Greater is ih = ap (λ r. e ∷ r) ih

-- whether a prefix is there
pub has_is : (a : List ℕ) (es : List (List ℕ × List ℕ)) → is_some (lookup (is_at (text_cmp a)) es) ≡ list_any (is_prefix a) es
has_is a [] = refl
has_is a (e ∷ es) = go (is_prefix a e) (has_is a es)
  where
    go : (b : Bool) → is_some (lookup (is_at (text_cmp a)) es) ≡ list_any (is_prefix a) es → is_some (cond b (Some e.1) (lookup (is_at (text_cmp a)) es)) ≡ (b || list_any (is_prefix a) es)
    go true ih = refl
    go false ih = ih

-- its name
abbrev pub name_found : Option (List ℕ) → Reply
name_found None = reply.NoPrefix
name_found (Some name) = reply.Prefix name

pub get_is : (a : List ℕ) (es : List (List ℕ × List ℕ)) → name_reply (find (is_prefix a) es) ≡ name_found (lookup (is_at (text_cmp a)) es)
get_is a [] = refl
get_is a (e ∷ es) = go (is_prefix a e) (get_is a es)
  where
    go : (b : Bool) → name_reply (find (is_prefix a) es) ≡ name_found (lookup (is_at (text_cmp a)) es)
        → name_reply (cond b (Some e) (find (is_prefix a) es)) ≡ name_found (cond b (Some e.1) (lookup (is_at (text_cmp a)) es))
    go true ih = refl
    go false ih = ih

-- a removed prefix: keys that ascend have it once
none_later : (a k : List ℕ) (es : List (List ℕ × List ℕ)) → a ≡ k → AllByRecursion (λ y. text_cmp k y ≡ Less) (keys_of es) → es ≡ filter (λ pair. not (is_prefix a pair)) es
none_later a k [] same h = refl
none_later a k (e ∷ es) same h =
    let apart : is_prefix a e ≡ false = ap (λ x. is_eq (text_cmp x e.0)) same ∙ ap is_eq h.0 in
    ap (λ r. e ∷ r) (none_later a k es same h.1) ∙ ap (λ b. cond (not b) (e ∷ filter (λ pair. not (is_prefix a pair)) es) (filter (λ pair. not (is_prefix a pair)) es)) (sym apart)

pub remove_is : (a : List ℕ) (es : List (List ℕ × List ℕ)) → IsStrictlySortedBy text_cmp (keys_of es) → remove_entry (is_at (text_cmp a)) es ≡ filter (λ pair. not (is_prefix a pair)) es
remove_is a [] s = refl
remove_is a (e ∷ es) s = go (is_prefix a e) refl (remove_is a es (sorted_tail text_cmp e.0 (keys_of es) s))
  where
    go : (b : Bool) → is_prefix a e ≡ b → remove_entry (is_at (text_cmp a)) es ≡ filter (λ pair. not (is_prefix a pair)) es
        → cond b es (e ∷ remove_entry (is_at (text_cmp a)) es) ≡ cond (not b) (e ∷ filter (λ pair. not (is_prefix a pair)) es) (filter (λ pair. not (is_prefix a pair)) es)
    go true is ih = none_later a e.0 es (same_text a e.0 is) (sorted_head text_cmp e.0 (keys_of es) s)
    go false is ih = ap (λ r. e ∷ r) ih
