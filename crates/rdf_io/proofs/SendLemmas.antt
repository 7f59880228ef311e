-- What a sink took.
use Rattle.std.proofs.Common.{◌≡◌, ℕ, ◌+◌, List, [], ◌++◌, take, drop, Option, Some, None, sym, ap, ◌∙◌, append_assoc, append-nil, take-add, take-append-drop}
use Rattle.std.specs.Io.KnownBytes.{Appends, Keeps}
use Rattle.rdf_io.specs.Sending.{Puts, IsPartOf}

pub puts_none : (a : Option (List ℕ)) → Puts a a []
puts_none a = λ t e. e ∙ ap Some (sym (append-nil t))

pub puts_more : (a b c : Option (List ℕ)) (x y : List ℕ) → Puts a b x → Puts b c y → Puts a c (x ++ y)
puts_more a b c x y p q = λ t e. q (t ++ x) (p t e) ∙ ap Some (append_assoc t x y)

pub puts_appends : (a b : Option (List ℕ)) (x : List ℕ) → Appends a b x → Puts a b x
puts_appends None b x h t e = cc
puts_appends (Some xs) None x h t e = absurd h
puts_appends (Some xs) (Some ys) x h t e = let same : xs ≡ t = cc in ap Some (h ∙ ap (λ (z : List ℕ). z ++ x) same)

-- a part was taken behind the first bytes
pub puts_part : (a b c : Option (List ℕ)) (text : List ℕ) (at n : ℕ) → Puts a b (take at text) → Appends b c (take n (drop at text)) → Puts a c (take (at + n) text)
puts_part a b c text at n p h =
    λ t e. puts_more a b c (take at text) (take n (drop at text)) p (puts_appends b c (take n (drop at text)) h) t e
    ∙ ap (λ (z : List ℕ). Some (t ++ z)) (sym (take-add at n text))

pub part_of : (n : ℕ) (text : List ℕ) → IsPartOf (take n text) text
part_of n text = (drop n text, sym (take-append-drop n text))

pub puts_kept : (a b c : Option (List ℕ)) (x : List ℕ) → Puts a b x → Keeps b c → Puts a c x
puts_kept a b c x p k = λ t e. kept b c (t ++ x) k (p t e) where
  kept : (u v : Option (List ℕ)) (w : List ℕ) → Keeps u v → u ≡ Some w → v ≡ Some w
  kept None v w h q = cc
  kept (Some y) None w h q = absurd h
  kept (Some y) (Some z) w h q = let same : z ≡ y = h in ap Some same ∙ q
