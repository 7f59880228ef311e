use Rattle.std.proofs.Common.{◌≡◌, ℕ, ◌+◌, ◌-◌, ◌≤◌, List, length, take, drop, arith, length-take, sym, ap, ◌∙◌, drop-drop}
use Rattle.std.proofs.lemmas.List.{drop-take}
use Rattle.client_script.proofs.input.Input.consume.Goals as goal

cut_front : (xs : List ℕ) (s len n : ℕ) → n ≤ len → take (len - n) (drop (s + n) xs) ≡ drop n (take len (drop s xs))
cut_front xs s len n h =
    let k : n + (len - n) ≡ len = omega arith in
    sym (ap (λ m. drop n (take m (drop s xs))) (sym k) ∙ drop-take n (len - n) (drop s xs) ∙ ap (take (len - n)) (drop-drop n s xs ∙ ap (λ m. drop m xs) (omega arith)))

pub returns : goal.returns
returns c = cut_front c.self.inside.bytes.items c.self.inside.start c.self.inside.len c.args.count (omega (arith, simp length-take at (ap length c.self.view_is))) ∙ ap (drop c.args.count) c.self.view_is
