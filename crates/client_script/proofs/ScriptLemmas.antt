-- The line that a reader takes is the first one of its stream.
use Rattle.std.proofs.Common.{◌≡◌, ℕ, ◌+◌, ◌<◌, List, [], ◌∷◌, ◌++◌, false, length, take, drop, Option, Some, None, Ok, Err, sym, ap, ◌∙◌, arith, inr, add-one, append-nil, length-append}
use Rattle.std.specs.Prelude.{OnErr}
use Rattle.std.specs.declared.result.Result.{Result}
use Rattle.std.proofs.Math.Seq.{take-length}
use Rattle.std.proofs.lemmas.List.{drop_all}
use Rattle.client_script.specs.declared.command.Command.{Command}
use Rattle.client_script.specs.declared.script.ScriptFault.{ScriptFault}
use Rattle.client_script.specs.declared.script.ScriptFault.TheVariants.{BadLine, ReadFault, Memory}
use Rattle.client_script.specs.Inputs.{cut_line, first_line, IsStream}
use Rattle.client_script.specs.Scripts.{Reader, IsBad, NextCommand}
use Rattle.client_script.specs.Takes.{TakesLine}
use Rattle.client_script.specs.Waits.{has_lf, IsFirstLf}
use Rattle.client_script.proofs.InputLemmas.{cut_at, cut_none, cut_long, first_is}

-- the reader takes the first line of its stream
next_of : (old new : Reader) (end used : ℕ) (b rest : List ℕ) (left : Option (List ℕ)) (r : Result (Option Command) ScriptFault) → left ≡ Some rest
    → first_line b ≡ Some (take end old.held, drop used old.held ++ rest) → TakesLine old end used new r → NextCommand old.number b new left r
next_of old new end used b rest left (Ok None) told first t = absurd t
next_of old new end used b rest left (Ok (Some command)) told first t = (
  drop used old.held ++ rest,
  record { line = take end old.held; first = first; few = t.0; script = t.1 },
  ap (λ (x : Reader). x.number) t.2,
  (rest, told, ap (λ (x : Reader). x.held ++ rest) (sym t.2)),
)
next_of old new end used b rest left (Err (BadLine n)) told first t = (t.1, record { line = take end old.held; rest = drop used old.held ++ rest; first = first; bad = t.2 })
next_of old new end used b rest left (Err ReadFault) told first t = tt
next_of old new end used b rest left (Err Memory) told first t = tt

long_enough : (xs ys b : List ℕ) (n : ℕ) → b ≡ xs ++ ys → n < length xs → 0 < length b
long_enough xs ys b n e h = let size = simp length-append at (ap length e) in omega arith

-- an LF is held
pub next_ended : (old new : Reader) (n used : ℕ) (b : List ℕ) (left : Option (List ℕ)) (r : Result (Option Command) ScriptFault) → IsStream old.held left b
    → IsFirstLf old.held n → used ≡ n + 1 → TakesLine old n used new r → NextCommand old.number b new left r
next_ended old new n used b left r s at u t =
    let rest = s.0 in
    let cut : cut_line b ≡ (take n old.held, drop used old.held ++ rest) =
    ap cut_line s.2 ∙ cut_at old.held rest n at.within at.none at.at
    ∙ ap (λ (m : ℕ). (take n old.held, drop m old.held ++ rest)) (sym (add-one n) ∙ sym u) in
    next_of old new n used b rest left r s.1 (first_is b (long_enough old.held rest b n s.2 at.within) ∙ ap Some cut) t

-- the source has ended
pub next_over : (old new : Reader) (n : ℕ) (b : List ℕ) (left : Option (List ℕ)) (r : Result (Option Command) ScriptFault) → IsStream old.held left b
    → has_lf old.held ≡ false → ((rest : List ℕ) → left ≡ Some rest → rest ≡ []) → n ≡ length old.held → 0 < n → TakesLine old n n new r
    → NextCommand old.number b new left r
next_over old new n b left r s none over size some t =
    let rest = s.0 in
    let whole : b ≡ old.held = s.2 ∙ ap (λ (x : List ℕ). old.held ++ x) (over rest s.1) ∙ append-nil old.held in
    let line : old.held ≡ take n old.held = sym (ap (λ (m : ℕ). take m old.held) size ∙ take-length old.held) in
    let behind : [] ≡ drop n old.held ++ rest = sym (ap (λ (x : List ℕ). x ++ rest) (drop_all n old.held (omega arith)) ∙ over rest s.1) in
    let pair : List ℕ → List ℕ × List ℕ = λ x. (old.held, x) in
    let pair' : List ℕ → List ℕ × List ℕ = λ x. (x, drop n old.held ++ rest) in
    let cut : cut_line b ≡ (take n old.held, drop n old.held ++ rest) = ap cut_line whole ∙ cut_none old.held none ∙ ap pair behind ∙ ap pair' line in
    let size' = ap length whole in
    next_of old new n n b rest left r s.1 (first_is b (omega arith) ∙ ap Some cut) t

-- nothing is held at the end of the source
pub nothing_left : (held b : List ℕ) (left : Option (List ℕ)) → IsStream held left b → length held ≡ 0 → ((rest : List ℕ) → left ≡ Some rest → rest ≡ [])
    → (b ≡ []) × IsStream held left []
nothing_left [] b left s size over = (s.2 ∙ over s.0 s.1, (s.0, s.1, sym (over s.0 s.1)))
nothing_left (x ∷ held) b left s size over = absurd (omega arith)

-- the longest line has no room for more
pub bad_long : (held b : List ℕ) (left : Option (List ℕ)) (number : ℕ) → IsStream held left b → has_lf held ≡ false → length held ≡ 1048577 → IsBad number b
bad_long held b left number s none size =
    let line : (cut_line b).0 ≡ held ++ (cut_line s.0).0 = ap (λ (x : List ℕ). (cut_line x).0) s.2 ∙ cut_long held s.0 none in
    let long = simp length-append at (ap length line) in
    record {
      line = (cut_line b).0;
      rest = (cut_line b).1;
      first = first_is b (long_enough held s.0 b 0 s.2 (omega arith));
      bad = inr (λ command script. let short = script.short in absurd (omega arith));
    }

-- what follows of an error
pub on_err : {A E : Type 0} (r : Result A E) (P Q : Type 0) → (P → Q) → OnErr r P → OnErr r Q
on_err (Ok x) P Q f p = tt
on_err (Err e) P Q f p = f p
