-- Faults of one cause and one line are equal.
use Rattle.std.proofs.Common.{◌≡◌, ◌↔◌, ◌==◌, ◌&&◌, Bool, true, IsTrue, refl, ap, sym, ◌∙◌, subst}
use Rattle.std.proofs.lemmas.Bool.Decides.{Decides-eqb}
use Rattle.nquads.specs.declared.fault.DataFault.{DataFault}
use Rattle.nquads.specs.declared.fault.DataFault.TheVariants.{BadLine, TooLong, Memory}
use Rattle.nquads.specs.Faults.{cause_number, fault_line, same_fault}
use Rattle.nquads.proofs.LineLemmas.{split}

fault_exact : (x y : DataFault) → cause_number x ≡ cause_number y → fault_line x ≡ fault_line y → x ≡ y
fault_exact (BadLine n) (BadLine m) c l = ap BadLine l
fault_exact (BadLine n) (TooLong m) c l = cc
fault_exact (BadLine n) Memory c l = cc
fault_exact (TooLong n) (BadLine m) c l = cc
fault_exact (TooLong n) (TooLong m) c l = ap TooLong l
fault_exact (TooLong n) Memory c l = cc
fault_exact Memory (BadLine m) c l = cc
fault_exact Memory (TooLong m) c l = cc
fault_exact Memory Memory c l = refl

same_itself : (x : DataFault) → same_fault x x ≡ true
same_itself x =
    ap (λ b. b && (fault_line x == fault_line x)) ((Decides-eqb (cause_number x) (cause_number x)).1 refl)
    ∙ (Decides-eqb (fault_line x) (fault_line x)).1 refl

pub same_faults : (x y : DataFault) (r : Bool) → r ≡ same_fault x y → IsTrue r ↔ (x ≡ y)
same_faults x y r e = (
  λ h. (let parts = split (cause_number x == cause_number y) (fault_line x == fault_line y) (sym e ∙ h) in
      fault_exact x y ((Decides-eqb (cause_number x) (cause_number y)).0 parts.0) ((Decides-eqb (fault_line x) (fault_line y)).0 parts.1)),
  λ q. e ∙ subst (λ z. same_fault x z ≡ true) q (same_itself x),
)
