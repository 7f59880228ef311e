-- Faults with one number are equal.
use Rattle.std.proofs.Common.{◌≡◌, ℕ, ◌==◌, ◌↔◌, Bool, true, IsTrue, refl, sym, ◌∙◌, subst}
use Rattle.nquads_line.specs.declared.fault.LineFault.{LineFault}
use Rattle.nquads_line.specs.declared.fault.LineFault.TheVariants.{Bad, TooLong, Memory}
use Rattle.nquads_line.specs.declared.fault.TermTextFault.{TermTextFault}
use Rattle.nquads_line.specs.declared.fault.TermTextFault.TheVariants.{BadTerm, TooLong as LongTerm, Memory as NoMemory}
use Rattle.nquads_line.specs.Faults.{line_fault_number, term_fault_number}
use Rattle.nquads_line.proofs.Steps.{equal, itself}

-- a test of numbers that tell values apart tells whether two values are equal
same_by_number : {K : Type 0} (number : K → ℕ) → ((x y : K) → number x ≡ number y → x ≡ y)
    → (x y : K) (r : Bool) → r ≡ (number x == number y) → IsTrue r ↔ (x ≡ y)
same_by_number number exact x y r e =
    (λ h. exact x y (equal (number x) (number y) (sym e ∙ h)), λ q. e ∙ subst (λ z. (number x == number z) ≡ true) q (itself (number x)))

line_fault_exact : (x y : LineFault) → line_fault_number x ≡ line_fault_number y → x ≡ y
line_fault_exact Bad Bad e = refl
line_fault_exact Bad TooLong e = cc
line_fault_exact Bad Memory e = cc
line_fault_exact TooLong Bad e = cc
line_fault_exact TooLong TooLong e = refl
line_fault_exact TooLong Memory e = cc
line_fault_exact Memory Bad e = cc
line_fault_exact Memory TooLong e = cc
line_fault_exact Memory Memory e = refl

pub same_line_faults : (x y : LineFault) (r : Bool) → r ≡ (line_fault_number x == line_fault_number y) → IsTrue r ↔ (x ≡ y)
same_line_faults = same_by_number line_fault_number line_fault_exact

term_fault_exact : (x y : TermTextFault) → term_fault_number x ≡ term_fault_number y → x ≡ y
term_fault_exact BadTerm BadTerm e = refl
term_fault_exact BadTerm LongTerm e = cc
term_fault_exact BadTerm NoMemory e = cc
term_fault_exact LongTerm BadTerm e = cc
term_fault_exact LongTerm LongTerm e = refl
term_fault_exact LongTerm NoMemory e = cc
term_fault_exact NoMemory BadTerm e = cc
term_fault_exact NoMemory LongTerm e = cc
term_fault_exact NoMemory NoMemory e = refl

pub same_term_faults : (x y : TermTextFault) (r : Bool) → r ≡ (term_fault_number x == term_fault_number y) → IsTrue r ↔ (x ≡ y)
same_term_faults = same_by_number term_fault_number term_fault_exact
