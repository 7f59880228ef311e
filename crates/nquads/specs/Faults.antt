-- Faults by numbers: two faults are equal where their causes and their lines are.
use Rattle.std.specs.Prelude.{ℕ, Bool, nat_eq}
use Rattle.std.specs.Ordering.{on, eq_of_both}
use Rattle.std.specs.Cmp.{IsEquivalence, on_equiv, and_equiv, nat_eq_equiv}
use Rattle.nquads.specs.declared.fault.DataFault.{DataFault}
use Rattle.nquads.specs.declared.fault.DataFault.TheVariants.{BadLine, TooLong, Memory}

abbrev pub cause_number : DataFault → ℕ
cause_number (BadLine n) = 0
cause_number (TooLong n) = 1
cause_number Memory = 2

-- the number of the line, and 0 where there is none
abbrev pub fault_line : DataFault → ℕ
fault_line (BadLine n) = n
fault_line (TooLong n) = n
fault_line Memory = 0

abbrev pub same_fault : DataFault → DataFault → Bool
same_fault = eq_of_both (on cause_number nat_eq) (on fault_line nat_eq)

pub fault_laws : IsEquivalence same_fault
fault_laws = and_equiv (on_equiv cause_number nat_eq_equiv) (on_equiv fault_line nat_eq_equiv)
