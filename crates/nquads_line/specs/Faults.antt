-- Faults by numbers: two faults are equal where their numbers are.
use Rattle.std.specs.Prelude.{ℕ, Bool, nat_eq}
use Rattle.std.specs.Ordering.{on}
use Rattle.std.specs.Cmp.{IsEquivalence, on_equiv, nat_eq_equiv}
use Rattle.nquads_line.specs.declared.fault.LineFault.{LineFault}
use Rattle.nquads_line.specs.declared.fault.LineFault.TheVariants.{Bad, TooLong, Memory}
use Rattle.nquads_line.specs.declared.fault.TermTextFault.{TermTextFault}
use Rattle.nquads_line.specs.declared.fault.TermTextFault.TheVariants.{BadTerm, TooLong as LongTerm, Memory as NoMemory}

-- of a line
abbrev pub line_fault_number : LineFault → ℕ
line_fault_number Bad = 0
line_fault_number TooLong = 1
line_fault_number Memory = 2

abbrev pub same_line_fault : LineFault → LineFault → Bool
same_line_fault = on line_fault_number nat_eq

pub line_fault_laws : IsEquivalence same_line_fault
line_fault_laws = on_equiv line_fault_number nat_eq_equiv

-- of a term's text
abbrev pub term_fault_number : TermTextFault → ℕ
term_fault_number BadTerm = 0
term_fault_number LongTerm = 1
term_fault_number NoMemory = 2

abbrev pub same_term_fault : TermTextFault → TermTextFault → Bool
same_term_fault = on term_fault_number nat_eq

pub term_fault_laws : IsEquivalence same_term_fault
term_fault_laws = on_equiv term_fault_number nat_eq_equiv
