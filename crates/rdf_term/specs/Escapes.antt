-- The escapes of one character in a string: ECHAR of RDF 1.1 N-Triples, section 7, and of SPARQL 1.1, section 19.8.
use Rattle.std.specs.Prelude.{ℕ, Bool, codes, ◌==◌, if◌then◌else◌}
use Rattle.rdf_term.specs.Classes.{is_one_of}

-- ECHAR ::= '\' [tbnrf"'\]
abbrev pub is_echar : ℕ → Bool
is_echar = is_one_of (codes "tbnrf\"'\\")

-- what it means: tab, backspace, line feed, form feed, carriage return, or the mark itself
abbrev pub echar_meaning : ℕ → ℕ
echar_meaning e =
    if e == 116 then 9 else if e == 98 then 8 else if e == 110 then 10
    else if e == 102 then 12 else if e == 114 then 13 else e
