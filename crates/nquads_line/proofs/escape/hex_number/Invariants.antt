use Rattle.std.proofs.Common.{◌≡◌, ◌<◌, ◌^◌, IsTrue, take}
use Rattle.std.specs.List.{list_all}
use Rattle.rdf_term.specs.Classes.{is_hex_digit}
use Rattle.nquads_line.specs.Written.{hex_value}
use Rattle.nquads_line.proofs.escape.hex_number.Given as goal

abbrev pub invariant-loop-digit : goal.invariant-loop-digit
invariant-loop-digit l = record {
  number : l.number ≡ hex_value (take l.digit-index l.digits);
  bound : l.number < 16 ^ l.digit-index;
  digits : IsTrue (list_all is_hex_digit (take l.digit-index l.digits));
}
