use Rattle.std.proofs.Common.{◌≡◌, ◌++◌, take}
use Rattle.http_frame.specs.Wire.{field_lines}
use Rattle.http_frame.proofs.wire.put_fields.Given as goal

abbrev pub invariant-loop-field : goal.invariant-loop-field
invariant-loop-field l = l.out.items ≡ l.fn.out.items ++ field_lines (take l.field-index l.fields)
