use Rattle.std.proofs.Common.{◌<◌, ◌^◌, arith}
use Rattle.nquads_line.proofs.ReadLemmas.{hex_room}
use Rattle.nquads_line.proofs.escape.hex_number.Goals as goal

pub overflow_mul-number : goal.overflow_mul-number
overflow_mul-number c =
    let small : c.loop-digit.number < 16 ^ 7 = hex_room c.loop-digit.number c.loop-digit.digit-index c.loop-digit.invariant.bound (omega arith) in
    omega arith

pub overflow_add-number : goal.overflow_add-number
overflow_add-number c =
    let small : c.loop-digit.number < 16 ^ 7 = hex_room c.loop-digit.number c.loop-digit.digit-index c.loop-digit.invariant.bound (omega arith) in
    let h = c.in-Some.ensures.value in
    omega arith
