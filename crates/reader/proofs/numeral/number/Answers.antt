use Rattle.std.proofs.Common.{arith}
use Rattle.reader.proofs.Numerals.{digits-below}
use Rattle.reader.proofs.numeral.number.Goals as goal

pub overflow_mul-value : goal.overflow_mul-value
overflow_mul-value c =
    let below = digits-below c.loop-byte.value c.loop-byte.byte-index (omega arith) c.loop-byte.invariant.0 in
    omega arith

pub overflow_add-value : goal.overflow_add-value
overflow_add-value c =
    let below = digits-below c.loop-byte.value c.loop-byte.byte-index (omega arith) c.loop-byte.invariant.0 in
    omega (arith, c.in_ok-value.ensures)
