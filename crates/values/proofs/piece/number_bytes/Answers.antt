use Rattle.std.proofs.Common.{◌≡◌, pos, nat_abs, ◌<ℤ◌, ◌∷◌, ap, ◌∙◌, arith, w64, rules}
use Rattle.std.proofs.lemmas.Fmt.{length-decimal-le}
use Rattle.std.proofs.lemmas.Int.{ints, to_z-of_z}
use Rattle.values.proofs.Decimals.{decimal_negative, decimal_positive, rest_of, rest_signed, number_spelled}
use Rattle.values.proofs.piece.number_bytes.Goals as goal

pub write_digits-start-requires : goal.write_digits-start-requires
write_digits-start-requires c = search (rules, length-decimal-le 20)

pub overflow_sub-sign : goal.overflow_sub-sign
overflow_sub-sign c = omega (arith, length-decimal-le 20, c.write_digits-start.ensures.start)

pub returns-then-n-lt0 : goal.returns-then-n-lt0
returns-then-n-lt0 c =
    let less : c.args.n <ℤ pos 0 = omega (arith, ints, c.if-n-lt0.true) in
    let size : c.unsigned_abs.result ≡ nat_abs c.args.n =
    c.unsigned_abs.ensures.value ∙ ap nat_abs (to_z-of_z w64 c.args.n c.ranges.n)
    in
    rest_signed 22 c.write_digits-start.result 45 c.write_digits-start.new.buf
    (c.write_digits-start.auto.buf ∙ c.told-buffer)
    (omega (arith, length-decimal-le 20, c.write_digits-start.ensures.start))
    (omega (arith, c.write_digits-start.ensures.start))
    ∙ (ap (λ t. 45 ∷ t) (number_spelled c.args.buffer.now c.write_digits-start.new.buf c.write_digits-start.result
    c.unsigned_abs.result (omega arith) c.told-buffer c.write_digits-start.ensures.written (omega arith))
    ∙ decimal_negative c.args.n c.unsigned_abs.result less size)

pub returns : goal.returns
returns c =
    let size : c.unsigned_abs.result ≡ nat_abs c.args.n =
    c.unsigned_abs.ensures.value ∙ ap nat_abs (to_z-of_z w64 c.args.n c.ranges.n)
    in
    rest_of 22 c.write_digits-start.result c.write_digits-start.new.buf
    (c.write_digits-start.auto.buf ∙ c.told-buffer)
    ∙ (number_spelled c.args.buffer.now c.write_digits-start.new.buf c.write_digits-start.result
    c.unsigned_abs.result (omega arith) c.told-buffer c.write_digits-start.ensures.written (omega arith)
    ∙ decimal_positive c.args.n c.unsigned_abs.result (λ less. omega (arith, ints, c.if-n-lt0.false)) size)
