use Rattle.std.proofs.Common.{◌∷◌, ap, ◌∙◌, arith, length-set, rules}
use Rattle.std.proofs.lemmas.Fmt.{length-decimal-le}
use Rattle.values.proofs.Decimals.{rest_signed, worker_spelled}
use Rattle.values.proofs.piece.worker_bytes.Goals as goal

pub write_digits-sign-requires : goal.write_digits-sign-requires
write_digits-sign-requires c = search (rules, length-decimal-le 20)

pub overflow_sub-sign : goal.overflow_sub-sign
overflow_sub-sign c = omega (arith, length-decimal-le 20, c.write_digits-sign.ensures.start)

pub returns : goal.returns
returns c =
    rest_signed 22 c.write_digits-sign.result 60 c.write_digits-sign.new.buf
    (c.write_digits-sign.auto.buf ∙ (length-set c.args.buffer.now 21 62 ∙ c.told-buffer))
    (omega (arith, length-decimal-le 20, c.write_digits-sign.ensures.start))
    (omega (arith, c.write_digits-sign.ensures.start))
    ∙ ap (λ t. 60 ∷ t) (worker_spelled c.args.buffer.now c.write_digits-sign.new.buf c.write_digits-sign.result
    c.args.n c.ranges.n.fits c.told-buffer c.write_digits-sign.ensures.written (omega arith))
