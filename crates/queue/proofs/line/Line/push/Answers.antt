use Rattle.std.proofs.Common.{refl, arith}
use Rattle.std.proofs.lemmas.Result.{err_from_is_err_and}
use Rattle.queue.proofs.Waiting.{full, pushed, waiting_same}
use Rattle.queue.proofs.line.Line.push.Goals as goal

pub returns-in_err-write_slot-clause-cases : goal.returns-in_err-write_slot-clause-cases
returns-in_err-write_slot-clause-cases c =
    let p = err_from_is_err_and c.from_residual.result c.from_residual.ensures.1 in
    rw p.1 (
      full c.args.self.now (omega arith) (omega (arith, c.in_err-write_slot.ensures.0)),
      waiting_same c.args.self.now _ c.in_err-write_slot.ensures.1 refl refl,
    )

pub returns-clause-cases : goal.returns-clause-cases
returns-clause-cases c =
    pushed c.args.self.now _ c.numbered.result c.args.number (omega arith) (omega (arith, c.in_ok-write_slot.ensures.0))
    c.in_ok-write_slot.ensures.1 c.numbered.ensures.number (omega (arith, c.write_slot.auto.words)) refl refl
