use Rattle.machine.proofs.Operating.{divides_result, divides_big, divides_zero}
use Rattle.machine.proofs.operators.quotient.Goals as goal

pub returns-in-Ok : goal.returns-in-Ok
returns-in-Ok c = divides_result c.in-Ok.is c.from.ensures

pub returns-in-Err-TooBig : goal.returns-in-Err-TooBig
returns-in-Err-TooBig c = let h = c.in-Err-TooBig in divides_big h.is (rw h.is at h.field-0-is)

pub returns-in-Err-ByZero : goal.returns-in-Err-ByZero
returns-in-Err-ByZero c = let h = c.in-Err-ByZero in divides_zero h.is (rw h.is at h.field-0-is)
