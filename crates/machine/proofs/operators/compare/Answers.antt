use Rattle.machine.proofs.Operating.{compared_equal, compared_unequal, compared_type}
use Rattle.machine.proofs.operators.compare.Goals as goal

pub returns-in_ok-same-in-Equal : goal.returns-in_ok-same-in-Equal
returns-in_ok-same-in-Equal c = compared_equal c.in-Equal.is c.in_ok-same-in-Equal.ensures c.truth.ensures

pub returns-in_ok-same-in-Unequal : goal.returns-in_ok-same-in-Unequal
returns-in_ok-same-in-Unequal c = compared_unequal c.in-Unequal.is c.in_ok-same-in-Unequal.ensures c.truth-in-Unequal.ensures

pub returns-in_default : goal.returns-in_default
returns-in_default c = compared_type c.args.operator c.in_default.not-Equal c.in_default.not-Unequal
