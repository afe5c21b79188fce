use Rattle.machine.proofs.Operating.{numbers_some, numbers_none}
use Rattle.machine.proofs.operators.number.Goals as goal

pub returns-in-Some : goal.returns-in-Some
returns-in-Some c = numbers_some c.in-Some.is c.from.ensures

pub returns-in-None : goal.returns-in-None
returns-in-None c = numbers_none c.in-None.is
