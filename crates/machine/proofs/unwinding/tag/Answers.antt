use Rattle.machine.proofs.Stepping.{tagged_by}
use Rattle.machine.proofs.unwinding.tag.Goals as goal

pub returns-clause-cases : goal.returns-clause-cases
returns-clause-cases c = tagged_by _ _ c.put-2.result c.in_ok-second.ensures.long c.in_ok-second.ensures.cases c.put-2.ensures.cases
