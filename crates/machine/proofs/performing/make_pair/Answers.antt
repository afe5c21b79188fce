use Rattle.machine.proofs.Operating.{pair_by}
use Rattle.machine.proofs.performing.make_pair.Goals as goal

pub returns-clause-cases : goal.returns-clause-cases
returns-clause-cases c = pair_by _ _ _ c.put.result c.left-second.ensures c.right-rest.ensures c.left-first.ensures c.put.ensures.cases
