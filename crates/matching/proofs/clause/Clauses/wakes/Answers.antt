use Rattle.matching.proofs.Choosing.{wakes_as}
use Rattle.matching.proofs.clause.Clauses.wakes.Goals as goal

pub returns-clause-cases : goal.returns-clause-cases
returns-clause-cases c = wakes_as _ c.is_some.ensures c.in_ok-found.ensures.cases
