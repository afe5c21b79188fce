use Rattle.machine.proofs.Binds.{case_some, case_none, case_full}
use Rattle.machine.proofs.binding.choose_clause.Goals as goal

pub returns-in-Some-clause-sim : goal.returns-in-Some-clause-sim
returns-in-Some-clause-sim c =
    let f = c.in_ok-chosen.ensures in
    record { to = λ x s me k sc e cs w u h hv cb si fs. case_some x s me u h hv si cb fs c.right.ensures f.grows.kept c.in-Some.is f.cases }

pub returns-in-None-clause-sim : goal.returns-in-None-clause-sim
returns-in-None-clause-sim c =
    let f = c.in_ok-chosen.ensures in
    record { to = λ x s me k sc e cs w u h hv cb si fs. case_none x s me u h hv si cb fs c.right.ensures f.grows.kept c.in-None.is f.cases }

pub returns-in_err-chosen-clause-sim : goal.returns-in_err-chosen-clause-sim
returns-in_err-chosen-clause-sim c = record { to = λ x s me k sc e cs w u h hv cb si fs. case_full x s me u h hv si k c.from_residual.result c.from_residual.ensures.1 cb c.right.ensures c.in_err-chosen.ensures.cases }
