use Rattle.machine.proofs.Binds.{bind_some, bind_none, bind_full}
use Rattle.machine.proofs.binding.bind.Goals as goal

pub returns-in-Some-clause-sim : goal.returns-in-Some-clause-sim
returns-in-Some-clause-sim c =
    let f = c.in_ok-env.ensures in
    record { to = λ x s me k sc q e b w u h hv cb si fs. bind_some x s me u h hv si cb fs c.left-pattern.ensures c.right.ensures c.right-rest.ensures f.grows.kept c.in-Some.is f.cases }

pub returns-in-None-clause-sim : goal.returns-in-None-clause-sim
returns-in-None-clause-sim c =
    let f = c.in_ok-env.ensures in
    record { to = λ x s me k sc q e b w u h hv cb si fs. bind_none x s me u h hv si cb fs c.left-pattern.ensures f.grows.kept c.in-None.is f.cases }

pub returns-in_err-env-clause-sim : goal.returns-in_err-env-clause-sim
returns-in_err-env-clause-sim c = record { to = λ x s me k sc q e b w u h hv cb si fs. bind_full x s me u h hv si k c.from_residual.result c.from_residual.ensures.1 cb c.left-pattern.ensures c.in_err-env.ensures.cases }
