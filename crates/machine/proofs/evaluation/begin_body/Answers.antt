use Rattle.machine.proofs.Stepping.{begin_statement, begin_last}
use Rattle.machine.proofs.evaluation.begin_body.Goals as goal

pub returns-in_ok-waits-in-Some-clause-sim : goal.returns-in_ok-waits-in-Some-clause-sim
returns-in_ok-waits-in-Some-clause-sim c =
    let t = c.in_ok-waits-in-Some.ensures in
    record { to = λ x s me k sc b w e cb si fs. begin_statement x s me c.in-Some.ensures e cb si fs t.grows.kept t.cases }

pub returns-in-None-clause-sim : goal.returns-in-None-clause-sim
returns-in-None-clause-sim c = record { to = λ x s me k sc b w e cb si fs. begin_last x s me c.in-None.ensures e cb si fs }
