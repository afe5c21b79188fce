use Rattle.machine.proofs.Evaluating.{evaluate_constant, evaluate_variable, evaluate_apply, evaluate_case, evaluate_until, evaluate_receive, evaluate_catch, evaluated}
use Rattle.machine.proofs.state.Worker.evaluate.Goals as goal

pub returns-in-Constant-clause-sim : goal.returns-in-Constant-clause-sim
returns-in-Constant-clause-sim c = evaluated c.in-Constant.ensures (λ x s me k sc e w q p si fs i. evaluate_constant x s me si fs i)

pub returns-in-Variable-clause-sim : goal.returns-in-Variable-clause-sim
returns-in-Variable-clause-sim c = evaluated c.in-Variable.ensures (λ x s me k sc e w q p si fs i. evaluate_variable x s me si fs i c.look_up-value.ensures)

pub returns-in-Apply-clause-sim : goal.returns-in-Apply-clause-sim
returns-in-Apply-clause-sim c =
    let t = c.operands in
    evaluated c.in-Apply.ensures (λ x s me k sc e w q p si fs i. evaluate_apply x s me si fs t.result i q p t.ensures.sim)

pub returns-in_ok-waits-in-Case-clause-sim : goal.returns-in_ok-waits-in-Case-clause-sim
returns-in_ok-waits-in-Case-clause-sim c =
    let t = c.in_ok-waits-in-Case.ensures in
    evaluated c.in-Case.ensures (λ x s me k sc e w q p si fs i. evaluate_case x s me si fs i t.grows.kept t.cases)

pub returns-in-Receive-clause-sim : goal.returns-in-Receive-clause-sim
returns-in-Receive-clause-sim c = evaluated c.in-Receive.ensures (λ x s me k sc e w q p si fs i. evaluate_receive x s me si fs i)

pub returns-in_ok-waits-in-ReceiveUntil-clause-sim : goal.returns-in_ok-waits-in-ReceiveUntil-clause-sim
returns-in_ok-waits-in-ReceiveUntil-clause-sim c =
    let t = c.in_ok-waits-in-ReceiveUntil.ensures in
    evaluated c.in-ReceiveUntil.ensures (λ x s me k sc e w q p si fs i. evaluate_until x s me si fs i t.grows.kept t.cases)

pub returns-in_ok-waits-in-Catch-clause-sim : goal.returns-in_ok-waits-in-Catch-clause-sim
returns-in_ok-waits-in-Catch-clause-sim c =
    let t = c.in_ok-waits-in-Catch.ensures in
    evaluated c.in-Catch.ensures (λ x s me k sc e w q p si fs i. evaluate_catch x s me si fs i t.cases)
