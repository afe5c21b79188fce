use Rattle.machine.proofs.Evaluating.{operands_more}
use Rattle.machine.proofs.state.Worker.operands.Goals as goal

pub returns-clause-sim : goal.returns-clause-sim
returns-clause-sim c =
    let p = c.in_ok-values.ensures in
    let f = c.in_ok-waits.ensures in
    record { to = λ x s me k sc o vs es w q i ce ch si fs. operands_more x s me si fs vs es q c.if-chain-ne-OPERAND.false ce ch c.left.ensures p.cases f.grows.kept f.cases }
