use Rattle.machine.proofs.Resumes.{operand_added}
use Rattle.machine.proofs.state.Worker.add_operand.Goals as goal

pub returns-clause-sim : goal.returns-clause-sim
returns-clause-sim c =
    let p = c.in_ok-all.ensures in
    operand_added c.operands.result p.cases p.long c.right-rest.ensures c.operands.ensures.sim
