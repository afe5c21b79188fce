use Rattle.machine.proofs.Taking.{resume_operand, resume_bind, resume_case, resume_until, resume_catch, resume_bottom, resumed}
use Rattle.machine.proofs.state.Worker.resume.Goals as goal

pub returns-in-Operands-clause-sim : goal.returns-in-Operands-clause-sim
returns-in-Operands-clause-sim c =
    let t = c.add_operand in
    resumed c.in-Operands.ensures (λ x s me u q p hv k i. resume_operand x s me u hv t.result i q p t.ensures.sim)

pub returns-in-Bind-clause-sim : goal.returns-in-Bind-clause-sim
returns-in-Bind-clause-sim c =
    let t = c.bind in
    resumed c.in-Bind.ensures (λ x s me u q p hv k i. resume_bind x s me u hv c.args.scratch.now t.result i q t.ensures.sim)

pub returns-in-Case-clause-sim : goal.returns-in-Case-clause-sim
returns-in-Case-clause-sim c =
    let t = c.choose_clause in
    resumed c.in-Case.ensures (λ x s me u q p hv k i. resume_case x s me u hv c.args.scratch.now t.result i q t.ensures.sim)

pub returns-in-Until-clause-sim : goal.returns-in-Until-clause-sim
returns-in-Until-clause-sim c =
    resumed c.in-Until.ensures (λ x s me u q p hv k i. resume_until x s me u hv i c.wait_for.ensures)

pub returns-in_ok-pair-in-Catch-clause-sim : goal.returns-in_ok-pair-in-Catch-clause-sim
returns-in_ok-pair-in-Catch-clause-sim c =
    let t = c.in_ok-pair-in-Catch.ensures in
    resumed c.in-Catch.ensures (λ x s me u q p hv k i. resume_catch x s me u hv i t.grows.kept t.cases)

pub returns-in-Bottom-clause-sim : goal.returns-in-Bottom-clause-sim
returns-in-Bottom-clause-sim c = resumed c.in-Bottom.ensures (λ x s me u q p hv k i. resume_bottom x s me u hv i)
