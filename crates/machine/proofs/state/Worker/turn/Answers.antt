use Rattle.machine.proofs.Taking.{turn_eval, turn_give, turn_enter, turn_fail, turn_as}
use Rattle.machine.proofs.state.Worker.turn.Goals as goal

pub returns-in-Eval-clause-sim : goal.returns-in-Eval-clause-sim
returns-in-Eval-clause-sim c = turn_as c.in-Eval.is (record { to = λ x s me q i aw ci fs. turn_eval x s me c.evaluate.result q fs i ci c.evaluate.ensures.sim })

pub returns-in-Give-clause-sim : goal.returns-in-Give-clause-sim
returns-in-Give-clause-sim c = turn_as c.in-Give.is (record { to = λ x s me q i aw ci fs. turn_give x s me c.resume.result q fs i ci c.resume.ensures.sim })

pub returns-in-Enter-clause-sim : goal.returns-in-Enter-clause-sim
returns-in-Enter-clause-sim c = turn_as c.in-Enter.is (record { to = λ x s me q i aw ci fs. turn_enter x s me c.begin_body.result q fs ci c.begin_body.ensures.sim })

pub returns-in-Fail-clause-sim : goal.returns-in-Fail-clause-sim
returns-in-Fail-clause-sim c = turn_as c.in-Fail.is (record { to = λ x s me q i aw ci fs. turn_fail x s me c.unwind.result q fs ci c.unwind.ensures.sim })
