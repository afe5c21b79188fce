use Rattle.machine.proofs.Awaiting.{take_found, take_late, take_waits, take_full}
use Rattle.machine.proofs.receiving.take_message.Goals as goal

pub returns-in-Some-clause-sim : goal.returns-in-Some-clause-sim
returns-in-Some-clause-sim c = record { to = λ x s me cs u w e ci h ps d. take_found x s me cs u w e ci h ps c.left.ensures c.in-Some.is c.in_ok-chosen.ensures.cases }

pub returns-in-None-clause-sim : goal.returns-in-None-clause-sim
returns-in-None-clause-sim c =
    let f = c.in_ok-chosen.ensures in
    record { to = λ x s me cs u w e ci h ps d. take_late x s me cs u w e ci h ps c.left.ensures c.right.ensures c.right-late.ensures d c.if-due.true f.grows.kept c.in-None.is f.cases }

pub returns-in-None-2-clause-sim : goal.returns-in-None-2-clause-sim
returns-in-None-2-clause-sim c = record { to = λ x s me cs u w e ci h ps d. take_waits x s me cs u w e ci h ps c.left.ensures d c.if-due.false c.in-None.is c.in_ok-chosen.ensures.cases }

pub returns-in_err-chosen-clause-sim : goal.returns-in_err-chosen-clause-sim
returns-in_err-chosen-clause-sim c = record { to = λ x s me cs u w e ci h ps d. take_full x s me cs u w e ci h ps _ c.from_residual.result c.from_residual.ensures.0 c.left.ensures c.in_err-chosen.ensures.cases }
