use Rattle.machine.proofs.Stepping.{unwind_bottom, unwind_catch, unwound, unwound_on}
use Rattle.machine.proofs.unwinding.unwind.Goals as goal

pub returns-in-Operands-clause-sim : goal.returns-in-Operands-clause-sim
returns-in-Operands-clause-sim c = unwound_on c.read_frame.ensures c.in-Operands.is

pub returns-in-Bottom-clause-sim : goal.returns-in-Bottom-clause-sim
returns-in-Bottom-clause-sim c = unwound c.in-Bottom.ensures (λ x s me u hv k. unwind_bottom x s me u hv)

pub returns-in_ok-pair-in-Catch-clause-sim : goal.returns-in_ok-pair-in-Catch-clause-sim
returns-in_ok-pair-in-Catch-clause-sim c =
    let t = c.in_ok-pair-in-Catch.ensures in
    unwound c.in-Catch.ensures (λ x s me u hv k i. unwind_catch x s me u hv i t.grows.kept t.cases)
