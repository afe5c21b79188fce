use Rattle.machine.proofs.Performs.{perform-tuple, perform-pair, perform_call, perform_no_call, perform_spawn, perform_no_spawn, perform_far_call, perform_far_spawn, perform_operate, perform_large, perform-ask, perform_unknown, performed}
use Rattle.machine.proofs.state.Worker.perform.Goals as goal

pub returns-in_ok-tuple-in-MakeTuple-clause-sim : goal.returns-in_ok-tuple-in-MakeTuple-clause-sim
returns-in_ok-tuple-in-MakeTuple-clause-sim c =
    let t = c.in_ok-tuple-in-MakeTuple.ensures in
    performed c.in-MakeTuple.ensures (λ x s me k o vs w q p sw ch fs i. perform-tuple x s me w fs vs i ch t.grows.kept t.cases)

pub returns-in_ok-pair-in-MakePair-clause-sim : goal.returns-in_ok-pair-in-MakePair-clause-sim
returns-in_ok-pair-in-MakePair-clause-sim c =
    let t = c.in_ok-pair-in-MakePair.ensures in
    performed c.in-MakePair.ensures (λ x s me k o vs w q p sw ch fs i. perform-pair x s me w fs vs i ch t.grows.kept t.cases)

pub returns-in-Some-clause-sim : goal.returns-in-Some-clause-sim
returns-in-Some-clause-sim c = performed c.in-Call.ensures (λ x s me k o vs w q p sw ch fs i. perform_call x s me w fs q sw vs i ch c.in-Some.ensures)

pub returns-in-None-clause-sim : goal.returns-in-None-clause-sim
returns-in-None-clause-sim c = performed c.in-Call.ensures (λ x s me k o vs w q p sw ch fs i. perform_no_call x s me w fs q sw vs i ch c.in-None.ensures)

pub returns-in-Some-enter_function-clause-sim : goal.returns-in-Some-enter_function-clause-sim
returns-in-Some-enter_function-clause-sim c =
    performed c.in-Spawn.ensures (λ x s me k o vs w q p sw ch fs i. perform_spawn x s me w fs q sw vs i ch c.in-Some-enter_function.ensures)

pub returns-in-None-enter_function-clause-sim : goal.returns-in-None-enter_function-clause-sim
returns-in-None-enter_function-clause-sim c =
    performed c.in-Spawn.ensures (λ x s me k o vs w q p sw ch fs i. perform_no_spawn x s me w fs q sw vs i ch c.in-None-enter_function.ensures)

pub returns-in-FarCall-clause-sim : goal.returns-in-FarCall-clause-sim
returns-in-FarCall-clause-sim c = performed c.in-FarCall.ensures (λ x s me k o vs w q p sw ch fs i. perform_far_call x s me w fs vs i ch)

pub returns-in-FarSpawn-clause-sim : goal.returns-in-FarSpawn-clause-sim
returns-in-FarSpawn-clause-sim c = performed c.in-FarSpawn.ensures (λ x s me k o vs w q p sw ch fs i. perform_far_spawn x s me w fs vs i ch)

pub returns-in_ok-control-in-Operate-clause-sim : goal.returns-in_ok-control-in-Operate-clause-sim
returns-in_ok-control-in-Operate-clause-sim c =
    let t = c.in_ok-control-in-Operate.ensures in
    performed c.in-Operate.ensures (λ x s me k o vs w q p sw ch fs i. perform_operate x s me w fs vs i ch t)

pub returns-in_err-control-in-Operate-clause-sim : goal.returns-in_err-control-in-Operate-clause-sim
returns-in_err-control-in-Operate-clause-sim c =
    let t = c.in_err-control-in-Operate.ensures in
    let h = c.from_residual-in_err-control-in-Operate in
    performed c.in-Operate.ensures (λ x s me k o vs w q p sw ch fs i. perform_large x s me w fs h.result h.ensures.1 vs i ch t)

pub returns-in-BuiltIn-clause-sim : goal.returns-in-BuiltIn-clause-sim
returns-in-BuiltIn-clause-sim c = performed c.in-BuiltIn.ensures (λ x s me k o vs w q p sw ch fs i. perform-ask x s me w fs vs i p ch c.ask.ensures)

pub returns-in-Unknown-clause-sim : goal.returns-in-Unknown-clause-sim
returns-in-Unknown-clause-sim c = performed c.in-Unknown.ensures (λ x s me k o vs w q p sw ch fs i. perform_unknown i)
