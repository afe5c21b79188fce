use Rattle.std.proofs.Common.{arith}
use Rattle.store_tests.proofs.Walks.{walk_ends, walk_fits, walk_on}
use Rattle.store_tests.proofs.spine_of.Goals as goal

pub returns-then-rest-lt-FIRST_NODE : goal.returns-then-rest-lt-FIRST_NODE
returns-then-rest-lt-FIRST_NODE c = λ t d.
    walk_ends c.loop-steps.steps t c.if-rest-lt-FIRST_NODE.true (c.loop-steps.invariant t d)

pub loop-steps-preserved : goal.loop-steps-preserved
loop-steps-preserved c = λ t d.
    walk_on c.loop-steps.steps t c.if-rest-lt-FIRST_NODE.false c.right-rest.ensures (c.loop-steps.invariant t d)

pub returns : goal.returns
returns c = λ t d.
    let all = walk_fits c.loop-steps.steps t c.loop-steps-test.false d (c.loop-steps.invariant t d) in
    omega (arith, all, c.loop-steps-test.false, c.loop-steps.auto.steps-end)
