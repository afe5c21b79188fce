use Rattle.store.proofs.Growth.{grows_on, grows_put}
use Rattle.code.proofs.Turning.{turning_goes_on, turned}
use Rattle.code.proofs.chain.turn.Goals as goal

pub values-preserved : goal.values-preserved
values-preserved c =
    let p = c.in_ok-done.ensures in
    let g = grows_put p.long p.cases in (
      grows_on c.values.invariant.0 g,
      turning_goes_on c.values-test.true c.both-cell.ensures.left c.both-cell.ensures.right g p.cases
          c.values.invariant.1,
    )

pub returns-clause-cases : goal.returns-clause-cases
returns-clause-cases c = turned c.values-test.false c.values.invariant.1
