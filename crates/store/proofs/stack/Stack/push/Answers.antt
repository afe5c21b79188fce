use Rattle.std.proofs.Common.{arith, ap}
use Rattle.std.proofs.lemmas.Result.{MatchResult-from_err}
use Rattle.store.specs.Stack.{cells_of}
use Rattle.store.proofs.Stacking.{length-cells_of, pushed}
use Rattle.store.proofs.stack.Stack.push.Goals as goal

pub returns-in_err-write_cell-clause-cases : goal.returns-in_err-write_cell-clause-cases
returns-in_err-write_cell-clause-cases c =
    let full = c.in_err-write_cell.ensures in
    MatchResult-from_err _ _ _ c.from_residual.ensures.0 (λ e. (
      omega (arith, full.0, length-cells_of c.args.self.now.words.now c.args.self.now.depth),
      ap (λ w. cells_of w c.args.self.now.depth) full.1,
    ))

pub returns-clause-cases : goal.returns-clause-cases
returns-clause-cases c =
    let stack = c.args.self.now in (
      omega (arith, c.in_ok-write_cell.ensures.0, length-cells_of stack.words.now stack.depth),
      pushed _ _ stack.depth c.in_ok-write_cell.ensures.1,
    )
